use mathlib.Core.Path.{◌≡◌}
use mathlib.Core.List.{◌++◌}
use Prim.Native.Nat.{◌≤◌, ◌-◌}
use lib.ListN.{length, drop}
use Rattle.ids.specs.Limits.{max_list}
use Rattle.ids.specs.Ids.{els_of, types_of}
use Rattle.semantics.specs.Calls.{have_ambients, ambient_els}
use Rattle.bindings.specs.View.{ambients_of}
use Rattle.structure.proofs.Structure.ambient_els.Given as goal

abbrev pub invariant-loop-i : goal.invariant-loop-i
invariant-loop-i l = (l.els.len ≡ l.i) × (length l.els.ids ≡ max_list)
    × (have_ambients (drop l.i (types_of l.types)) (ambients_of l.table) ≡ have_ambients (types_of l.types) (ambients_of l.table))
    × (els_of l.els ++ ambient_els (drop l.i (types_of l.types)) (ambients_of l.table) ≡ ambient_els (types_of l.types) (ambients_of l.table))
    × (l.i ≤ l.n)

abbrev pub decreases-loop-i : goal.decreases-loop-i
decreases-loop-i l = l.n - l.i
