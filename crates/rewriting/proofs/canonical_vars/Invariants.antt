use mathlib.Core.Path.{◌≡◌}
use mathlib.Core.List.{map}
use Prim.Native.Nat.{◌-◌}
use lib.ListN.{length, take}
use Rattle.unification.specs.Roots.{root_of}
use Rattle.el_rows.specs.View.{links_in}
use Rattle.semantics.specs.Structure.{max_vars}
use Rattle.rewriting.proofs.Laws.{slot_by}
use Rattle.rewriting.proofs.canonical_vars.Given as goal

abbrev pub invariant-loop-i : goal.invariant-loop-i
invariant-loop-i l = (length l.done.slots ≡ length l.vars.slots)
    × (take l.i l.done.slots ≡ map (slot_by (root_of (links_in l.els))) (take l.i l.vars.slots))

abbrev pub decreases-loop-i : goal.decreases-loop-i
decreases-loop-i l = max_vars - l.i
