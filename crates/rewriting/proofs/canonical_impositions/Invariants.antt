use mathlib.Core.Path.{◌≡◌}
use mathlib.Core.List.{map}
use Prim.Native.Nat.{◌≤◌, ◌-◌}
use lib.ListN.{length, take}
use Rattle.el_rows.specs.View.{links_in}
use Rattle.semantics.specs.Structure.{canonical_fact}
use Rattle.facts.specs.View.{fact_of}
use Rattle.rewriting.proofs.canonical_impositions.Given as goal

abbrev pub invariant-loop-i : goal.invariant-loop-i
invariant-loop-i l = (l.i ≤ l.size) × (l.done.len ≡ l.impositions.len) × (length l.done.items ≡ length l.impositions.items)
    × (map fact_of (take l.i l.done.items) ≡ map (canonical_fact (links_in l.els)) (map fact_of (take l.i l.impositions.items)))

abbrev pub decreases-loop-i : goal.decreases-loop-i
decreases-loop-i l = l.size - l.i
