use mathlib.Core.Path.{◌≡◌}
use mathlib.Core.List.{map}
use Prim.Native.Nat.{◌-◌, ◌≤◌}
use lib.ListN.{length, take}
use Rattle.ids.specs.Ids.{el_of}
use Rattle.unification.specs.Roots.{root_of}
use Rattle.el_rows.specs.View.{links_in}
use Rattle.conflicts.proofs.find_parents.Given as goal

abbrev pub invariant-loop-i : goal.invariant-loop-i
invariant-loop-i l = (l.i ≤ l.k) × (l.finds ≡ l.i) × (l.roots.len ≡ l.parents.len) × (length l.roots.ids ≡ length l.parents.ids)
    × (map el_of (take l.i l.roots.ids) ≡ map (root_of (links_in l.els)) (map el_of (take l.i l.parents.ids)))

abbrev pub decreases-loop-i : goal.decreases-loop-i
decreases-loop-i l = l.k - l.i
