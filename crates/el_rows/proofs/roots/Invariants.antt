use mathlib.Core.Path.{◌≡◌}
use mathlib.Core.List.{map}
use Prim.Native.Nat.{◌-◌, ◌≤◌}
use lib.ListN.{length, take}
use Rattle.ids.specs.Ids.{el_of}
use Rattle.unification.specs.Roots.{root_of}
use Rattle.el_rows.specs.View.{links_in}
use Rattle.el_rows.proofs.roots.Given as goal

abbrev pub invariant-loop-i : goal.invariant-loop-i
invariant-loop-i l = (l.i ≤ l.k) × (l.out.len ≡ l.list.len) × (length l.out.ids ≡ length l.list.ids)
    × (map el_of (take l.i l.out.ids) ≡ map (root_of (links_in l.els)) (map el_of (take l.i l.list.ids)))

abbrev pub decreases-loop-i : goal.decreases-loop-i
decreases-loop-i l = l.k - l.i
