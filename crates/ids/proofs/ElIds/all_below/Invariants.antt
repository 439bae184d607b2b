use mathlib.Core.Path.{◌≡◌}
use Prim.Native.Nat.{◌-◌}
use lib.ListN.{drop}
use Rattle.ids.specs.Ids.{els_of, all_below}
use Rattle.ids.proofs.ElIds.all_below.Given as goal

abbrev pub invariant-loop-i : goal.invariant-loop-i
invariant-loop-i l = all_below l.n (drop l.i (els_of l.self)) ≡ all_below l.n (els_of l.self)

abbrev pub decreases-loop-i : goal.decreases-loop-i
decreases-loop-i l = l.size - l.i
