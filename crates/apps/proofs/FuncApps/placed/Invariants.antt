use Prim.Native.Nat.{◌≤◌}
use Rattle.ids.proofs.Shift.{Shifted}
use Rattle.apps.proofs.FuncApps.placed.Given as goal

abbrev pub invariant-loop-i : goal.invariant-loop-i
invariant-loop-i l = (l.at ≤ l.i) × ((l.i ≤ l.n) × Shifted l.initial.next.items l.next.items l.n l.i)

abbrev pub decreases-loop-i : goal.decreases-loop-i
decreases-loop-i l = l.i
