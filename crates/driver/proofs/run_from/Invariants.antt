use mathlib.Core.Path.{◌≡◌}
use Prim.Native.Nat.{◌-◌, ◌≤◌}
use Rattle.structure.specs.View.{machine_of}
use Rattle.driver.specs.Calls.{list_before}
use Rattle.driver.specs.View.{responded_of}
use Rattle.carrying.specs.View.{with_conflicts}
use Rattle.driver.proofs.run_from.Given as goal

-- the given machine is moved before the loop: the one beside the first answer is as it was
abbrev pub invariant-loop-i : goal.invariant-loop-i
invariant-loop-i l = (l.i ≤ l.count) × (responded_of l.last ≡ with_conflicts (list_before (machine_of l.initial.last.machine) l.bytes l.i))

abbrev pub decreases-loop-i : goal.decreases-loop-i
decreases-loop-i l = l.count - l.i
