use Prim.Native.Nat.{◌-◌}
use Rattle.decoding.proofs.Owners.{Owned}
use Rattle.decoding.proofs.owners_in.Given as goal

abbrev pub invariant-loop-e : goal.invariant-loop-e
invariant-loop-e l = Owned l.heads l.els l.n l.owners l.e

abbrev pub decreases-loop-e : goal.decreases-loop-e
decreases-loop-e l = l.els - l.e
