use mathlib.Core.Path.{◌≡◌}
use Prim.Native.Nat.{ℕ, ◌≤◌, ◌<◌, ◌-◌}
use lib.ListN.{length, get_or}
use Rattle.unification.specs.Roots.{max_els}
use Rattle.unification.proofs.Unification.new.Given as goal

abbrev pub invariant-loop-i : goal.invariant-loop-i
invariant-loop-i l = (l.i ≤ max_els) × (length l.links ≡ max_els) × ((k : ℕ) → k < l.i → get_or l.links k 0 ≡ k)

abbrev pub decreases-loop-i : goal.decreases-loop-i
decreases-loop-i l = max_els - l.i
