use mathlib.Core.Path.{◌≡◌}
use Prim.Native.Nat.{ℕ, ◌+◌, ◌*◌}
use lib.ListN.{get_or}
use Rattle.decoding.proofs.Reading.{FilledBy}
use Rattle.decoding.proofs.row_at.Given as goal

abbrev pub invariant-loop-j : goal.invariant-loop-j
invariant-loop-j l = (l.from ≡ l.j * l.n + l.i) × FilledBy (λ (m : ℕ). get_or l.columns (m * l.n + l.i) 0) l.k 12 l.row l.j
