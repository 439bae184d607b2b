use mathlib.Core.Path.{◌≡◌}
use lib.ListN.{take}
use Rattle.close.proofs.clear.Given as goal

abbrev pub invariant-loop-i : goal.invariant-loop-i
invariant-loop-i g l = take l.n l.rows ≡ take l.n l.initial.rows
