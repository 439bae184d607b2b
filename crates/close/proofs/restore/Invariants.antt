use mathlib.Core.Path.{◌≡◌}
use lib.ListN.{take}
use Rattle.close.proofs.restore.Given as goal

abbrev pub invariant-loop-i : goal.invariant-loop-i
invariant-loop-i l = take l.n l.facts ≡ take l.n l.initial.facts
