-- The loop of `write_all`.
use Rattle.std.proofs.Common.{length}
use Rattle.printing.proofs.Laws.{Written}
use Rattle.printing.proofs.write_all.Given as goal

-- what was written so far, and what is to be written from here on
abbrev pub invariant-loop-rest : goal.invariant-loop-rest
invariant-loop-rest g l =
    Written (g.W.Write.contents l.initial.to) (g.W.Write.contents l.to) l.bytes l.rest

abbrev pub decreases-loop-rest : goal.decreases-loop-rest
decreases-loop-rest g l = length l.rest
