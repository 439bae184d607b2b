-- The loop of `print`.
use Rattle.sheet.specs.Pieces.{pieces_of, rest_of}
use Rattle.sheet.specs.View.{progress_of}
use Rattle.printing.proofs.Laws.{Written}
use Rattle.printing.proofs.print.Given as goal

-- what was written so far, and what is to be printed from here on
abbrev pub invariant-loop-text : goal.invariant-loop-text
invariant-loop-text g l =
    Written (g.W.Write.contents l.initial.to) (g.W.Write.contents l.to) (rest_of l.bytes (progress_of l.initial.progress)).printed (rest_of l.bytes (progress_of l.progress)).printed

abbrev pub decreases-loop-text : goal.decreases-loop-text
decreases-loop-text g l = pieces_of l.bytes (progress_of l.progress)
