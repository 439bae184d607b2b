use Rattle.sheet.specs.Pieces.{pieces_of}
use Rattle.sheet.specs.View.{progress_of}
use Rattle.pages.proofs.Laws.{Growing}
use Rattle.pages.proofs.fill.Given as goal

abbrev pub invariant-loop-n : goal.invariant-loop-n
invariant-loop-n l = Growing l.bytes (progress_of l.initial.at) l.text l.n (progress_of l.at)

abbrev pub decreases-loop-n : goal.decreases-loop-n
decreases-loop-n l = pieces_of l.bytes (progress_of l.at)
