use Rattle.sheet.specs.Pieces.{pieces_of}
use Rattle.sheet.specs.View.{progress_of, piece_of}
use Rattle.resuming.proofs.Laws.{Going}
use Rattle.resuming.proofs.finish.Given as goal

abbrev pub invariant-loop-piece : goal.invariant-loop-piece
invariant-loop-piece l = Going l.bytes (piece_of l.initial.piece) (piece_of l.piece)

abbrev pub decreases-loop-piece : goal.decreases-loop-piece
decreases-loop-piece l = pieces_of l.bytes (progress_of l.piece.progress)
