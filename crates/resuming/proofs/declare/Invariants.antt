use Rattle.sheet.specs.Pieces.{start_of, pieces_of}
use Rattle.sheet.specs.View.{progress_of, piece_of}
use Rattle.resuming.proofs.Laws.{Waits}
use Rattle.resuming.proofs.declare.Given as goal

abbrev pub invariant-loop-piece : goal.invariant-loop-piece
invariant-loop-piece l = Waits l.bytes (start_of l.length) (piece_of l.piece)

abbrev pub decreases-loop-piece : goal.decreases-loop-piece
decreases-loop-piece l = pieces_of l.bytes (progress_of l.piece.progress)
