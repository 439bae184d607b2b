use mathlib.Core.Path.{◌≡◌}
use Rattle.sheet.specs.Pieces.{pieces_of}
use Rattle.sheet.specs.View.{progress_of, piece_of}
use Rattle.pechunaq.specs.Session.{whole_records, up_to_line}
use Rattle.pechunaq.proofs.up_to_line.Given as goal

abbrev pub invariant-loop-next : goal.invariant-loop-next
invariant-loop-next l = up_to_line (whole_records l.sheet) (piece_of l.piece) ≡ up_to_line (whole_records l.sheet) (piece_of l.initial.piece)

abbrev pub decreases-loop-next : goal.decreases-loop-next
decreases-loop-next l = pieces_of (whole_records l.sheet) (progress_of l.piece.progress)
