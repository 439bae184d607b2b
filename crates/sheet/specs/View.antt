-- A sheet under way and a piece of it, as the definitions speak of them.
use Rattle.conflicts.specs.View.{conflicts_of}
use Rattle.lines.specs.View.{line_of}
use Rattle.structure.specs.View.{machine_of}
use Rattle.sheet.specs.Pieces.{ProgressM, PieceM}
use Rattle.sheet.specs.declared.Progress.{Progress}
use Rattle.sheet.specs.declared.Piece.{Piece}

abbrev pub progress_of : Progress → ProgressM
progress_of p = record {
  stage = p.stage;
  machine = machine_of p.machine;
  count = p.position.count;
  index = p.position.index;
  done = p.position.done;
  conflicts = conflicts_of p.conflicts;
  printed = p.printed;
}

abbrev pub piece_of : Piece → PieceM
piece_of r = record { line = line_of r.line; progress = progress_of r.progress }
