-- `conflicts_line` meets its contract.
use mathlib.Core.Path.{◌∙◌}
use mathlib.Core.List.{[], ◌∷◌}
use native.Mathlib.Omega.{arith}
use Rattle.semantics.specs.Sheet.{newline, conflicts_word}
use Rattle.lines.proofs.Whole.{begun, with, with_numbers, whole, conflicts_parts}
use Rattle.lines.proofs.conflicts_line.Goals as goal

pub returns : goal.returns
returns c =
    whole
    (with (with_numbers (with (begun c.new.ensures) conflicts_word c.put_word.ensures) _ c.put_number.ensures) (newline ∷ []) c.put.ensures)
    (omega arith)
    ∙ conflicts_parts _
