-- `end_line` meets its contract.
use mathlib.Core.Path.{◌∙◌}
use mathlib.Core.List.{[], ◌∷◌}
use native.Mathlib.Omega.{arith}
use Rattle.semantics.specs.Sheet.{newline, end_word}
use Rattle.lines.proofs.Whole.{begun, with, with_numbers, whole, end_parts}
use Rattle.lines.proofs.end_line.Goals as goal

pub returns : goal.returns
returns c =
    whole
    (with (with_numbers (with (begun c.new.ensures) end_word c.put_word.ensures) _ c.put_number.ensures) (newline ∷ []) c.put.ensures)
    (omega arith)
    ∙ end_parts _
