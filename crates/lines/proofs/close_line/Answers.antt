-- `close_line` meets its contract.
use mathlib.Core.Path.{◌∙◌}
use mathlib.Core.List.{[], ◌∷◌}
use native.Mathlib.Omega.{arith}
use Rattle.semantics.specs.Sheet.{newline, close_word}
use Rattle.lines.proofs.Whole.{begun, with, with_numbers, whole, close_parts}
use Rattle.lines.proofs.close_line.Goals as goal

pub returns : goal.returns
returns c =
    whole
    (with
    (with_numbers
    (with_numbers
    (with_numbers
    (with_numbers (with (begun c.new.ensures) close_word c.put_word.ensures) _ c.put_number.ensures)
    _
    c.put_spaced.ensures)
    _
    c.put_spaced-2.ensures)
    _
    c.put_spaced-3.ensures)
    (newline ∷ [])
    c.put.ensures)
    (omega arith)
    ∙ close_parts _ c.bit.ensures
