-- `refused_line` meets its contract.
use mathlib.Core.Path.{◌∙◌}
use mathlib.Core.List.{[], ◌∷◌}
use native.Mathlib.Omega.{arith}
use Rattle.semantics.specs.Sheet.{space, newline, refused_word, at_word}
use Rattle.lines.proofs.Whole.{begun, with, with_numbers, whole, refused_parts}
use Rattle.lines.proofs.refused_line.Goals as goal

pub returns : goal.returns
returns c =
    whole
    (with
    (with_numbers
    (with
    (with_numbers (with (begun c.new.ensures) refused_word c.put_word.ensures) _ c.put_number.ensures)
    (space ∷ at_word)
    c.put_word-2.ensures)
    _
    c.put_number-2.ensures)
    (newline ∷ [])
    c.put.ensures)
    (omega arith)
    ∙ refused_parts _ _
