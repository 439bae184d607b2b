-- `conflict_line` meets its contract.
use mathlib.Core.Path.{◌∙◌}
use mathlib.Core.List.{[], ◌∷◌}
use native.Mathlib.Omega.{arith}
use Rattle.semantics.specs.Sheet.{space, slash, newline, conflict_word}
use Rattle.lines.proofs.Whole.{begun, with, with_numbers, whole, conflict_parts}
use Rattle.lines.proofs.conflict_line.Goals as goal

pub returns : goal.returns
returns c =
    whole
    (with
    (with_numbers
    (with
    (with_numbers
    (with_numbers (with (begun c.new.ensures) conflict_word c.put_word.ensures) _ c.put_number.ensures)
    _
    c.put_fact.ensures)
    (space ∷ slash ∷ [])
    c.put_word-2.ensures)
    _
    c.put_fact-2.ensures)
    (newline ∷ [])
    c.put.ensures)
    (omega arith)
    ∙ conflict_parts _
