-- `after_record` meets its contract.
use Rattle.sheet.proofs.Laws.{both, answered, passes}
use mathlib.Core.Path.{refl, ◌∙◌}
use Rattle.sheet.specs.Pieces.{answer_piece}
use Rattle.sheet.proofs.after_record.Goals as goal

pub returns-in-Refused : goal.returns-in-Refused
unfolding answer_piece
returns-in-Refused c =
    let a = c.args in
    let at = a.position in
    answered a.carried a.index at.count at.index at.done c.in-Refused.is c.refuse.ensures

pub returns-in-Closed : goal.returns-in-Closed
unfolding answer_piece
returns-in-Closed c =
    let a = c.args in
    let at = a.position in
    answered a.carried a.index at.count at.index at.done c.in-Closed.is (c.pass.ensures ∙ both c.close_line.ensures refl)

pub returns-in-Conflicting : goal.returns-in-Conflicting
unfolding answer_piece
returns-in-Conflicting c =
    let a = c.args in
    let at = a.position in
    answered a.carried a.index at.count at.index at.done c.in-Conflicting.is (both c.new.ensures refl)

pub returns-in-Summed : goal.returns-in-Summed
unfolding answer_piece
returns-in-Summed c =
    let a = c.args in
    let at = a.position in
    answered a.carried a.index at.count at.index at.done c.in-Summed.is (c.pass-in-Summed.ensures ∙ both c.settle_line.ensures refl)

pub returns-in-Number : goal.returns-in-Number
returns-in-Number c =
    let a = c.args in
    let at = a.position in
    passes a.carried a.index at.count at.index at.done c.in-Number.is (c.pass-in-Number.ensures ∙ both c.new-in-Number.ensures refl)
