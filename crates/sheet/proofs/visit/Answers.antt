-- `visit` meets its contract.
use Rattle.ids.proofs.Tests.{told}
use Rattle.carrying.proofs.Laws.{carried_step_lem}
use Rattle.sheet.proofs.Laws.{visited_broken, visited_whole}
use Rattle.sheet.specs.View.{progress_of}
use Rattle.records.specs.View.{record_view}
use Rattle.sheet.proofs.visit.Goals as goal

pub returns-then-is_broken : goal.returns-then-is_broken
returns-then-is_broken c =
    let a = c.args in
    visited_broken (record_view a.given) (progress_of a.progress) c.visited-at.ensures.0 (told c.is_broken.ensures c.if-is_broken.true) c.refuse.ensures

pub returns : goal.returns
returns c =
    let a = c.args in
    visited_whole (record_view a.given) (progress_of a.progress) c.visited-at.ensures.0
    (told c.is_broken.ensures c.if-is_broken.false)
    (carried_step_lem c.carry_out-carried.result c.carry_out-carried.ensures)
    c.after_record.ensures
