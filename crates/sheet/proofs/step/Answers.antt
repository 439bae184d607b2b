-- `step` meets its contract.
use Rattle.sheet.proofs.Laws.{both, at_stage}
use mathlib.Core.Path.{refl}
use Rattle.records.specs.View.{record_view}
use Rattle.sheet.specs.Pieces.{piece_at}
use Rattle.sheet.specs.View.{progress_of}
use Rattle.sheet.proofs.step.Goals as goal

pub returns-in-Refusing : goal.returns-in-Refusing
unfolding piece_at
returns-in-Refusing c =
    let a = c.args in at_stage (record_view a.given) (progress_of a.progress) c.in-Refusing.is c.refuse.ensures

pub returns-in-Visiting : goal.returns-in-Visiting
unfolding piece_at
returns-in-Visiting c =
    let a = c.args in at_stage (record_view a.given) (progress_of a.progress) c.in-Visiting.is c.visit.ensures

pub returns-in-Listing : goal.returns-in-Listing
unfolding piece_at
returns-in-Listing c =
    let a = c.args in at_stage (record_view a.given) (progress_of a.progress) c.in-Listing.is c.list.ensures

pub returns-in-Ending : goal.returns-in-Ending
unfolding piece_at
returns-in-Ending c =
    let a = c.args in at_stage (record_view a.given) (progress_of a.progress) c.in-Ending.is c.end.ensures

pub returns-in-Ended : goal.returns-in-Ended
unfolding piece_at
returns-in-Ended c =
    let a = c.args in at_stage (record_view a.given) (progress_of a.progress) c.in-Ended.is (both c.new-line.ensures refl)
