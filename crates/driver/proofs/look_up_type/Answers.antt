-- `look_up_type` meets its contract.
use mathlib.Core.Path.{◌∙◌, ap}
use Rattle.ids.specs.Ids.{given_els}
use Rattle.semantics.proofs.Judged.{looked_up}
use Rattle.structure.specs.View.{machine_of}
use Rattle.carrying.specs.View.{with_conflicts}
use Rattle.driver.proofs.Laws.{looked_up_lem}
use Rattle.driver.proofs.look_up_type.Goals as goal

pub returns-in-Looked : goal.returns-in-Looked
unfolding looked_up
returns-in-Looked c =
    let a = c.args in
    c.after_lookup.ensures
    ∙ ap with_conflicts (looked_up_lem (machine_of a.machine) a.typ.0 (given_els a.parents) c.in-Looked.is c.lookup_type.ensures)

pub returns-in-Refused : goal.returns-in-Refused
unfolding looked_up
returns-in-Refused c =
    let a = c.args in
    c.refuse.ensures
    ∙ ap with_conflicts (looked_up_lem (machine_of a.machine) a.typ.0 (given_els a.parents) c.in-Refused.is c.lookup_type.ensures)
