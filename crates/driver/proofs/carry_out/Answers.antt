-- `carry_out` meets its contract.
use mathlib.Core.Path.{◌∙◌, ap}
use Rattle.semantics.specs.Calls.{lookup_type, ambient_parents, step}
use Rattle.semantics.specs.Sheet.{carry_out}
use Rattle.records.specs.View.{record_view}
use Rattle.structure.specs.View.{machine_of}
use Rattle.driver.specs.Calls.{call_at}
use Rattle.carrying.specs.View.{with_conflicts}
use Rattle.driver.proofs.Laws.{of_kind, as_sheet}
use native.Mathlib.Omega.{arith}
use Rattle.driver.proofs.carry_out.Goals as goal

pub returns-in-101 : goal.returns-in-101
unfolding call_at carry_out
returns-in-101 c =
    let a = c.args in
    c.find_root.ensures ∙ ap with_conflicts (of_kind (record_view a.given) (machine_of a.machine) c.in-101.is)

pub returns-in-102 : goal.returns-in-102
unfolding call_at carry_out
returns-in-102 c =
    let a = c.args in
    c.find_root_const.ensures ∙ ap with_conflicts (of_kind (record_view a.given) (machine_of a.machine) c.in-102.is)

pub returns-in-103 : goal.returns-in-103
unfolding call_at carry_out
returns-in-103 c =
    let a = c.args in
    c.look_up_type.ensures
    ∙ ap with_conflicts ((λ i. step (lookup_type a.given.a (c.els_in.ensures i)) (machine_of a.machine))
    ∙ of_kind (record_view a.given) (machine_of a.machine) c.in-103.is)

pub returns-in-104 : goal.returns-in-104
unfolding call_at carry_out
returns-in-104 c =
    let a = c.args in
    c.look_up_ambients.ensures
    ∙ ap with_conflicts ((λ i. step (ambient_parents (c.types_in.ensures i)) (machine_of a.machine))
    ∙ of_kind (record_view a.given) (machine_of a.machine) c.in-104.is)

pub returns-in_default : goal.returns-in_default
returns-in_default c =
    let a = c.args in
    c.carry_out_as_sheet.ensures
    ∙ ap with_conflicts (as_sheet (record_view a.given) (machine_of a.machine) a.given.kind (λ e. omega arith) (λ e. omega arith) (λ e. omega arith) (λ e. omega arith))
