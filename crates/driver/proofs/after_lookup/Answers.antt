-- `after_lookup` meets its contract.
use mathlib.Core.Path.{◌∙◌, sym, ap}
use Rattle.ids.specs.Ids.{given_els}
use Rattle.signature.specs.declared.Typed.{Typed}
use Rattle.signature.specs.Calls.{typed_of}
use Rattle.semantics.specs.Calls.{typed, leading, answers}
use Rattle.structure.specs.View.{machine_of}
use Rattle.carrying.specs.View.{with_conflicts}
use Rattle.driver.proofs.Laws.{type_found}
use Rattle.driver.proofs.after_lookup.Goals as goal

pub returns-in-At : goal.returns-in-At
returns-in-At c =
    let a = c.args in
    c.respond.ensures
    ∙ ap with_conflicts (type_found (machine_of a.machine) (given_els a.parents) _ _ c.leading.ensures c.in-At.is)

pub returns-in-Absent : goal.returns-in-Absent
unfolding leading
returns-in-Absent c =
    let a = c.args in
    c.respond-in-Absent.ensures
    ∙ ap (λ (x : Typed). with_conflicts (answers (typed (leading (given_els a.parents) (typed_of x))) (machine_of a.machine))) (sym c.in-Absent.is)
