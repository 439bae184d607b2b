-- `apply_func` meets its contract.
use mathlib.Core.Path.{ap, ◌∙◌}
use Rattle.semantics.specs.Structure.{func_app}
use Rattle.semantics.specs.Calls.{apply_func, step}
use Rattle.semantics.specs.Sheet.{func_app_form}
use Rattle.apps.specs.declared.FuncApp.{FuncApp}
use Rattle.structure.specs.View.{machine_of}
use Rattle.inserting.specs.View.{given_func_app}
use Rattle.carrying.specs.View.{with_conflicts}
use Rattle.carrying.proofs.apply_func.Goals as goal

pub returns : goal.returns
unfolding func_app_form
returns c =
    let a = c.args in
    c.after_step.ensures
    ∙ ap with_conflicts (c.insert_func_app_or_equate.ensures
    ∙ ap (λ (x : FuncApp). step (apply_func (given_func_app x)) (machine_of a.machine)) c.new-app.ensures
    ∙ (λ i. step (apply_func (func_app a.given.a (c.els_in-parents.ensures i) (c.els_in-args.ensures i) a.given.b)) (machine_of a.machine)))
