-- `apply_pred` meets its contract.
use mathlib.Core.Path.{ap, ◌∙◌}
use Rattle.semantics.specs.Structure.{pred_app}
use Rattle.semantics.specs.Calls.{apply_pred, step}
use Rattle.semantics.specs.Sheet.{pred_app_form}
use Rattle.apps.specs.declared.PredApp.{PredApp}
use Rattle.structure.specs.View.{machine_of}
use Rattle.inserting.specs.View.{given_pred_app}
use Rattle.carrying.specs.View.{with_conflicts}
use Rattle.carrying.proofs.apply_pred.Goals as goal

pub returns : goal.returns
unfolding pred_app_form
returns c =
    let a = c.args in
    c.after_step.ensures
    ∙ ap with_conflicts (c.insert_pred_app.ensures
    ∙ ap (λ (x : PredApp). step (apply_pred (given_pred_app x)) (machine_of a.machine)) c.new-app.ensures
    ∙ (λ i. step (apply_pred (pred_app a.given.a (c.els_in-parents.ensures i) (c.els_in-args.ensures i))) (machine_of a.machine)))
