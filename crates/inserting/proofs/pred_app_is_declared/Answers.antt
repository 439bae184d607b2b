-- `pred_app_is_declared` meets its contract.
use mathlib.Core.Path.{◌∙◌}
use Rattle.apps.specs.View.{pred_app_of}
use Rattle.inserting.specs.View.{pred_app_within}
use Rattle.inserting.proofs.pred_app_is_declared.Goals as goal

pub returns : goal.returns
returns c =
    c.pred_app_is_within.ensures
    ∙ (λ i. pred_app_within (c.size.ensures.is i) (c.size-2.ensures.is i) (pred_app_of c.args.app))
