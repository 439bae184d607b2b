-- `app_is_declared` meets its contract.
use mathlib.Core.Path.{◌∙◌}
use Rattle.apps.specs.View.{func_app_of}
use Rattle.inserting.specs.View.{app_within}
use Rattle.inserting.proofs.app_is_declared.Goals as goal

pub returns : goal.returns
returns c =
    c.app_is_within.ensures
    ∙ (λ i. app_within (c.size.ensures.is i) (c.size-2.ensures.is i) (func_app_of c.args.app))
