-- `push_mor_app_func` meets its contract.
use mathlib.Core.Path.{ap, ◌∙◌}
use Rattle.semantics.specs.Sheet.{mor_app_form}
use Rattle.carrying.specs.View.{with_conflicts}
use Rattle.carrying.proofs.push_mor_app_func.Goals as goal

pub returns : goal.returns
unfolding mor_app_form
returns c = c.after_declaring.ensures ∙ ap with_conflicts c.push_mor_app_func.ensures
