-- `push_model` meets its contract.
use mathlib.Core.Path.{ap, ◌∙◌}
use Rattle.semantics.specs.Sheet.{model_form}
use Rattle.carrying.specs.View.{with_conflicts}
use Rattle.carrying.proofs.push_model.Goals as goal

pub returns : goal.returns
unfolding model_form
returns c = c.after_declaring.ensures ∙ ap with_conflicts c.push_model.ensures
