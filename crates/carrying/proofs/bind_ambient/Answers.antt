-- `bind_ambient` meets its contract.
use mathlib.Core.Path.{ap, ◌∙◌}
use Rattle.semantics.specs.Sheet.{ambient_form}
use Rattle.carrying.specs.View.{with_conflicts}
use Rattle.carrying.proofs.bind_ambient.Goals as goal

pub returns : goal.returns
unfolding ambient_form
returns c = c.after_step.ensures ∙ ap with_conflicts c.insert_ambient_model_el.ensures
