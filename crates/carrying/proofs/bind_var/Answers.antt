-- `bind_var` meets its contract.
use mathlib.Core.Path.{ap, ◌∙◌}
use Rattle.signature.specs.Model.{sig_of}
use Rattle.semantics.specs.Sheet.{var_form}
use Rattle.carrying.specs.View.{with_conflicts}
use Rattle.carrying.proofs.bind_var.Goals as goal

pub returns : goal.returns
unfolding var_form
returns c = let a = c.args in c.after_step.ensures ∙ ap with_conflicts (c.insert_var_el.ensures (sig_of a.machine.signature))
