-- `equate` meets its contract.
use mathlib.Core.Path.{ap, ◌∙◌}
use Rattle.signature.specs.Model.{sig_of}
use Rattle.semantics.specs.Sheet.{equality_form}
use Rattle.carrying.specs.View.{with_conflicts}
use Rattle.carrying.proofs.equate.Goals as goal

pub returns : goal.returns
unfolding equality_form
returns c = let a = c.args in c.after_step.ensures ∙ ap with_conflicts (c.equate.ensures (sig_of a.machine.signature))
