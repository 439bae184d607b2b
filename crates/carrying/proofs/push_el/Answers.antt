-- `push_el` meets its contract.
use mathlib.Core.Path.{ap, ◌∙◌}
use Rattle.signature.specs.Model.{sig_of}
use Rattle.semantics.specs.Sheet.{el_form}
use Rattle.carrying.specs.View.{with_conflicts}
use Rattle.carrying.proofs.push_el.Goals as goal

pub returns : goal.returns
unfolding el_form
returns c = let a = c.args in c.after_step.ensures ∙ ap with_conflicts (c.push_el.ensures (sig_of a.machine.signature))
