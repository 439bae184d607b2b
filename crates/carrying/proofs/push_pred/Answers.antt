-- `push_pred` meets its contract.
use mathlib.Core.Path.{ap, ◌∙◌}
use Rattle.signature.specs.Model.{pred_entry}
use Rattle.semantics.specs.Calls.{push_pred, step}
use Rattle.semantics.specs.Sheet.{pred_form}
use Rattle.structure.specs.View.{machine_of}
use Rattle.carrying.specs.View.{with_conflicts}
use Rattle.carrying.proofs.push_pred.Goals as goal

pub returns : goal.returns
unfolding pred_form
returns c =
    let a = c.args in
    c.after_declaring.ensures
    ∙ ap with_conflicts (c.push_pred.ensures
    ∙ (λ i. step (push_pred (pred_entry (c.types_in.ensures i) (c.types_in-2.ensures i))) (machine_of a.machine)))
