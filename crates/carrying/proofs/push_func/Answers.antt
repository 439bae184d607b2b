-- `push_func` meets its contract.
use mathlib.Core.Path.{ap, ◌∙◌}
use Rattle.signature.specs.Model.{func_entry}
use Rattle.semantics.specs.Calls.{push_func, step}
use Rattle.semantics.specs.Sheet.{func_form}
use Rattle.structure.specs.View.{machine_of}
use Rattle.carrying.specs.View.{with_conflicts}
use Rattle.carrying.proofs.push_func.Goals as goal

pub returns : goal.returns
unfolding func_form
returns c =
    let a = c.args in
    c.after_declaring.ensures
    ∙ ap with_conflicts (c.push_func.ensures
    ∙ (λ i. step (push_func (func_entry (c.types_in.ensures i) (c.types_in-2.ensures i) a.given.b)) (machine_of a.machine)))
