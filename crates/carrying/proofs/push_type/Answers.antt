-- `push_type` meets its contract.
use mathlib.Core.Path.{ap, ◌∙◌}
use Rattle.signature.specs.Model.{type_entry}
use Rattle.semantics.specs.Calls.{push_type, step}
use Rattle.semantics.specs.Sheet.{type_form}
use Rattle.structure.specs.View.{machine_of}
use Rattle.carrying.specs.View.{with_conflicts}
use Rattle.carrying.proofs.push_type.Goals as goal

pub returns : goal.returns
unfolding type_form
returns c =
    let a = c.args in
    c.after_declaring.ensures
    ∙ ap with_conflicts (c.push_type.ensures
    ∙ (λ i. step (push_type (type_entry (c.type_kind.ensures i) (c.types_in.ensures i))) (machine_of a.machine)))
