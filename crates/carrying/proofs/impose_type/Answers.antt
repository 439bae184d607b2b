-- `impose_type` meets its contract.
use mathlib.Core.Path.{ap, ◌∙◌}
use Rattle.semantics.specs.Structure.{fact}
use Rattle.semantics.specs.Calls.{impose_type, step}
use Rattle.semantics.specs.Sheet.{imposition_form}
use Rattle.facts.specs.declared.Fact.{Fact}
use Rattle.structure.specs.View.{machine_of}
use Rattle.facts.specs.View.{given_fact}
use Rattle.carrying.specs.View.{with_conflicts}
use Rattle.carrying.proofs.impose_type.Goals as goal

pub returns : goal.returns
unfolding imposition_form
returns c =
    let a = c.args in
    c.after_step.ensures
    ∙ ap with_conflicts (c.impose_type.ensures
    ∙ ap (λ (x : Fact). step (impose_type (given_fact x)) (machine_of a.machine)) c.new-fact.ensures
    ∙ (λ i. step (impose_type (fact a.given.a a.given.b (c.els_in-parents.ensures i))) (machine_of a.machine)))
