-- `Structure::insert_var_el` meets its contract.
use mathlib.Core.Path.{refl, ap, ◌∙◌}
use mathlib.Core.Bool.{not}
use borrow.Author.Tests.{leb-false}
use Rattle.ids.specs.Answers.{malformed, undeclared, given_again}
use Rattle.ids.specs.Judge.{verdict_of}
use Rattle.ids.proofs.Judging.{SoFar, begin, judge}
use Rattle.semantics.specs.Structure.{max_vars, with_vars}
use Rattle.semantics.specs.Calls.{variable_causes, with_var, rule, acceptance}
use Rattle.semantics.proofs.Judged.{step_refuses, step_accepts}
use Rattle.bindings.specs.View.{var_of}
use Rattle.structure.specs.View.{structure_of}
use Rattle.structure.proofs.Laws.{accepts, bound_room}
use Rattle.structure.proofs.Structure.insert_var_el.Goals as goal
use Rattle.structure.proofs.Structure.insert_var_el.Goals.{After-refuse_if-verdict-3}

-- the verdict, as the causes decide it
so_far : (c : After-refuse_if-verdict-3) → let a = c.args in
    SoFar (verdict_of c.refuse_if-verdict-3.result) (variable_causes (structure_of a.self) (var_of a.v))
unfolding variable_causes
so_far c =
    let s1 = judge malformed begin c.refuse_if-verdict.ensures refl in
    let s2 = judge undeclared s1 c.refuse_if-verdict-2.ensures (ap not c.is_el.ensures) in
    judge given_again s2 c.refuse_if-verdict-3.ensures c.contains.ensures

pub returns-in-Refused : goal.returns-in-Refused
unfolding rule
returns-in-Refused c = λ g. c.refuse.ensures g ∙ step_refuses _ _ (so_far (goal.at.returns-in-Refused c).After-refuse_if-verdict-3) _ (ap verdict_of c.in-Refused.is)

pub returns : goal.returns
unfolding rule variable_causes acceptance with_var
returns c =
    let a = c.args in
    λ g. step_accepts _ _ (so_far (goal.at.returns c).After-refuse_if-verdict-3) (ap verdict_of c.in_default.is)
    (λ none. let bound = c.insert-next.ensures ∙ bound_room _ _ _ _ _ (leb-false max_vars a.v.key none.0) in
    accepts g (c.accept.ensures g) refl (λ i. with_vars (bound i) (structure_of a.self)))
