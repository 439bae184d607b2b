-- `Structure::insert_ambient_model_el` meets its contract.
use mathlib.Core.Path.{◌≡◌, refl, ap, ◌∙◌}
use mathlib.Core.Bool.{true, not, ◌&&◌}
use Prim.Native.Nat.{◌<◌}
use native.Mathlib.Omega.{arith}
use lib.ListN.{length}
use borrow.Author.Tests.{ltb-true, not-false}
use Rattle.ids.specs.Answers.{undeclared, wrong_kind, given_again}
use Rattle.ids.specs.Judge.{verdict_of}
use Rattle.ids.proofs.Judging.{SoFar, begin, judge}
use Rattle.semantics.proofs.Cases.{and_first}
use Rattle.ids.proofs.Views.{length_view}
use Rattle.signature.specs.Model.{max_types, type_of, view_types, sig_of}
use Rattle.signature.specs.Calls.{is_type}
use Rattle.semantics.specs.Structure.{with_ambients}
use Rattle.semantics.specs.Calls.{ambient_causes, with_ambient, rule, acceptance}
use Rattle.semantics.proofs.Judged.{step_refuses, step_accepts}
use Rattle.bindings.specs.View.{ambient_of}
use Rattle.structure.specs.View.{structure_of}
use Rattle.structure.proofs.Laws.{accepts, bound_room}
use Rattle.structure.proofs.Structure.insert_ambient_model_el.Goals as goal
use Rattle.structure.proofs.Structure.insert_ambient_model_el.Goals.{After-refuse_if-verdict-3, Start}

-- the verdict, as the causes decide it
so_far : (c : After-refuse_if-verdict-3) → let a = c.args in
    SoFar (verdict_of c.refuse_if-verdict-3.result) (ambient_causes (sig_of a.signature) (structure_of a.self) (ambient_of a.a))
unfolding ambient_causes
so_far c =
    let declared = c.and-declared.ensures ∙ (λ i. c.is_type.ensures i && c.is_el.ensures i) in
    let s1 = judge undeclared begin c.refuse_if-verdict.ensures (ap not declared) in
    let s2 = judge wrong_kind s1 c.refuse_if-verdict-2.ensures (ap not c.is_model.ensures) in
    judge given_again s2 c.refuse_if-verdict-3.ensures c.contains.ensures

pub returns-in-Refused : goal.returns-in-Refused
unfolding rule
returns-in-Refused c = c.refuse.ensures _ ∙ step_refuses _ _ (so_far (goal.at.returns-in-Refused c).After-refuse_if-verdict-3) _ (ap verdict_of c.in-Refused.is)

-- a type that is there has a slot
in_range : (c : Start) → is_type (sig_of c.args.signature) c.args.a.typ.0 ≡ true → c.args.a.typ.0 < max_types
in_range c is =
    let a = c.args in
    let ts = a.signature.types in
    let slots : length ts.items ≡ max_types = c.well_formed.1.0.1.1.0.1.1.0.1.0.1 in
    omega (arith, slots, ltb-true a.a.typ.0 (length (view_types ts)) is, length_view type_of ts.len ts.items)

pub returns : goal.returns
unfolding rule ambient_causes acceptance with_ambient
returns c =
    let a = c.args in
    step_accepts _ _ (so_far (goal.at.returns c).After-refuse_if-verdict-3) (ap verdict_of c.in_default.is)
    (λ none. let bound = c.insert-next.ensures ∙ bound_room _ _ _ _ _ (in_range (goal.at.returns c).Start (and_first _ _ (not-false _ none.0))) in
    accepts _ (c.accept.ensures _) refl (λ i. with_ambients (bound i) (structure_of a.self)))
