-- `push_model` meets its contract.
use mathlib.Core.Path.{refl, ap, ◌∙◌}
use mathlib.Core.Bool.{not, ◌&&◌, ◌||◌}
use lib.Dec.{leb}
use Rattle.ids.specs.Answers.{refusing, outcome, too_late, undeclared, wrong_kind, given_again, no_room}
use Rattle.ids.specs.Judge.{verdict_of}
use Rattle.ids.proofs.Judging.{SoFar, begin, judge, refused_by}
use Rattle.signature.specs.Model.{max_models, sig_of, model_of, with_models}
use Rattle.signature.specs.Calls.{model_causes, with_model, push_model}
use Rattle.declarations.proofs.Laws.{appends}
use Rattle.declarations.proofs.push_model.Goals as goal
use Rattle.declarations.proofs.push_model.Goals.{After-refuse_if-verdict-5}

-- the verdict, as the causes decide it
so_far : (c : After-refuse_if-verdict-5) → let a = c.args in
    SoFar (verdict_of c.refuse_if-verdict-5.result) (model_causes a.started (sig_of a.signature) (model_of a.ids))
unfolding model_causes
so_far c =
    let fit = c.and-kinds.ensures ∙ (λ i. c.is_model.ensures i && c.is_mor_of.ensures i) in
    let used = c.or-again.ensures ∙ (λ i. c.repeats.ensures i || c.any_is_given.ensures i) in
    let again = c.or-again-2.ensures ∙ (λ i. c.has_type.ensures i || used i) in
    let s1 = judge too_late begin c.refuse_if-verdict.ensures refl in
    let s2 = judge undeclared s1 c.refuse_if-verdict-2.ensures (ap not c.model_ids_are_declared-known.ensures) in
    let s3 = judge wrong_kind s2 c.refuse_if-verdict-3.ensures (ap not fit) in
    let s4 = judge given_again s3 c.refuse_if-verdict-4.ensures again in
    judge no_room s4 c.refuse_if-verdict-5.ensures (ap (leb max_models) c.size-n.ensures.is)

pub returns-in-Refused : goal.returns-in-Refused
unfolding push_model outcome
returns-in-Refused c = refused_by (refusing _) _ (so_far (goal.at.returns-in-Refused c).After-refuse_if-verdict-5) _ (ap verdict_of c.in-Refused.is)

pub returns : goal.returns
unfolding push_model with_model with_models model_causes
returns c =
    let a = c.args in
    let g = sig_of a.signature in
    appends max_models g.models (model_of a.ids) (with_models g) g (so_far (goal.at.returns c).After-refuse_if-verdict-5) (ap verdict_of c.in_default.is)
    c.size-n.ensures.is c.push-next.ensures.0 (λ none. (none.1.1.1.1.0, refl))
