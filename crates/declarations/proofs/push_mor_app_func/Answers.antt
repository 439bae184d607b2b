-- `push_mor_app_func` meets its contract.
use mathlib.Core.Path.{refl, ap, ◌∙◌}
use mathlib.Core.Bool.{not, ◌&&◌, ◌||◌}
use lib.Dec.{leb}
use Rattle.ids.specs.Answers.{refusing, outcome, too_late, undeclared, wrong_kind, given_again, no_room}
use Rattle.ids.specs.Judge.{verdict_of}
use Rattle.ids.proofs.Judging.{SoFar, begin, judge, refused_by}
use Rattle.signature.specs.Model.{max_mor_apps, sig_of, mor_app_of, with_mor_apps}
use Rattle.signature.specs.Calls.{mor_app_causes, with_mor_app, push_mor_app}
use Rattle.declarations.proofs.Laws.{appends}
use Rattle.declarations.proofs.push_mor_app_func.Goals as goal
use Rattle.declarations.proofs.push_mor_app_func.Goals.{After-refuse_if-verdict-5}

-- the verdict, as the causes decide it
so_far : (c : After-refuse_if-verdict-5) → let a = c.args in
    SoFar (verdict_of c.refuse_if-verdict-5.result) (mor_app_causes a.started (sig_of a.signature) (mor_app_of a.m))
unfolding mor_app_causes
so_far c =
    let declared = c.and-known.ensures ∙ (λ i. c.is_type.ensures i && c.is_type-2.ensures i) in
    let known = c.and-known-2.ensures ∙ (λ i. c.is_func.ensures i && declared i) in
    let again = c.or-again.ensures ∙ (λ i. c.is_given.ensures i || c.has_types.ensures i) in
    let s1 = judge too_late begin c.refuse_if-verdict.ensures refl in
    let s2 = judge undeclared s1 c.refuse_if-verdict-2.ensures (ap not known) in
    let s3 = judge wrong_kind s2 c.refuse_if-verdict-3.ensures (ap not c.is_mor.ensures) in
    let s4 = judge given_again s3 c.refuse_if-verdict-4.ensures again in
    judge no_room s4 c.refuse_if-verdict-5.ensures (ap (leb max_mor_apps) c.size-n.ensures.is)

pub returns-in-Refused : goal.returns-in-Refused
unfolding push_mor_app outcome
returns-in-Refused c = refused_by (refusing _) _ (so_far (goal.at.returns-in-Refused c).After-refuse_if-verdict-5) _ (ap verdict_of c.in-Refused.is)

pub returns : goal.returns
unfolding push_mor_app with_mor_app with_mor_apps mor_app_causes
returns c =
    let a = c.args in
    let g = sig_of a.signature in
    appends max_mor_apps g.mor_apps (mor_app_of a.m) (with_mor_apps g) g (so_far (goal.at.returns c).After-refuse_if-verdict-5) (ap verdict_of c.in_default.is)
    c.size-n.ensures.is c.push-next.ensures.0 (λ none. (none.1.1.1.1.0, refl))
