-- `Unification::root_const` meets its contract.
use mathlib.Core.Path.{ap}
use Rattle.ids.specs.Answers.{outcome, refusing, accepting}
use Rattle.ids.specs.Judge.{verdict_of}
use Rattle.ids.proofs.Judging.{SoFar, refused_by, accepted_by}
use Rattle.unification.specs.Roots.{links_of, find_of, find_causes, root_const}
use Rattle.unification.proofs.Arrays.{find_judged}
use Rattle.unification.proofs.Unification.root_const.Goals as goal
use Rattle.unification.proofs.Unification.root_const.Goals.{After-refuse_if-verdict, Start}

abbrev start : After-refuse_if-verdict → Start
start c = c.before.before.before

so_far : (c : After-refuse_if-verdict) → let a = (start c).args in SoFar (verdict_of c.refuse_if-verdict.result) (find_causes (links_of a.self) a.el.0)
so_far c = find_judged _ _ c.size.ensures.is c.refuse_if-verdict.ensures

pub returns-in-Refused : goal.returns-in-Refused
unfolding root_const outcome
returns-in-Refused c =
    let a = (start (goal.at.returns-in-Refused c).After-refuse_if-verdict).args in
    let ls = links_of a.self in
    refused_by (refusing ls) (accepting (find_of ls a.el.0) ls) (so_far (goal.at.returns-in-Refused c).After-refuse_if-verdict) _ (ap verdict_of c.in-Refused.is)

pub returns : goal.returns
unfolding root_const outcome
returns c =
    let a = (start (goal.at.returns c).After-refuse_if-verdict).args in
    let ls = links_of a.self in
    accepted_by (refusing ls) (accepting (find_of ls a.el.0) ls) (so_far (goal.at.returns c).After-refuse_if-verdict) (ap verdict_of c.in_default.is)
    (λ none. λ i. accepting (c.find.ensures i) ls)
