-- `Structure::equate` meets its contract.
use mathlib.Core.Path.{◌≡◌, ap, ◌∙◌}
use mathlib.Core.Bool.{not, ◌&&◌}
use lib.ListN.{length}
use lib.Dec.{leb}
use borrow.Author.Tests.{leb-false}
use Rattle.ids.specs.Answers.{undeclared, no_room}
use Rattle.ids.specs.Judge.{verdict_of}
use Rattle.ids.proofs.Judging.{SoFar, begin, judge}
use Rattle.unification.specs.Roots.{max_els}
use Rattle.semantics.specs.Structure.{max_pairs}
use Rattle.semantics.specs.Calls.{equality_causes, equality_rule, rule, acceptance}
use Rattle.semantics.proofs.Judged.{step_refuses, step_accepts}
use Rattle.equalities.specs.View.{pairs_of}
use Rattle.structure.specs.View.{structure_of}
use Rattle.structure.proofs.Laws.{equates}
use Rattle.structure.proofs.Structure.equate.Goals as goal
use Rattle.structure.proofs.Structure.equate.Goals.{After-refuse_if-verdict-2, Start}

-- the arrays of marks and links have an entry for each element that there can be
many_marks : (c : Start) → length c.args.self.inferred_parent_els ≡ max_els
many_marks c = c.well_formed.0.1.1.1.1.1.1.1.1.1.1.0.1.0.1

many_links : (c : Start) → length c.args.self.unification.links ≡ max_els
many_links c = c.well_formed.0.1.1.1.1.1.1.1.0.1.1.0.1.0.1

-- the verdict, as the causes decide it
so_far : (c : After-refuse_if-verdict-2) → let a = c.args in
    SoFar (verdict_of c.refuse_if-verdict-2.result) (equality_causes (structure_of a.self) a.a.0 a.b.0)
unfolding equality_causes
so_far c =
    let declared = c.and-declared.ensures ∙ (λ i. c.is_el.ensures i && c.is_el-2.ensures i) in
    judge no_room (judge undeclared begin c.refuse_if-verdict.ensures (ap not declared)) c.refuse_if-verdict-2.ensures
    (ap (leb max_pairs) c.size.ensures.is)

pub returns-in-Refused : goal.returns-in-Refused
unfolding rule equality_rule
returns-in-Refused c = λ g. c.refuse.ensures g ∙ step_refuses _ _ (so_far (goal.at.returns-in-Refused c).After-refuse_if-verdict-2) _ (ap verdict_of c.in-Refused.is)

pub returns : goal.returns
unfolding rule equality_rule equality_causes acceptance
returns c =
    let a = c.args in
    let after = c.equate-equated.type_inv.1.1.0.1.1.0.1.0.1 in
    λ g. step_accepts _ _ (so_far (goal.at.returns c).After-refuse_if-verdict-2) (ap verdict_of c.in_default.is)
    (λ none. equates a.self c.equate-equated.result a.a.0 a.b.0 c.equate-equated.ensures
    (leb-false max_pairs (length (pairs_of a.self.pending_equalities)) none.1.0) (many_marks (goal.at.returns c).Start) (many_links (goal.at.returns c).Start) after g
    (c.accept.ensures g))
