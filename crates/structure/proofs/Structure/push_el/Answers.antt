-- `Structure::push_el` meets its contract.
use mathlib.Core.Path.{◌≡◌, sym, ap, ◌∙◌}
use Prim.Native.Nat.{◌<◌}
use native.Mathlib.Omega.{arith}
use lib.ListN.{length}
use lib.Dec.{leb}
use borrow.Author.Tests.{leb-false}
use Rattle.ids.specs.Answers.{no_room}
use Rattle.ids.specs.Judge.{verdict_of}
use Rattle.ids.proofs.Judging.{SoFar, begin, judge, none_apply}
use Rattle.ids.proofs.Lists.{as_held}
use Rattle.unification.specs.Roots.{max_els, links_of}
use Rattle.unification.proofs.Beside.{one_more}
use Rattle.semantics.specs.Structure.{with_links, with_marks}
use Rattle.semantics.specs.Calls.{el_causes, with_el, number, rule, acceptance}
use Rattle.semantics.proofs.Judged.{step_refuses, step_accepts}
use Rattle.structure.specs.View.{structure_of}
use Rattle.structure.proofs.Laws.{accepts}
use Rattle.structure.proofs.Structure.push_el.Goals as goal
use Rattle.structure.proofs.Structure.push_el.Goals.{After-refuse_if-verdict, In_default, Start}

-- the arrays of marks and links have an entry for each element that there can be
many_marks : (c : Start) → length c.args.self.inferred_parent_els ≡ max_els
many_marks c = c.well_formed.0.1.1.1.1.1.1.1.1.1.1.0.1.0.1

many_links : (c : Start) → length c.args.self.unification.links ≡ max_els
many_links c = c.well_formed.0.1.1.1.1.1.1.1.0.1.1.0.1.0.1

-- the verdict, as the causes decide it
so_far : (c : After-refuse_if-verdict) → SoFar (verdict_of c.refuse_if-verdict.result) (el_causes (structure_of c.args.self))
unfolding el_causes
so_far c = judge no_room begin c.refuse_if-verdict.ensures (ap (leb max_els) c.size-at.ensures.is)

pub returns-in-Refused : goal.returns-in-Refused
unfolding rule
returns-in-Refused c = λ g. c.refuse.ensures g ∙ step_refuses _ _ (so_far (goal.at.returns-in-Refused c).After-refuse_if-verdict) _ (ap verdict_of c.in-Refused.is)

room : (c : In_default) → c.size-at.result < max_els
unfolding el_causes
room c =
    let fits = (none_apply _ (sym (so_far c.before).is ∙ ap verdict_of c.in_default.is)).0 in
    let u = c.args.self.unification in
    omega (arith, c.size-at.ensures.is, leb-false max_els (length (links_of u)) fits)

pub bounds-next-at : goal.bounds-next-at
bounds-next-at c = room (goal.at.bounds-next-at c).In_default

pub returns : goal.returns
unfolding rule acceptance with_el
returns c =
    let sized = c.size-at.ensures in
    let s = c.args.self in
    let v = c.increase_size-next.result in
    let after = c.increase_size-next.type_inv.1.1.0.1.0.1 in
    let links = as_held c.increase_size-next.ensures in
    let marks = one_more s.unification v _ (many_marks (goal.at.returns c).Start) (many_links (goal.at.returns c).Start) after _ c.args.mark sized.is (room (goal.at.returns c).In_default) links in
    λ g. step_accepts _ _ (so_far (goal.at.returns c).After-refuse_if-verdict) (ap verdict_of c.in_default.is)
    (λ none. accepts g (c.accept.ensures g) (ap number sized.is) (λ i. with_links (links i) (with_marks (marks i) (structure_of s))))
