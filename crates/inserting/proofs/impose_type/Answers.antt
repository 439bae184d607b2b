-- `impose_type` meets its contract.
use mathlib.Core.Path.{◌≡◌, refl, sym, ap, ◌∙◌}
use mathlib.Core.Bool.{false, not, ◌&&◌}
use mathlib.Core.List.{List, [], ◌∷◌, ◌++◌}
use lib.ListN.{length}
use lib.Dec.{leb}
use borrow.Author.Tests.{leb-false}
use Rattle.ids.specs.Answers.{Cause, ◌if◌, malformed, undeclared, wrong_parent_count, no_room}
use Rattle.ids.specs.Limits.{max_list}
use Rattle.ids.specs.Ids.{too_long, given_els}
use Rattle.ids.specs.Judge.{verdict_of}
use Rattle.ids.proofs.Answers.{not_true, not_false}
use Rattle.ids.proofs.Judging.{SoFar, begin, judge, behind}
use Rattle.ids.proofs.Lists.{held_els}
use Rattle.ids.proofs.Tables.{push_room}
use Rattle.ids.proofs.Tests.{told, and_then, chosen, unchosen}
use Rattle.unification.specs.Roots.{links_of}
use Rattle.signature.specs.Model.{Sig, sig_of}
use Rattle.semantics.specs.Structure as model
use Rattle.semantics.specs.Structure.{fact, max_impositions, canonical_fact, with_impositions}
use Rattle.semantics.specs.Calls.{is_imposed, has_its_parents, imposition_causes, with_imposition, impose_type, says, imposition_rule, rule, acceptance}
use Rattle.semantics.proofs.Judged.{step_refuses}
use Rattle.facts.specs.View.{fact_of, given_fact, impositions_of}
use Rattle.structure.specs.View.{structure_of}
use Rattle.structure.proofs.Laws.{accepts}
use Rattle.inserting.specs.View.{fact_declared}
use Rattle.inserting.proofs.Laws.{held_accepts}
use Rattle.inserting.proofs.impose_type.Goals as goal
use Rattle.inserting.proofs.impose_type.Goals.{After-refuse_if-verdict-4, Start}

-- the parents are held as they were given unless they are too long
given : (c : Start) → let f = c.args.fact in too_long (given_els f.ct.parents) ≡ false → given_fact f ≡ fact_of f
given c short =
    let f = c.args.fact in
    let four : length f.ct.parents.ids ≡ max_list = c.well_formed.1.1.0.1.1.1.0.1.1.1.0.1.1.0.1.0.1 in
    λ i. fact f.el.0 f.ct.typ.0 ((held_els f.ct.parents four short).same i)

-- whether the entry is queued
queued : (c : After-refuse_if-verdict-4) → let a = c.args in
    c.contains-queued.result
    ≡ is_imposed (canonical_fact (links_of a.structure.unification) (fact_of a.fact)) (impositions_of a.structure.pending_type_impositions)
queued c =
    let imps = impositions_of c.args.structure.pending_type_impositions in
    c.contains-queued.ensures ∙ ap (λ (f : model.Fact). is_imposed f imps) c.canonical_fact-entry.ensures

-- the causes behind the first
abbrev later : Sig → model.Structure → model.Fact → List Cause
later g s f =
    undeclared if not (fact_declared g s f)
    ∷ wrong_parent_count if not (has_its_parents g.types f)
    ∷ no_room if (not (is_imposed (canonical_fact s.links f) s.impositions) && leb max_impositions (length s.impositions))
    ∷ []

-- the verdict, as the causes decide it
so_far : (c : After-refuse_if-verdict-4) → let a = c.args in
    SoFar (verdict_of c.refuse_if-verdict-4.result) (imposition_causes (sig_of a.signature) (structure_of a.structure) (given_fact a.fact))
unfolding imposition_causes
so_far c =
    let a = c.args in
    let full = c.and-full.ensures ∙ (λ i. not (queued c i) && leb max_impositions (c.size.ensures.is i)) in
    let s1 = judge malformed begin c.refuse_if-verdict.ensures c.is_too_long.ensures in
    let s2 = judge undeclared s1 c.refuse_if-verdict-2.ensures (ap not c.fact_is_declared-declared.ensures) in
    let s3 = judge wrong_parent_count s2 c.refuse_if-verdict-3.ensures (ap not c.has_its_parents-counted.ensures) in
    let s4 = judge no_room s3 c.refuse_if-verdict-4.ensures full in
    record {
      is = s4.is ∙ behind malformed _ (given_fact a.fact) (fact_of a.fact) (later (sig_of a.signature) (structure_of a.structure)) (given c.before.before.before.before.before.before.before.before.before.before.before.before.before.before.before);
    }

pub returns-in-Refused : goal.returns-in-Refused
unfolding rule imposition_rule
returns-in-Refused c = c.refuse.ensures _ ∙ step_refuses _ _ (so_far (goal.at.returns-in-Refused c).After-refuse_if-verdict-4) _ (ap verdict_of c.in-Refused.is)

pub returns-then-queued : goal.returns-then-queued
unfolding rule imposition_rule imposition_causes acceptance with_imposition
returns-then-queued c =
    let there = told (queued (goal.at.returns-then-queued c).After-refuse_if-verdict-4) c.if-queued.true in
    held_accepts impose_type _ (so_far (goal.at.returns-then-queued c).After-refuse_if-verdict-4) (ap verdict_of c.in_default.is) (λ none. given (goal.at.returns-then-queued c).Start none.0) (λ none.
    accepts _ (c.accept.ensures _) (ap says (sym (not_true there))) (chosen _ there))

pub returns : goal.returns
unfolding rule imposition_rule imposition_causes acceptance with_imposition
returns c =
    let s = c.args.structure in
    let imps = impositions_of s.pending_type_impositions in
    let absent = told (queued (goal.at.returns c).After-refuse_if-verdict-4) c.if-queued.false in
    held_accepts impose_type _ (so_far (goal.at.returns c).After-refuse_if-verdict-4) (ap verdict_of c.in_default.is) (λ none. given (goal.at.returns c).Start none.0) (λ none.
    let room = leb-false max_impositions (length imps) (sym (and_then (not_false absent) refl) ∙ none.1.1.1.0) in
    let pushed = c.push-next.ensures.0 ∙ push_room max_impositions imps _ room
    ∙ ap (λ (f : model.Fact). imps ++ (f ∷ [])) c.canonical_fact-entry.ensures in
    accepts _ (c.accept-2.ensures _) (ap says (sym (not_false absent)))
    ((λ i. with_impositions (pushed i) (structure_of s)) ∙ unchosen _ absent))
