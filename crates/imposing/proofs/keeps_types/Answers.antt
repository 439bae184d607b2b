-- `keeps_types` meets its contract.
use mathlib.Core.Path.{◌≡◌, sym, ap, subst, ◌∙◌}
use mathlib.Core.List.{[], ◌∷◌, map}
use Prim.Native.Nat.{ℕ, ◌+◌, ◌-◌}
use native.Mathlib.Nat.{add-zero, add_assoc}
use native.Mathlib.Omega.{arith}
use lib.ListN.{length, take, drop, get_or, length-take, length-drop, length-map}
use Rattle.ids.specs.Ids.{els_of}
use Rattle.semantics.specs.Structure as model
use Rattle.semantics.specs.Structure.{fact}
use Rattle.facts.specs.View.{fact_of, no_fact}
use Rattle.el_rows.specs.View.{links_in, marks_in}
use Rattle.imposing.specs.View.{FirstOf}
use Rattle.imposing.proofs.Kept.{kept, look_start, look_kept, look_refined, look_other, look_past, look_done, slice_next}
use Rattle.imposing.proofs.keeps_types.Goals as goal
use Rattle.imposing.proofs.keeps_types.Goals.{After-first_of-first, After-is_of}

-- what was found of the key: it has no parents
found : (c : After-first_of-first) →
    FirstOf c.args.is_sorted (fact c.find-root.result.0 c.args.fact.ct.typ.0 []) (map fact_of c.args.facts.now) c.first_of-first.result
found c =
    let key : fact_of c.new-2.result ≡ fact c.find-root.result.0 c.args.fact.ct.typ.0 [] =
    ap fact_of c.new-2.ensures ∙ ap (fact c.find-root.result.0 c.args.fact.ct.typ.0) c.new.ensures in
    subst (λ (k : model.Fact). FirstOf c.args.is_sorted k (map fact_of c.args.facts.now) c.first_of-first.result) key c.first_of-first.ensures

pub loop-here-init : goal.loop-here-init
loop-here-init c =
    let a = c.args in
    λ x. rw (add-zero c.first_of-first.result)
    (look_start (links_in a.els.now) (marks_in a.els.now) c.find-root.result.0 (fact x a.fact.ct.typ.0 (els_of a.fact.ct.parents)) (map fact_of a.facts.now)
    (found (goal.at.loop-here-init c).After-first_of-first))

-- the fact at which the look is
here : (c : After-is_of) →
    let fs = map fact_of c.args.facts.now in
    let i = c.first_of-first.result + c.loop-here.here-index in
    drop i fs ≡ fact_of (get_or (take (length c.args.facts.now - c.first_of-first.result) (drop c.first_of-first.result c.args.facts.now)) c.loop-here.here-index no_fact) ∷ drop (i + 1) fs
here c = slice_next fact_of c.args.facts.now c.first_of-first.result c.loop-here.here-index no_fact c.loop-here-test.true

pub returns-then-not-keeps_parents : goal.returns-then-not-keeps_parents
returns-then-not-keeps_parents c =
    let a = c.args in
    look_refined (links_in a.els.now) (marks_in a.els.now) c.find-root.result.0 (fact_of a.fact)
    (map fact_of a.facts.now) _ (c.loop-here.invariant a.fact.el.0) _ (here (goal.at.returns-then-not-keeps_parents c).After-is_of)
    (sym c.is_of.ensures ∙ c.if-is_of.true) (sym c.keeps_parents.ensures ∙ c.if-not-keeps_parents.true)
    ∙ ap (λ (r : ℕ). kept (links_in a.els.now) (marks_in a.els.now) r (fact_of a.fact) (map fact_of a.facts.now)) c.find-root.ensures

pub loop-here-preserved-then-is_of : goal.loop-here-preserved-then-is_of
loop-here-preserved-then-is_of c =
    let a = c.args in
    λ x. rw (sym (add_assoc c.first_of-first.result c.loop-here.here-index 1))
    (look_kept (links_in a.els.now) (marks_in a.els.now) c.find-root.result.0 (fact x a.fact.ct.typ.0 (els_of a.fact.ct.parents)) (map fact_of a.facts.now) _
    (c.loop-here.invariant x) _ (here (goal.at.loop-here-preserved-then-is_of c).After-is_of) (sym c.is_of.ensures ∙ c.if-is_of.true)
    (sym c.keeps_parents.ensures ∙ c.if-not-keeps_parents.false))

pub returns-then-is_sorted : goal.returns-then-is_sorted
returns-then-is_sorted c =
    let a = c.args in
    look_past (links_in a.els.now) (marks_in a.els.now) c.find-root.result.0 (fact_of a.fact)
    (map fact_of a.facts.now) _ (c.loop-here.invariant a.fact.el.0) _ (here (goal.at.returns-then-is_sorted c).After-is_of)
    (sym c.is_of.ensures ∙ c.if-is_of.false) (found (goal.at.returns-then-is_sorted c).After-first_of-first) c.if-is_sorted.true (omega arith) (c.requires c.if-is_sorted.true)
    ∙ ap (λ (r : ℕ). kept (links_in a.els.now) (marks_in a.els.now) r (fact_of a.fact) (map fact_of a.facts.now)) c.find-root.ensures

pub loop-here-preserved : goal.loop-here-preserved
loop-here-preserved c =
    let a = c.args in
    λ x. rw (sym (add_assoc c.first_of-first.result c.loop-here.here-index 1))
    (look_other (links_in a.els.now) (marks_in a.els.now) c.find-root.result.0 (fact x a.fact.ct.typ.0 (els_of a.fact.ct.parents)) (map fact_of a.facts.now) _
    (c.loop-here.invariant x) _ (here (goal.at.loop-here-preserved c).After-is_of) (sym c.is_of.ensures ∙ c.if-is_of.false))

pub returns : goal.returns
returns c =
    let a = c.args in
    look_done (links_in a.els.now) (marks_in a.els.now) c.find-root.result.0 (fact_of a.fact)
    (map fact_of a.facts.now) (c.first_of-first.result + c.loop-here.here-index) (c.loop-here.invariant a.fact.el.0)
    (omega (arith, c.loop-here-test.false, length-take (length a.facts.now - c.first_of-first.result) (drop c.first_of-first.result a.facts.now), length-drop c.first_of-first.result a.facts.now, length-map a.facts.now fact_of))
    ∙ ap (λ (r : ℕ). kept (links_in a.els.now) (marks_in a.els.now) r (fact_of a.fact) (map fact_of a.facts.now)) c.find-root.ensures
