-- `find_conflicts` meets its contract.
use mathlib.Core.Path.{◌≡◌, refl, sym, ap, ◌∙◌}
use mathlib.Core.List.{map}
use Prim.Native.Nat.{ℕ, ◌-◌, ◌≤◌, ◌<◌}
use native.Mathlib.Omega.{arith}
use lib.ListN.{length, drop, get_or, length-take, length-drop, length-map}
use lib.Seq.{take-length}
use Rattle.ids.specs.declared.ElId.{ElId}
use Rattle.ids.specs.declared.ElIds.{ElIds}
use Rattle.ids.specs.Ids.{whole}
use Rattle.unification.specs.Roots.{max_els, root_of}
use Rattle.semantics.specs.Structure.{Structure}
use Rattle.semantics.specs.Types.{facts_at}
use Rattle.semantics.specs.Conflicts.{conflicts_below, type_conflicts_of, finds_below, conflict_finds}
use Rattle.el_rows.specs.View.{link_in, links_in}
use Rattle.conflicts.specs.View.{Span, conflicts_in, finds_in, no_span}
use Rattle.conflicts.proofs.Spans.{span_sliced}
use Rattle.conflicts.proofs.Laws.{bare, parents_done, parents_past, parents_match_lem, parents_differ, other_type, other_parents, all_alike}
use Rattle.conflicts.proofs.Laws.{no_root, few_facts, unsearched, second_fact}
use Rattle.conflicts.proofs.Laws.{still_alike, class_done, class_conflict, next_fact}
use Rattle.conflicts.proofs.find_conflicts.Goals as goal
use Rattle.conflicts.proofs.find_conflicts.Goals.{At-classes, At-paired, Else-root-el}
use Rattle.facts.specs.View.{fact_of, no_fact}
use Rattle.rows.specs.View.{facts_in}

-- The places of the loops.
-- the structure whose conflicts are searched for
abbrev given : At-classes → Structure
given c =
    bare (links_in c.args.els.now) (facts_in (length c.args.facts.now) c.args.facts.now)

pub classes-init : goal.classes-init
unfolding conflicts_below finds_below
classes-init c = record {
  within = omega arith;
  long = refl;
  so_far = record { conflicts_are = c.new-conflicts.ensures; finds_are = refl; few = omega arith };
}

-- A class that is not searched.
pub classes-preserved-then-root-el : goal.classes-preserved-then-root-el
classes-preserved-then-root-el c =
    record {
      within = omega (arith, c.classes-test.true);
      long = c.classes.invariant.long;
      so_far = unsearched (given (goal.at.classes-preserved-then-root-el c).At-classes) _ (no_root (given (goal.at.classes-preserved-then-root-el c).At-classes) _ (λ h. c.if-root-el.true (c.find-root.ensures ∙ h))) c.classes.invariant.so_far;
    }

-- an element that is a root, below the most that there can be
root : (c : Else-root-el) →
    root_of (links_in c.args.els.now) c.classes.e ≡ c.classes.e
root c = sym c.find-root.ensures ∙ c.if-root-el.false

below_most : (c : Else-root-el) → c.classes.e < max_els
below_most c =
    omega (arith, c.classes-test.true, c.requires.0)

-- where its facts stand
span_of : (c : Else-root-el) →
    Span c.args.facts.now (length c.args.facts.now) c.classes.e (get_or c.spans_of-spans.result c.classes.e no_span)
span_of c = c.spans_of-spans.ensures.each _ (below_most c)

pub bounds-spans-e : goal.bounds-spans-e
bounds-spans-e c =
    omega (arith, below_most (goal.at.bounds-spans-e c).Else-root-el, c.spans_of-spans.ensures.long)

pub classes-preserved-then-span-lt2 : goal.classes-preserved-then-span-lt2
classes-preserved-then-span-lt2 c =
    let few : length (facts_at c.classes.e (given (goal.at.classes-preserved-then-span-lt2 c).At-classes).facts) < 2 = omega (arith, c.if-span-lt2.true, (span_of (goal.at.classes-preserved-then-span-lt2 c).Else-root-el).count) in
    record {
      within = omega (arith, c.classes-test.true);
      long = c.classes.invariant.long;
      so_far = unsearched (given (goal.at.classes-preserved-then-span-lt2 c).At-classes) _ (few_facts (given (goal.at.classes-preserved-then-span-lt2 c).At-classes) _ (root (goal.at.classes-preserved-then-span-lt2 c).Else-root-el) few) c.classes.invariant.so_far;
    }

-- A class that is searched.
pub concrete_types_of-k-requires : goal.concrete_types_of-k-requires
concrete_types_of-k-requires c =
    let span = get_or c.spans_of-spans.result c.classes.e no_span in
    let facts = c.args.facts.now in
    (omega (arith, length-take (span.end - span.first) (drop span.first facts), length-drop span.first facts, c.requires.1), c.classes.invariant.long)

pub overflow_add-finds : goal.overflow_add-finds
overflow_add-finds c =
    omega (arith, c.classes.invariant.so_far.few, below_most (goal.at.overflow_add-finds c).Else-root-el, c.find_parents-first.ensures.few)

pub stored-init : goal.stored-init
stored-init c =
    let l = c.classes in
    let s = given (goal.at.stored-init c).At-classes in
    let many : 2 ≤ length (facts_at l.e s.facts) = omega (arith, c.if-span-lt2.false, (span_of (goal.at.stored-init c).Else-root-el).count) in (
      refl,
      (
        refl,
        second_fact s _ l.e no_fact c.concrete_types_of-k.ensures (root (goal.at.stored-init c).Else-root-el) many (ap (facts_at l.e) (span_sliced c.args.facts.now _ _ (span_of (goal.at.stored-init c).Else-root-el).ordered) ∙ (span_of (goal.at.stored-init c).Else-root-el).between) c.classes-test.true
            (below_most (goal.at.stored-init c).Else-root-el) c.find_parents-first.ensures l.invariant.so_far,
      ),
    )

-- A fact against the first one.
pub push-conflicts-requires : goal.push-conflicts-requires
push-conflicts-requires c =
    let l = c.stored in
    still_alike l.invariant.1.1 l.invariant.1.0

pub overflow_step-e-then-a-b : goal.overflow_step-e-then-a-b
overflow_step-e-then-a-b c =
    let l = c.stored in
    record { fits = omega (arith, l.invariant.0, l.invariant.1.1.room) }

pub classes-smaller-then-a-b : goal.classes-smaller-then-a-b
classes-smaller-then-a-b c =
    let l = c.stored in
    omega (arith, l.invariant.0, l.invariant.1.1.below)

pub classes-preserved-then-a-b : goal.classes-preserved-then-a-b
classes-preserved-then-a-b c =
    let l = c.stored in
    class_conflict l.invariant.1.1 no_fact c.stored-test.true l.invariant.0 l.invariant.1.0 c.push-conflicts.ensures
    (other_type _ _ _ c.if-a-b.true)

pub paired-init : goal.paired-init
paired-init c = (refl, (refl, refl))

-- A parent of it against the root of one of the first.
abbrev no_el : ElId
no_el = record { 0 = 0 }

abbrev qs_of : At-paired → ElIds
qs_of c = (get_or c.concrete_types_of-k.new.types c.stored.j no_fact).ct.parents

abbrev rs_of : At-paired → ElIds
rs_of c = c.find_parents-first.result.roots

pub paired-preserved-then-other-i : goal.paired-preserved-then-other-i
paired-preserved-then-other-i c =
    let l = c.paired in
    (l.invariant.0, (l.invariant.1.0, parents_past _ (rs_of (goal.at.paired-preserved-then-other-i c).At-paired) (qs_of (goal.at.paired-preserved-then-other-i c).At-paired) l.i l.invariant.1.1 (omega (arith, c.size-other.ensures.is, c.if-other-i.true))))

pub push-conflicts-requires-then-ps-i : goal.push-conflicts-requires-then-ps-i
push-conflicts-requires-then-ps-i c =
    let l = c.stored in
    still_alike l.invariant.1.1 (c.paired.invariant.1.0 ∙ l.invariant.1.0)

pub overflow_step-e-then-ps-i : goal.overflow_step-e-then-ps-i
overflow_step-e-then-ps-i c =
    let l = c.stored in
    record { fits = omega (arith, c.paired.invariant.0, l.invariant.0, l.invariant.1.1.room) }

pub classes-smaller-then-ps-i : goal.classes-smaller-then-ps-i
classes-smaller-then-ps-i c =
    let l = c.stored in
    omega (arith, c.paired.invariant.0, l.invariant.0, l.invariant.1.1.below)

pub classes-preserved-then-ps-i : goal.classes-preserved-then-ps-i
classes-preserved-then-ps-i c =
    let l = c.stored in
    let differ =
    parents_differ _ (rs_of (goal.at.classes-preserved-then-ps-i c).At-paired) (qs_of (goal.at.classes-preserved-then-ps-i c).At-paired) c.paired.i c.paired.invariant.1.1 no_el (omega (arith, c.size-length.ensures.is, c.paired-test.true))
    (omega (arith, c.size-other.ensures.is, c.if-other-i.false)) (λ h. c.if-ps-i.true (h ∙ sym c.find-q.ensures)) in
    class_conflict l.invariant.1.1 no_fact c.stored-test.true (c.paired.invariant.0 ∙ l.invariant.0)
    (c.paired.invariant.1.0 ∙ l.invariant.1.0) c.push-conflicts-then-ps-i.ensures (other_parents _ _ _ c.if-a-b.false l.invariant.1.1.roots_are differ)

pub paired-preserved : goal.paired-preserved
paired-preserved c =
    let match =
    parents_match_lem _ (rs_of (goal.at.paired-preserved c).At-paired) (qs_of (goal.at.paired-preserved c).At-paired) c.paired.i c.paired.invariant.1.1 no_el (omega (arith, c.size-length.ensures.is, c.paired-test.true))
    (omega (arith, c.size-other.ensures.is, c.if-other-i.false)) (c.if-ps-i.false ∙ c.find-q.ensures) in
    (c.paired.invariant.0, (c.paired.invariant.1.0, match))

pub stored-preserved : goal.stored-preserved
stored-preserved c =
    let l = c.stored in
    let all = parents_done _ (rs_of (goal.at.stored-preserved c).At-paired) (qs_of (goal.at.stored-preserved c).At-paired) c.paired.i c.paired.invariant.1.1 (omega (arith, c.size-length.ensures.is, c.paired-test.false)) in (
      c.paired.invariant.0 ∙ l.invariant.0,
      (
        c.paired.invariant.1.0 ∙ l.invariant.1.0,
        next_fact l.invariant.1.1 no_fact c.stored-test.true
            (all_alike _ _ _ c.if-a-b.false l.invariant.1.1.roots_are all),
      ),
    )

pub overflow_step-e-in-classes : goal.overflow_step-e-in-classes
overflow_step-e-in-classes c = let l = c.stored in record { fits = omega (arith, l.invariant.0, l.invariant.1.1.room) }

pub classes-smaller : goal.classes-smaller
classes-smaller c = let l = c.stored in omega (arith, l.invariant.0, l.invariant.1.1.below)

pub classes-preserved : goal.classes-preserved
classes-preserved c =
    let l = c.stored in
    class_done l.invariant.1.1 l.invariant.0 l.invariant.1.0 c.stored-test.false

pub returns : goal.returns
unfolding conflicts_in type_conflicts_of finds_in conflict_finds
returns c =
    let l = c.classes in
    let links = links_in c.args.els.now in
    let facts = c.args.facts.now in
    let every = ap (map fact_of) (take-length facts) in
    let all : l.e ≡ length links = omega (arith, l.invariant.within, c.classes-test.false, length-map c.args.els.now link_in) in (
      l.invariant.so_far.conflicts_are ∙ ap (λ (k : ℕ). whole (conflicts_below (given (goal.at.returns c).At-classes) k)) all
          ∙ (λ i. whole (conflicts_in links (every i))),
      l.invariant.so_far.finds_are ∙ ap (finds_below (given (goal.at.returns c).At-classes)) all
          ∙ (λ i. finds_in links (every i)),
    )
