-- Laws of one merge: the facts moved, the marks, the roots of a pair; and of the pairs drained from the last to the first.
use mathlib.Core.Path.{◌≡◌, refl, sym, ap, ◌∙◌}
use mathlib.Core.Bool.{Bool, false}
use mathlib.Core.List.{List, [], ◌∷◌, map, map-append, reverse, reverse-append}
use Prim.Native.Nat.{ℕ, zero, suc, ◌+◌, ◌-◌, ◌≤◌, ◌<◌, min, max}
use native.Mathlib.Omega.{arith}
use lib.ListN.{length, take, get_or, set}
use lib.Seq.{take-suc}
use borrow.Author.Tests.{eq-eqb, ne_eqb}
use Rattle.ids.specs.Table.{rewrite_into}
use Rattle.ids.proofs.Answers.{or_neither, neither}
use Rattle.ids.proofs.Sorted.{rewrite_sorted}
use Rattle.rows.specs.Table.{InPlaceRewritten}
use Rattle.unification.specs.Roots.{root_of}
use Rattle.semantics.specs.Structure as model
use Rattle.semantics.specs.Structure.{Fact, pair, fact_at, compare_fact}
use Rattle.semantics.specs.Types as types
use Rattle.semantics.specs.Types.{core, any_marked, marked, merged_marks, moved_facts, merge, join_roots, join, drain_pairs, drain}
use Rattle.semantics.proofs.Orders.{fact_ordered}
use Rattle.el_rows.specs.declared.El.{El}
use Rattle.el_rows.specs.View.{links_in, Merged}
use Rattle.equalities.specs.declared.Pair.{Pair}
use Rattle.equalities.specs.View.{pair_of}
use Rattle.facts.specs.declared.Fact as code
use Rattle.merging.specs.declared.Tally.{Tally}
use Rattle.merging.specs.View.{Lent, lent, core_of, pairs_in, met_of, ElsHeld, FactsHeld, LentHeld, Passes, PassesAnyQueue, moved_fact}
use Rattle.merging.specs.View.{with_merge_counted, with_pairs_count}
use Rattle.merging.proofs.Laws.{idle, counts_as}
use Rattle.facts.specs.View.{fact_of}
use Rattle.rows.specs.View.{facts_in}

-- Facts.

module _ (keep drop : ℕ) (f : Fact) where
  pub moved : f.el ≡ drop → fact_at keep f ≡ moved_fact keep drop f
  unfolding moved_fact
  moved e = sym (rw (eq-eqb f.el drop e, moved_fact))

  pub unmoved : (f.el ≡ drop → ⊥) → f ≡ moved_fact keep drop f
  unfolding moved_fact
  unmoved n = sym (rw (ne_eqb f.el drop n, moved_fact))

moved_facts_lem : (keep drop : ℕ) (fs : List Fact) → rewrite_into compare_fact (moved_fact keep drop) fs [] ≡ moved_facts keep drop fs
unfolding moved_facts moved_fact
moved_facts_lem keep drop fs = refl

-- Marks: where there is none, a merge makes none.

unmarked_at : (ms : List Bool) (e : ℕ) → any_marked ms ≡ false → marked ms e ≡ false
unfolding any_marked
unmarked_at [] e h = refl
unmarked_at (m ∷ ms) zero h = (neither m (any_marked ms) h).0
unmarked_at (m ∷ ms) (suc e) h = unmarked_at ms e (neither m (any_marked ms) h).1

unmarked_set : (ms : List Bool) (e : ℕ) → any_marked ms ≡ false → any_marked (set ms e false) ≡ false
unfolding any_marked
unmarked_set [] e h = refl
unmarked_set (m ∷ ms) zero h = (neither m (any_marked ms) h).1
unmarked_set (m ∷ ms) (suc e) h = let both = neither m (any_marked ms) h in or_neither both.0 (unmarked_set ms e both.1)

unmarked_merged : (ms : List Bool) (keep drop : ℕ) → any_marked ms ≡ false → any_marked (merged_marks ms keep drop) ≡ false
unfolding merged_marks
unmarked_merged ms keep drop h = rw (unmarked_at ms keep h, merged_marks) (unmarked_set (set ms keep false) drop (unmarked_set ms keep h))

-- A merge.

pub merged : (els els' : List El) (facts facts' : List code.Fact) (c : Tally) (keep drop k : ℕ) → ElsHeld els c → FactsHeld facts c
    → Merged keep drop els els' → InPlaceRewritten compare_fact fact_of (moved_fact keep drop) c.facts facts facts' k
    → PassesAnyQueue els facts c els' facts' (with_merge_counted k c) 1 (merge keep drop)
unfolding merge
merged els els' facts facts' c keep drop k e f united done pairs held =
    let one : c.merges + 1 ≡ suc c.merges = omega arith in
    let there = done.is ∙ moved_facts_lem keep drop (facts_in c.facts facts) in
    record {
      is = λ i. core (united.links i) (united.marks i) (there i) (pairs_in c.pairs pairs) (one i) c.added (met_of c.met);
      holds = record {
        els_held = record {
          unmarked = λ none. rw united.marks (unmarked_merged _ keep drop (e.unmarked none));
        };
        facts_held = record {
          long = done.long ∙ f.long;
          few = omega (arith, done.most, f.few);
          sorted = λ any. rw done.is (rewrite_sorted fact_ordered (moved_fact keep drop) (facts_in c.facts facts) [] tt);
        };
        pairs_held = record { long = held.long; few = held.few };
      };
      kept = refl;
      count_most = omega arith;
    }

-- The roots of a pair.

module _ {a b : ℕ} (w : types.Core) where
  join_less : a < b → merge a b w ≡ join_roots a b w
  unfolding join_roots
  join_less h =
      let low : min a b ≡ a = omega arith in
      let high : max a b ≡ b = omega arith in
      sym (rw (ne_eqb a b (λ e. omega arith), join_roots) (λ i. merge (low i) (high i) w))

  join_more : b < a → merge b a w ≡ join_roots a b w
  unfolding join_roots
  join_more h =
      let low : min a b ≡ b = omega arith in
      let high : max a b ≡ a = omega arith in
      sym (rw (ne_eqb a b (λ e. omega arith), join_roots) (λ i. merge (low i) (high i) w))

  join_same : a ≤ b → b ≤ a → w ≡ join_roots a b w
  unfolding join_roots
  join_same h g = let e : a ≡ b = omega arith in sym (rw (eq-eqb a b e, join_roots))

-- a and b are the roots of l and r
module _ (els : List El) (facts : List code.Fact) (c : Tally) (l r : ℕ) {a b : ℕ} (left : a ≡ root_of (links_in els) l)
    (right : b ≡ root_of (links_in els) r) where
  found : (pairs : List Pair) → join_roots a b (core_of (lent els facts pairs c)) ≡ join (pair l r) (core_of (lent els facts pairs c))
  unfolding join
  found pairs = λ i. join_roots (left i) (right i) (core_of (lent els facts pairs c))

  module _ (els' : List El) (facts' : List code.Fact) (c' : Tally) where
    pub joined_less : a < b → PassesAnyQueue els facts c els' facts' c' 1 (merge a b) → PassesAnyQueue els facts c els' facts' c' 1 (join (pair l r))
    joined_less h step pairs held = counts_as (step pairs held) (join_less _ h ∙ found pairs)

    pub joined_more : b < a → PassesAnyQueue els facts c els' facts' c' 1 (merge b a) → PassesAnyQueue els facts c els' facts' c' 1 (join (pair l r))
    joined_more h step pairs held = counts_as (step pairs held) (join_more _ h ∙ found pairs)

  pub joined_same : a ≤ b → b ≤ a → ElsHeld els c → FactsHeld facts c → PassesAnyQueue els facts c els facts c 1 (join (pair l r))
  joined_same h g e f pairs held =
      idle (lent els facts pairs c) (record { els_held = e; facts_held = f; pairs_held = held }) (join_same _ h g ∙ found pairs)

-- Pairs, drained from the last to the first: those that remain when the first i rows do.

last : (rows : List Pair) (k : ℕ) (d : Pair) → k < length rows → pairs_in (suc k) rows ≡ pair_of (get_or rows k d) ∷ pairs_in k rows
last rows k d h =
    ap (λ (l : List Pair). reverse (map pair_of l)) (take-suc rows k d h)
    ∙ ap reverse (map-append pair_of (take k rows) (get_or rows k d ∷ []))
    ∙ reverse-append (map pair_of (take k rows)) (pair_of (get_or rows k d) ∷ [])

module _ {els : List El} {facts : List code.Fact} {pairs : List Pair} {c : Tally} where
  -- the queue taken out
  pub unqueued_holds : LentHeld (lent els facts pairs c) → LentHeld (lent els facts pairs (with_pairs_count 0 c))
  unqueued_holds h = record {
    els_held = record { unmarked = h.els_held.unmarked };
    facts_held = record { long = h.facts_held.long; few = h.facts_held.few; sorted = h.facts_held.sorted };
    pairs_held = record { long = h.pairs_held.long; few = omega arith };
  }

  -- and drained
  pub drained : {after : Lent} {most : ℕ} → Passes (lent els facts pairs (with_pairs_count 0 c)) after most (drain_pairs (pairs_in c.pairs pairs))
      → Passes (lent els facts pairs c) after most drain
  unfolding drain
  drained p = record { is = p.is; holds = p.holds; kept = p.kept; count_most = p.count_most }

-- the last of those that remain is drained
pub drain_last : (rows : List Pair) (i : ℕ) (d : Pair) → 0 < i → i ≤ length rows → (w : types.Core)
    → let r = get_or rows (i - 1) d in drain_pairs (pairs_in (i - 1) rows) (join (pair_of r) w) ≡ drain_pairs (pairs_in i rows) w
unfolding drain_pairs
drain_last rows i d h g w =
    let more : suc (i - 1) ≡ i = omega arith in
    ap (λ (l : List model.Pair). drain_pairs l w) (sym (last rows (i - 1) d (omega arith)) ∙ ap (λ (m : ℕ). pairs_in m rows) more)

-- all are drained
pub drain_none : (rows : List Pair) (i : ℕ) → i ≤ 0 → (w : types.Core) → w ≡ drain_pairs (pairs_in i rows) w
unfolding drain_pairs
drain_none rows i h w = let none : 0 ≡ i = omega arith in ap (λ (m : ℕ). drain_pairs (pairs_in m rows) w) none
