-- Laws of the passes that impose facts: what each definition does with an entry.
use mathlib.Core.Path.{◌≡◌, refl, sym, ap, ◌∙◌}
use mathlib.Core.Bool.{Bool, true, false, not, ◌||◌}
use mathlib.Core.List.{List, [], ◌∷◌, ◌++◌, map}
use Prim.Native.Nat.{ℕ, ◌+◌, ◌≤◌, ◌<◌, min, max}
use native.Mathlib.Numerals.{add-one}
use native.Mathlib.Omega.{arith}
use lib.ListN.{length, take, drop, get_or}
use lib.Dec.{eqb}
use borrow.Author.Tests.{eq-eqb, ne_eqb, lt-ltb, le-ltb}
use Rattle.ids.specs.Answers.{too_many_facts}
use Rattle.ids.specs.Ids.{el_of, els_of}
use Rattle.ids.specs.Table.{position_from, present, placed}
use Rattle.ids.specs.declared.Place.TheVariants.{Before, At}
use Rattle.ids.specs.declared.ElId.{ElId}
use Rattle.ids.specs.declared.ElIds.{ElIds}
use Rattle.ids.proofs.Answers.{and_right}
use Rattle.ids.proofs.Sorted.{placed_sorted}
use Rattle.ids.proofs.Tables.{at_present, before_spot}
use Rattle.ids.proofs.Views.{length_view, view_placed, view_next, view_done}
use Rattle.rows.specs.Table.{RowPlaced}
use Rattle.rows.proofs.Halving.{items_next, items_done}
use Rattle.std.specs.declared.option.Option as option
use Rattle.equalities.specs.declared.Pair.{Pair}
use Rattle.el_rows.specs.declared.El.{El}
use Rattle.unification.specs.Roots.{root_of}
use Rattle.semantics.specs.Structure.{Fact, pair, max_facts, compare_fact, canonical_fact}
use Rattle.semantics.specs.Structure as model
use Rattle.semantics.specs.Types as types
use Rattle.semantics.specs.Types.{core, with_pairs, first_met, marked, merge, join_roots, join, drain_pairs, drain, refine_roots, refine, refine_parents}
use Rattle.semantics.specs.Types.{refine_all, insert_fact, insert_canonical, concrete_types_of, impose, impose_all}
use Rattle.semantics.proofs.Orders.{fact_ordered}
use Rattle.facts.specs.declared.Fact as code
use Rattle.facts.specs.View.{fact_of}
use Rattle.merging.specs.declared.Tally.{Tally}
use Rattle.merging.specs.View.{with_insertion_counted, lent, met_of, core_of, ElsHeld, FactsHeld, PairsHeld, LentHeld}
use Rattle.merging.proofs.Laws.{idle}
use Rattle.imposing.specs.View.{InsertsFact, refined}
use Rattle.rows.specs.View.{facts_in}

-- Two parents.

-- a pair joined before the queue is drained is drained first
join_drained : (p : model.Pair) (w : types.Core) → drain (join p w) ≡ drain (with_pairs (p ∷ w.pairs) w)
unfolding join join_roots merge drain drain_pairs
join_drained p w = go (eqb a b)
  where
    a : ℕ
    a = root_of w.links p.lhs

    b : ℕ
    b = root_of w.links p.rhs

    go : (t : Bool) → drain (elim t [ true ↦ w | false ↦ merge (min a b) (max a b) w ])
        ≡ drain_pairs w.pairs (elim t [ true ↦ with_pairs [] w | false ↦ merge (min a b) (max a b) (with_pairs [] w) ])
    go true = refl
    go false = refl

-- by their roots
module _ (p q : ℕ) (w : types.Core) {a b : ℕ} (first : a ≡ root_of w.links p) (second : b ≡ root_of w.links q) where
  refine_roots_lem : refine_roots a b w ≡ refine p q w
  unfolding refine
  refine_roots_lem = λ i. refine_roots (first i) (second i) w

  -- they have one root
  pub refine_same : a ≡ b → w ≡ refine p q w
  unfolding refine_roots
  refine_same e = sym (rw (eq-eqb a b e, refine_roots)) ∙ refine_roots_lem

  -- neither root is marked
  pub refine_unmarked : (marked w.marks a || marked w.marks b) ≡ false → w ≡ refine p q w
  unfolding refine_roots
  refine_unmarked n = sym (rw (n, and_right (not (eqb a b)) {b = false} refl, refine_roots)) ∙ refine_roots_lem

  -- the new pair is drained, then the queue
  pub refine_merged : (a ≡ b → ⊥) → (marked w.marks a || marked w.marks b) ≡ true → drain (join (pair a b) w) ≡ refine p q w
  unfolding refine_roots
  refine_merged d t = join_drained (pair a b) w ∙ sym (rw (ne_eqb a b d, t, refine_roots)) ∙ refine_roots_lem

-- Two lists of parents.
module _ (ps qs : ElIds) (i : ℕ) where
  pub parents_next : (d e : ElId) → i < length (els_of ps) → i < length (els_of qs) → (w : types.Core)
      → refine_parents (drop (i + 1) (els_of ps)) (drop (i + 1) (els_of qs)) (refine (get_or ps.ids i d).0 (get_or qs.ids i e).0 w)
      ≡ refine_parents (drop i (els_of ps)) (drop i (els_of qs)) w
  unfolding refine_parents
  parents_next d e h k w =
      λ j. refine_parents (sym (view_next el_of ps.len ps.ids i d h) j) (sym (view_next el_of qs.len qs.ids i e k) j) w

  -- the second list is passed
  pub parents_short : length (els_of qs) ≤ i → (w : types.Core)
      → refine_parents (drop (i + 1) (els_of ps)) (drop (i + 1) (els_of qs)) w ≡ refine_parents (drop i (els_of ps)) (drop i (els_of qs)) w
  unfolding refine_parents
  parents_short h w = none (i + 1) (omega arith) ∙ sym (none i h)
    where
      no_parents : (l : List ℕ) → refine_parents l [] w ≡ w
      no_parents [] = refl
      no_parents (x ∷ xs) = refl

      none : (j : ℕ) → length (els_of qs) ≤ j → refine_parents (drop j (els_of ps)) (drop j (els_of qs)) w ≡ w
      none j past =
          ap (λ (l : List ℕ). refine_parents (drop j (els_of ps)) l w) (view_done el_of qs.len qs.ids j past) ∙ no_parents (drop j (els_of ps))

  pub parents_done : length (els_of ps) ≤ i → (w : types.Core) → w ≡ refine_parents (drop i (els_of ps)) (drop i (els_of qs)) w
  unfolding refine_parents
  parents_done h w = ap (λ (l : List ℕ). refine_parents l (drop i (els_of qs)) w) (sym (view_done el_of ps.len ps.ids i h))

-- The types ts of an element, against a fact f: at the type i.
module _ (ts : List code.Fact) (i : ℕ) (f : Fact) where
  module _ (d : code.Fact) (at : i < length ts) where
    abbrev here : Fact
    here = fact_of (get_or ts i d)

    -- a fact of the same type
    pub all_same : here.typ ≡ f.typ → (w : types.Core)
        → refine_all (map fact_of (drop (i + 1) ts)) f (refine_parents here.parents f.parents w) ≡ refine_all (map fact_of (drop i ts)) f w
    unfolding refine_all
    all_same e w =
        sym (rw (eq-eqb here.typ f.typ e, refine_all)) ∙ ap (λ (l : List Fact). refine_all l f w) (sym (items_next fact_of ts i d at))

    -- a fact of another type
    pub all_other : (here.typ ≡ f.typ → ⊥) → (w : types.Core)
        → refine_all (map fact_of (drop (i + 1) ts)) f w ≡ refine_all (map fact_of (drop i ts)) f w
    unfolding refine_all
    all_other e w =
        sym (rw (ne_eqb here.typ f.typ e, refine_all)) ∙ ap (λ (l : List Fact). refine_all l f w) (sym (items_next fact_of ts i d at))

  -- all are done
  pub all_done : length ts ≤ i → (w : types.Core) → w ≡ refine_all (map fact_of (drop i ts)) f w
  unfolding refine_all
  all_done past w = ap (λ (l : List Fact). refine_all l f w) (sym (items_done fact_of ts i past))

-- A fact inserted.

module _ (facts : List code.Fact) (c : Tally) (f : Fact) (held : FactsHeld facts c) (k : ℕ) where
  -- it is there
  pub known : position_from compare_fact f 0 (facts_in c.facts facts) ≡ At k → InsertsFact facts c facts c f
  unfolding insert_fact
  known e els pairs eh ph =
      idle (lent els facts pairs c) (record { els_held = eh; facts_held = held; pairs_held = ph })
      (sym (rw (at_present compare_fact f k (facts_in c.facts facts) e, insert_fact)))

  -- it goes before the row k
  module _ (place : position_from compare_fact f 0 (facts_in c.facts facts) ≡ Before k) where
    spot : (present compare_fact f (facts_in c.facts facts) ≡ false) × ((k ≤ length (facts_in c.facts facts))
        × (placed compare_fact f (facts_in c.facts facts) ≡ take k (facts_in c.facts facts) ++ f ∷ drop k (facts_in c.facts facts)))
    spot = before_spot compare_fact f k (facts_in c.facts facts) place

    many : c.facts ≡ length (facts_in c.facts facts)
    many = omega (arith, length_view fact_of c.facts facts, held.long, held.few)

    pub place_most : k ≤ c.facts
    place_most = omega (arith, spot.1.0, many)

    -- the tables hold with other facts
    holds_still : (facts' : List code.Fact) (n a : ℕ) (m : option.Option ℕ) → FactsHeld facts' (with_insertion_counted n a m c) → (els : List El) (pairs : List Pair)
        → ElsHeld els c → PairsHeld pairs c → LentHeld (lent els facts' pairs (with_insertion_counted n a m c))
    holds_still facts' n a m fh els pairs eh ph = record {
      els_held = record { unmarked = eh.unmarked };
      facts_held = fh;
      pairs_held = record { long = ph.long; few = ph.few };
    }

    -- there is no room
    pub no_room_lem : (m : option.Option ℕ) → max_facts ≤ c.facts → met_of m ≡ first_met too_many_facts (met_of c.met)
        → InsertsFact facts c facts (with_insertion_counted c.facts c.added m c) f
    unfolding insert_fact
    no_room_lem m h e els pairs eh ph = record {
      is =
          let w = core_of (lent els facts pairs c) in
          (λ i. core w.links w.marks w.facts w.pairs w.merges w.added (e i))
          ∙ sym (rw (spot.0, le-ltb (length w.facts) max_facts (omega (arith, many)), insert_fact));
      holds = holds_still facts c.facts c.added m (record { long = held.long; few = held.few; sorted = held.sorted }) els pairs eh ph;
      kept = refl;
      count_most = omega arith;
    }

    -- there is
    pub has_room : (facts' : List code.Fact) (row : code.Fact) → c.facts < max_facts → fact_of row ≡ f → RowPlaced c.facts k row facts facts'
        → InsertsFact facts c facts' (with_insertion_counted (c.facts + 1) (c.added + 1) c.met c) f
    unfolding insert_fact
    has_room facts' row h is put els pairs eh ph = record {
      is =
          let w = core_of (lent els facts pairs c) in
          (λ i. core w.links w.marks (now i) w.pairs w.merges (add-one w.added i) w.met)
          ∙ sym (rw (spot.0, lt-ltb (length w.facts) max_facts (omega (arith, many)), insert_fact));
      holds = holds_still facts' (c.facts + 1) (c.added + 1) c.met (record {
        long = put.long ∙ held.long;
        few = omega arith;
        sorted = λ s. rw now (placed_sorted fact_ordered f (facts_in c.facts facts) (held.sorted s));
      }) els pairs eh ph;
      kept = refl;
      count_most = omega arith;
    }
      where
        now : facts_in (c.facts + 1) facts' ≡ placed compare_fact f (facts_in c.facts facts)
        now =
            view_placed fact_of c.facts facts facts' row c.facts k (c.facts + 1) many place_most refl put.is
            ∙ ap (λ (x : Fact). take k (facts_in c.facts facts) ++ x ∷ drop k (facts_in c.facts facts)) is
            ∙ sym spot.1.1

-- A fact imposed.

-- the types are taken once
pub types_refined : (f : Fact) (w : types.Core) {ts : List Fact} → ts ≡ concrete_types_of w.links w.facts f.el → refine_all ts f w ≡ refined f w
unfolding refined
types_refined f w e = ap (λ (ts : List Fact). refine_all ts f w) e

pub imposed : (f : Fact) (w : types.Core) → insert_canonical f (refined f w) ≡ impose f w
unfolding impose refined
imposed f w = refl

-- the fact is inserted as roots
pub inserted_canonical : (f : Fact) (w : types.Core) {x : Fact} → x ≡ canonical_fact w.links f → insert_fact x w ≡ insert_canonical f w
unfolding insert_canonical
inserted_canonical f w e = ap (λ (x : Fact). insert_fact x w) e

-- Impositions, one after the other.
module _ (fs : List code.Fact) (i : ℕ) where
  pub impositions_next : (d : code.Fact) → i < length fs → (w : types.Core)
      → impose_all (map fact_of (drop (i + 1) fs)) (impose (fact_of (get_or fs i d)) w) ≡ impose_all (map fact_of (drop i fs)) w
  unfolding impose_all
  impositions_next d h w = ap (λ (l : List Fact). impose_all l w) (sym (items_next fact_of fs i d h))

  pub impositions_done : length fs ≤ i → (w : types.Core) → w ≡ impose_all (map fact_of (drop i fs)) w
  unfolding impose_all
  impositions_done h w = ap (λ (l : List Fact). impose_all l w) (sym (items_done fact_of fs i h))
