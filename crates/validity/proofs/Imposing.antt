-- What imposing facts keeps of a valid structure, and what it lowers.
use mathlib.Core.Path.{◌≡◌, refl, sym, ◌∙◌}
use mathlib.Core.Logic.{◌⊎◌, inl, inr}
use mathlib.Core.Bool.{Bool, true, false, not, ◌&&◌, ◌||◌}
use mathlib.Core.List.Memᴰ
use mathlib.Core.List.{List, [], ◌∷◌, map}
use Prim.Native.Nat.{ℕ, ◌<◌}
use native.Mathlib.Omega.{arith}
use lib.ListN.{length, length-map}
use lib.Dec.{eqb, ltb}
use borrow.Author.Tests.{eqb-true, eqb-false, ltb-true, not-true}
use Rattle.ids.specs.Answers.{too_many_facts}
use Rattle.ids.specs.Table.{present, placed}
use Rattle.ids.proofs.Sorted.{All, all_map, all_image, placed_all, placed_sorted, placed_absent, rewrite_all}
use Rattle.unification.specs.Roots.{root_of}
use Rattle.unification.proofs.Laws.{root_le, root_root}
use Rattle.semantics.specs.Structure.{Fact, compare_fact, canonical_fact, max_facts, pair}
use Rattle.semantics.specs.Types.{Core, with_pairs, with_added, with_met, marked, drain, facts_at, concrete_types_of, refine_roots, refine, refine_parents}
use Rattle.semantics.specs.Types.{refine_all, insert_fact, insert_canonical, impose, impose_all}
use Rattle.semantics.specs.Valid.{Counts, FactValid, OnRoot, Below, Listed}
use Rattle.semantics.proofs.Orders.{fact_ordered}
use Rattle.semantics.proofs.Cases.{and_first}
use Rattle.semantics.proofs.Queues.{drain_pairs_lem}
use Rattle.validity.proofs.Drain.{ValidCore, Advances, remaining, advances_none, advances_then, requeued_advances, met_advances}
use Rattle.validity.proofs.Drain.{drain_advances, drain_merges}

-- Roots of what is valid.

pub roots_below : (n : ℕ) (ls l : List ℕ) → Below n l → Below n (map (root_of ls) l)
roots_below n ls l h = all_image (λ e. e < n) (root_of ls) l (all_map (λ e k. omega (arith, root_le ls e)) l h)

pub roots_listed : (n : ℕ) (ls l : List ℕ) → Listed n l → Listed n (map (root_of ls) l)
roots_listed n ls l h = record { short = omega (arith, length-map l (root_of ls), h.short); below = roots_below n ls l h.below }

pub canonical_valid : (c : Counts) (ls : List ℕ) (f : Fact) → FactValid c f → FactValid c (canonical_fact ls f)
unfolding canonical_fact
canonical_valid c ls f v = record {
  el = omega (arith, root_le ls f.el, v.el);
  typ = v.typ;
  parents = roots_listed c.els ls f.parents v.parents;
  parent_count = length-map f.parents (root_of ls) ∙ v.parent_count;
}

pub canonical_rooted : (ls : List ℕ) (f : Fact) → OnRoot ls (canonical_fact ls f)
unfolding canonical_fact
canonical_rooted ls f = root_root ls f.el

-- what holds of the facts of an element holds of those that are stored at it
pub facts_at_all : (P : Fact → Type 0) (e : ℕ) (fs : List Fact) → All (λ f. f.el ≡ e → P f) fs → All P (facts_at e fs)
unfolding facts_at
facts_at_all P e [] h = tt
facts_at_all P e (f ∷ fs) h = go (eqb f.el e) refl (facts_at_all P e fs h.1)
  where
    go : (t : Bool) → eqb f.el e ≡ t → All P (facts_at e fs) → All P (elim t [ true ↦ f ∷ facts_at e fs | false ↦ facts_at e fs ])
    go true q r = (h.0 (eqb-true f.el e q), r)
    go false q r = r

pub types_valid : (c : Counts) (ls : List ℕ) (fs : List Fact) (e : ℕ) → All (FactValid c) fs → All (FactValid c) (concrete_types_of ls fs e)
unfolding concrete_types_of
types_valid c ls fs e h =
    rewrite_all compare_fact (canonical_fact ls) (FactValid c) (facts_at (root_of ls e) fs) []
    (all_map (λ f v. canonical_valid c ls f v) (facts_at (root_of ls e) fs) (facts_at_all (FactValid c) (root_of ls e) fs (all_map (λ f v e. v) fs h))) tt

-- either no link and no pair altered, or there was a merge and no pair waits
abbrev pub Placed : Core → Core → Type 0
Placed w v = ((v.links ≡ w.links) × (v.pairs ≡ w.pairs)) ⊎ ((v.pairs ≡ []) × (w.merges < v.merges))

pub record Imposed (c : Counts) (w v : Core) : Type 0 where
  pub advances : Advances c w v
  pub place : Placed w v

pub idle : (c : Counts) (w : Core) → ValidCore c w → Imposed c w w
idle c w h = record { advances = advances_none c w h; place = inl (refl, refl) }

pub then : (c : Counts) (w v u : Core) → Imposed c w v → Imposed c v u → Imposed c w u
then c w v u a b = record { advances = advances_then c w v u a.advances b.advances; place = go a.place b.place }
  where
    go : Placed w v → Placed v u → Placed w u
    go (inl p) (inl q) = inl (q.0 ∙ p.0, q.1 ∙ p.1)
    go (inl p) (inr q) = inr (q.0, omega (arith, a.advances.merges, q.1))
    go (inr p) (inl q) = inr (q.1 ∙ p.0, omega (arith, b.advances.merges, p.1))
    go (inr p) (inr q) = inr (q.0, omega (arith, a.advances.merges, q.1))

-- Parents are refined.

module _ (c : Counts) where
  -- the pair of two elements, queued in front
  abbrev pub queued : ℕ → ℕ → Core → Core
  queued a b w = with_pairs (pair a b ∷ w.pairs) w

  pub queued_advances : (a b : ℕ) (w : Core) → a < c.els → b < c.els → ValidCore c w → Advances c w (queued a b w)
  queued_advances a b w la lb h = requeued_advances c (pair a b ∷ w.pairs) w h (record { lhs = la; rhs = lb }, h.pairs)

  refine_roots_advances : (a b : ℕ) (w : Core) → a < c.els → b < c.els → root_of w.links a ≡ a → root_of w.links b ≡ b
      → ValidCore c w → Imposed c w (refine_roots a b w)
  unfolding refine_roots
  refine_roots_advances a b w la lb ra rb h = go (not (eqb a b) && (marked w.marks a || marked w.marks b)) refl
    where
      go : (t : Bool) → (not (eqb a b) && (marked w.marks a || marked w.marks b)) ≡ t
          → Imposed c w (elim t [ true ↦ drain (queued a b w) | false ↦ w ])
      go false t = idle c w h
      go true t =
          let q = queued_advances a b w la lb h in
          let n = eqb-false a b (not-true (eqb a b) (and_first (not (eqb a b)) (marked w.marks a || marked w.marks b) t)) in
          record {
            advances = advances_then c w (queued a b w) (drain (queued a b w)) q (drain_advances c (queued a b w) q.valid);
            place = inr (
              drain_pairs_lem (queued a b w),
              drain_merges (queued a b w) (pair a b) w.pairs refl (λ z. n (sym ra ∙ z ∙ rb)),
            );
          }

  refine_advances : (a b : ℕ) (w : Core) → a < c.els → b < c.els → ValidCore c w → Imposed c w (refine a b w)
  unfolding refine
  refine_advances a b w la lb h =
      refine_roots_advances (root_of w.links a) (root_of w.links b) w (omega (arith, root_le w.links a)) (omega (arith, root_le w.links b))
      (root_root w.links a) (root_root w.links b) h

  refine_parents_advances : (ps qs : List ℕ) (w : Core) → Below c.els ps → Below c.els qs → ValidCore c w → Imposed c w (refine_parents ps qs w)
  unfolding refine_parents
  refine_parents_advances [] qs w lp lq h = idle c w h
  refine_parents_advances (p ∷ ps) [] w lp lq h = idle c w h
  refine_parents_advances (p ∷ ps) (q ∷ qs) w lp lq h =
      let a = refine_advances p q w lp.0 lq.0 h in
      then c w (refine p q w) (refine_parents ps qs (refine p q w)) a
      (refine_parents_advances ps qs (refine p q w) lp.1 lq.1 a.advances.valid)

  refine_all_advances : (gs : List Fact) (f : Fact) (w : Core) → All (FactValid c) gs → FactValid c f → ValidCore c w → Imposed c w (refine_all gs f w)
  unfolding refine_all
  refine_all_advances [] f w lg lf h = idle c w h
  refine_all_advances (g ∷ gs) f w lg lf h = go (eqb g.typ f.typ) (λ v. refine_all_advances gs f v lg.1 lf)
    where
      go : (t : Bool) → ((v : Core) → ValidCore c v → Imposed c v (refine_all gs f v))
          → Imposed c w (refine_all gs f (elim t [ true ↦ refine_parents g.parents f.parents w | false ↦ w ]))
      go true rest =
          let v = refine_parents g.parents f.parents w in
          let a = refine_parents_advances g.parents f.parents w lg.0.parents.below lf.parents.below h in
          then c w v (refine_all gs f v) a (rest v a.advances.valid)
      go false rest = rest w h

  -- A fact is inserted.

  pub insert_fact_advances : (f : Fact) (w : Core) → FactValid c f → OnRoot w.links f → ValidCore c w → Imposed c w (insert_fact f w)
  unfolding insert_fact remaining
  insert_fact_advances f w v o h = go (present compare_fact f w.facts) (ltb (length w.facts) max_facts) refl refl
    where
      go : (t u : Bool) → present compare_fact f w.facts ≡ t → ltb (length w.facts) max_facts ≡ u
          → Imposed c w (elim t [ true ↦ w | false ↦ elim u [ true ↦ with_added (placed compare_fact f w.facts) w | false ↦ with_met too_many_facts w ] ])
      go true u p q = idle c w h
      go false true p q =
          let few = ltb-true (length w.facts) max_facts q in
          let more = placed_absent compare_fact f w.facts p in
          record {
            advances = record {
              valid = record {
                els = h.els;
                links = h.links;
                marks = h.marks;
                facts = record {
                  each = placed_all compare_fact f (FactValid c) w.facts v h.facts.each;
                  sorted = placed_sorted fact_ordered f w.facts h.facts.sorted;
                  most = omega arith;
                };
                rooted = placed_all compare_fact f (OnRoot w.links) w.facts o h.rooted;
                pairs = h.pairs;
                met = h.met;
              };
              merges = omega arith;
              added = omega arith;
              sum = refl;
              lowered = omega arith;
              met = λ z. z;
            };
            place = inl (refl, refl);
          }
      go false false p q = record { advances = met_advances c too_many_facts (Memᴰ.tail (Memᴰ.head refl)) w h; place = inl (refl, refl) }

  insert_canonical_advances : (f : Fact) (w : Core) → FactValid c f → ValidCore c w → Imposed c w (insert_canonical f w)
  unfolding insert_canonical
  insert_canonical_advances f w v h =
      insert_fact_advances (canonical_fact w.links f) w (canonical_valid c w.links f v) (canonical_rooted w.links f) h

  pub impose_advances : (f : Fact) (w : Core) → FactValid c f → ValidCore c w → Imposed c w (impose f w)
  unfolding impose
  impose_advances f w v h =
      let gs = concrete_types_of w.links w.facts f.el in
      let a = refine_all_advances gs f w (types_valid c w.links w.facts f.el h.facts.each) v h in
      then c w (refine_all gs f w) (insert_canonical f (refine_all gs f w)) a (insert_canonical_advances f (refine_all gs f w) v a.advances.valid)

  pub impose_all_advances : (fs : List Fact) (w : Core) → All (FactValid c) fs → ValidCore c w → Imposed c w (impose_all fs w)
  unfolding impose_all
  impose_all_advances [] w v h = idle c w h
  impose_all_advances (f ∷ fs) w v h =
      let a = impose_advances f w v.0 h in
      then c w (impose f w) (impose_all fs (impose f w)) a
      (impose_all_advances fs (impose f w) v.1 a.advances.valid)
