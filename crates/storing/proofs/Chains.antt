-- The chains of facts, as the code fills them: fact by fact.
use mathlib.Core.Path.{◌≡◌, refl, sym, ap, subst, ◌∙◌}
use mathlib.Core.Bool.{Bool, true, false}
use mathlib.Core.List.{List, [], ◌∷◌, ◌++◌, map, map-append}
use Prim.Native.Nat.{ℕ, zero, suc, ◌+◌, ◌≤◌, ◌<◌}
use native.Mathlib.Numerals.{add-one}
use native.Mathlib.Omega.{arith}
use lib.ListN.{length, take, get_or, set, replicate, length-map, length-set, length-take, length-replicate, get_or-replicate}
use lib.Seq.{take-suc, length-take-le, get_or-set_same, get_or-set_other, get_or-take, ext_get_or}
use lib.Dec.{eqb, ltb}
use borrow.Author.Tests.{eq-eqb, ne_eqb, eqb-true, eqb-false, ltb-true, ltb-false}
use Rattle.ids.proofs.Views.{view_at}
use Rattle.semantics.specs.Structure.{Fact}
use Rattle.facts.specs.declared.Fact as facts
use Rattle.facts.specs.declared.Facts.{Facts}
use Rattle.facts.specs.View.{fact_of, facts_of, no_fact}
use Rattle.file.specs.File.{next_fact, nexts_from, nexts, first_fact}
use Rattle.storing.specs.View.{Firsts}

-- the element of a fact in the table
pub el_at : (t : Facts) (j : ℕ) → j < length (facts_of t) → (get_or (facts_of t) j (fact_of no_fact)).el ≡ (get_or t.items j no_fact).el.0
el_at t j h = ap (λ (f : Fact). f.el) (view_at fact_of t.len t.items j no_fact h)

-- one fact more
module _ (items : List facts.Fact) (i : ℕ) (h : i < length items) where
  pub facts_grown : map fact_of (take (i + 1) items) ≡ map fact_of (take i items) ++ (fact_of (get_or items i no_fact) ∷ [])
  facts_grown = rw (add-one i, take-suc items i no_fact h) (map-append fact_of (take i items) (get_or items i no_fact ∷ []))

  pub facts_many : i ≡ length (map fact_of (take i items))
  facts_many = omega (arith, length-map (take i items) fact_of, length-take-le i items (omega arith))

-- The next index of each fact.

pub nexts_length : (k : ℕ) (fs : List Fact) → length (nexts_from k fs) ≡ length fs
unfolding nexts_from
nexts_length k [] = refl
nexts_length k (f ∷ fs) = ap suc (nexts_length (suc k) fs)

-- the last fact has none
next_last : (k j : ℕ) (fs : List Fact) → suc j ≡ length fs → get_or (nexts_from k fs) j 0 ≡ 0
unfolding nexts_from next_fact
next_last k j [] h = absurd (omega arith)
next_last k zero (f ∷ []) h = refl
next_last k (suc j) (f ∷ []) h = absurd (omega arith)
next_last k zero (f ∷ g ∷ fs) h = absurd (omega arith)
next_last k (suc j) (f ∷ g ∷ fs) h = next_last (suc k) j (g ∷ fs) (omega arith)

module _ (d : Fact) where
  -- one that is followed by one of the same element, or of another
  next_same : (k j : ℕ) (fs : List Fact) → suc j < length fs → (get_or fs j d).el ≡ (get_or fs (suc j) d).el → get_or (nexts_from k fs) j 0 ≡ k + j
  unfolding nexts_from next_fact
  next_same k j [] h e = absurd (omega arith)
  next_same k j (f ∷ []) h e = absurd (omega arith)
  next_same k zero (f ∷ g ∷ fs) h e = rw (eq-eqb g.el f.el (sym e), next_fact) (omega arith)
  next_same k (suc j) (f ∷ g ∷ fs) h e = let next : get_or (nexts_from (suc k) (g ∷ fs)) j 0 ≡ suc k + j = next_same (suc k) j (g ∷ fs) (omega arith) e in omega arith

  next_other : (k j : ℕ) (fs : List Fact) → suc j < length fs → ((get_or fs j d).el ≡ (get_or fs (suc j) d).el → ⊥) → get_or (nexts_from k fs) j 0 ≡ 0
  unfolding nexts_from next_fact
  next_other k j [] h n = absurd (omega arith)
  next_other k j (f ∷ []) h n = absurd (omega arith)
  next_other k zero (f ∷ g ∷ fs) h n = rw (ne_eqb g.el f.el (λ e. n (sym e)), next_fact)
  next_other k (suc j) (f ∷ g ∷ fs) h n = next_other (suc k) j (g ∷ fs) (omega arith) n

-- the array so far: what is before the fact i - 1 is told, and the rest is zero
pub record Linked (limit : ℕ) (fs : List Fact) (i : ℕ) (links : List ℕ) : Type 0 where
  pub below : (j : ℕ) → suc j < i → get_or links j 0 ≡ get_or (nexts fs) j 0
  pub above : (j : ℕ) → i ≤ suc j → j < limit → get_or links j 0 ≡ 0
  pub long : length links ≡ limit
  pub from : 1 ≤ i

module _ {limit : ℕ} {fs : List Fact} where
  pub linked_none : Linked limit fs 1 (replicate limit 0)
  linked_none = record {
    below = λ j h. absurd (omega arith);
    above = λ j h k. get_or-replicate limit j 0 0 k;
    long = length-replicate limit 0;
    from = omega arith;
  }

  module _ (d : Fact) {i : ℕ} {links : List ℕ} (so_far : Linked limit fs i links) (p : ℕ) (is : suc p ≡ i) (there : i < length fs) (fits : length fs ≤ limit) where
    pub linked_other : ((get_or fs p d).el ≡ (get_or fs i d).el → ⊥) → Linked limit fs (i + 1) links
    linked_other n = record {
      below = λ j h. go j h (eqb j p) refl;
      above = λ j h k. so_far.above j (omega arith) k;
      long = so_far.long;
      from = omega arith;
    }
      where
        go : (j : ℕ) → suc j < i + 1 → (t : Bool) → eqb j p ≡ t → get_or links j 0 ≡ get_or (nexts fs) j 0
        go j h true q =
            let e = eqb-true j p q in
            subst (λ (x : ℕ). get_or links x 0 ≡ get_or (nexts fs) x 0) (sym e)
            (so_far.above p (omega arith) (omega arith) ∙ sym (next_other d 2 p fs (omega arith) (λ s. n (s ∙ ap (λ (x : ℕ). (get_or fs x d).el) is))))
        go j h false q = so_far.below j (omega (arith, eqb-false j p q))

    pub linked_same : (get_or fs p d).el ≡ (get_or fs i d).el → Linked limit fs (i + 1) (set links p (i + 1))
    linked_same s = record {
      below = λ j h. go j h (eqb j p) refl;
      above = λ j h k. get_or-set_other links p j (i + 1) 0 (omega arith) ∙ so_far.above j (omega arith) k;
      long = length-set links p (i + 1) ∙ so_far.long;
      from = omega arith;
    }
      where
        go : (j : ℕ) → suc j < i + 1 → (t : Bool) → eqb j p ≡ t → get_or (set links p (i + 1)) j 0 ≡ get_or (nexts fs) j 0
        go j h true q =
            let e = eqb-true j p q in
            let told : get_or (nexts fs) p 0 ≡ 2 + p = next_same d 2 p fs (omega arith) (s ∙ ap (λ (x : ℕ). (get_or fs x d).el) (sym is)) in
            subst (λ (x : ℕ). get_or (set links p (i + 1)) x 0 ≡ get_or (nexts fs) x 0) (sym e)
            (get_or-set_same links p (i + 1) 0 (omega (arith, so_far.long)) ∙ omega arith)
        go j h false q = get_or-set_other links p j (i + 1) 0 (eqb-false j p q) ∙ so_far.below j (omega (arith, eqb-false j p q))

  pub linked_all : {i : ℕ} {links : List ℕ} → Linked limit fs i links → length fs ≤ i → length fs ≤ limit → take (length fs) links ≡ nexts fs
  linked_all {i} {links} l past fits =
      ext_get_or 0 (take (length fs) links) (nexts fs) (omega (arith, length-take (length fs) links, nexts_length 2 fs, l.long))
      (λ j h. let k : j < length fs = omega (arith, length-take (length fs) links, h) in get_or-take (length fs) links j 0 k ∙ go j k (ltb (suc j) i) refl)
    where
      go : (j : ℕ) → j < length fs → (t : Bool) → ltb (suc j) i ≡ t → get_or links j 0 ≡ get_or (nexts fs) j 0
      go j h true q = l.below j (ltb-true (suc j) i q)
      go j h false q = l.above j (ltb-false (suc j) i q) (omega arith) ∙ sym (next_last 2 j fs (omega (arith, ltb-false (suc j) i q)))

-- The index of the first fact of each element, with one fact more.

module _ (e : ℕ) (g : Fact) where
  first_other : (g.el ≡ e → ⊥) → (k : ℕ) (fs : List Fact) → first_fact k e (fs ++ (g ∷ [])) ≡ first_fact k e fs
  unfolding first_fact
  first_other n k [] = rw (ne_eqb g.el e n, first_fact)
  first_other n k (f ∷ fs) = go (eqb f.el e) (first_other n (suc k) fs)
    where
      go : (t : Bool) → first_fact (suc k) e (fs ++ (g ∷ [])) ≡ first_fact (suc k) e fs
          → ◌≡◌ {A = ℕ} (elim t [ true ↦ k | false ↦ first_fact (suc k) e (fs ++ (g ∷ [])) ]) (elim t [ true ↦ k | false ↦ first_fact (suc k) e fs ])
      go true h = refl
      go false h = h

  -- it has one
  first_old : (k : ℕ) (fs : List Fact) → (first_fact k e fs ≡ 0 → ⊥) → first_fact k e (fs ++ (g ∷ [])) ≡ first_fact k e fs
  unfolding first_fact
  first_old k [] n = absurd (n refl)
  first_old k (f ∷ fs) n = go (eqb f.el e) n (first_old (suc k) fs)
    where
      go : (t : Bool) → (◌≡◌ {A = ℕ} (elim t [ true ↦ k | false ↦ first_fact (suc k) e fs ]) 0 → ⊥)
          → ((first_fact (suc k) e fs ≡ 0 → ⊥) → first_fact (suc k) e (fs ++ (g ∷ [])) ≡ first_fact (suc k) e fs)
          → ◌≡◌ {A = ℕ} (elim t [ true ↦ k | false ↦ first_fact (suc k) e (fs ++ (g ∷ [])) ]) (elim t [ true ↦ k | false ↦ first_fact (suc k) e fs ])
      go true m h = refl
      go false m h = h m

  -- it has none, and this is of it
  first_new : g.el ≡ e → (k : ℕ) (fs : List Fact) → 1 ≤ k → first_fact k e fs ≡ 0 → first_fact k e (fs ++ (g ∷ [])) ≡ k + length fs
  unfolding first_fact
  first_new is k [] h z = rw (eq-eqb g.el e is, first_fact) (omega arith)
  first_new is k (f ∷ fs) h z = go (eqb f.el e) z (first_new is (suc k) fs (omega arith))
    where
      go : (t : Bool) → ◌≡◌ {A = ℕ} (elim t [ true ↦ k | false ↦ first_fact (suc k) e fs ]) 0
          → (first_fact (suc k) e fs ≡ 0 → first_fact (suc k) e (fs ++ (g ∷ [])) ≡ suc k + length fs)
          → ◌≡◌ {A = ℕ} (elim t [ true ↦ k | false ↦ first_fact (suc k) e (fs ++ (g ∷ [])) ]) (k + suc (length fs))
      go true y next = absurd (omega arith)
      go false y next = next y ∙ omega arith

pub firsts_none : (limit : ℕ) → Firsts limit [] (replicate limit 0)
unfolding first_fact
firsts_none limit = record { each = λ e h. get_or-replicate limit e 0 0 (omega arith); long = length-replicate limit 0 }

module _ {limit : ℕ} {fs : List Fact} {heads : List ℕ} (g : Fact) (so_far : Firsts limit fs heads) where
  -- a fact of no element
  pub firsts_past : limit ≤ g.el → Firsts limit (fs ++ (g ∷ [])) heads
  firsts_past h = record {
    each = λ e k. so_far.each e k ∙ sym (first_other e g (λ q. absurd (omega (arith, h, k, q))) 1 fs);
    long = so_far.long;
  }

  -- one of an element that has one
  pub firsts_kept : g.el < limit → (get_or heads g.el 0 ≡ 0 → ⊥) → Firsts limit (fs ++ (g ∷ [])) heads
  firsts_kept at n = record { each = λ e k. so_far.each e k ∙ sym (go e (eqb g.el e) refl); long = so_far.long }
    where
      go : (e : ℕ) → (t : Bool) → eqb g.el e ≡ t → first_fact 1 e (fs ++ (g ∷ [])) ≡ first_fact 1 e fs
      go e true q =
          subst (λ (x : ℕ). first_fact 1 x (fs ++ (g ∷ [])) ≡ first_fact 1 x fs) (eqb-true g.el e q)
          (first_old g.el g 1 fs (λ z. n (so_far.each g.el (omega arith) ∙ z)))
      go e false q = first_other e g (eqb-false g.el e q) 1 fs

  -- the first of its element
  pub firsts_stored : g.el < limit → get_or heads g.el 0 ≡ 0 → {i : ℕ} → i ≡ length fs → Firsts limit (fs ++ (g ∷ [])) (set heads g.el (i + 1))
  firsts_stored at z {i} is = record { each = λ e k. go e k (eqb g.el e) refl; long = length-set heads g.el (i + 1) ∙ so_far.long }
    where
      go : (e : ℕ) → e + 1 ≤ limit → (t : Bool) → eqb g.el e ≡ t → get_or (set heads g.el (i + 1)) e 0 ≡ first_fact 1 e (fs ++ (g ∷ []))
      go e k true q =
          subst (λ (x : ℕ). get_or (set heads g.el (i + 1)) x 0 ≡ first_fact 1 x (fs ++ (g ∷ []))) (eqb-true g.el e q)
          (get_or-set_same heads g.el (i + 1) 0 (omega (arith, so_far.long))
          ∙ omega (arith, first_new g.el g refl 1 fs (omega arith) (sym (so_far.each g.el (omega arith)) ∙ z)))
      go e k false q =
          get_or-set_other heads g.el e (i + 1) 0 (λ s. eqb-false g.el e q (sym s))
          ∙ so_far.each e k ∙ sym (first_other e g (eqb-false g.el e q) 1 fs)
