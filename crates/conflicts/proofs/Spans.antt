-- Laws of where the facts of an element stand in a table.
use mathlib.Core.Path.{◌≡◌, refl, sym, ap, subst, ◌∙◌}
use mathlib.Core.Bool.{Bool, true, false}
use mathlib.Core.List.{List, [], ◌∷◌, ◌++◌, append-nil, map, map-append}
use Prim.Native.Nat.{ℕ, suc, ◌+◌, ◌-◌, ◌≤◌, ◌<◌}
use native.Mathlib.Numerals.{add-one}
use native.Mathlib.Omega.{arith}
use lib.ListN.{length, take, drop, get_or, set, replicate, length-append, length-set, get_or-replicate}
use lib.Seq.{take-suc, drop-append-le, get_or-set_same, get_or-set_other}
use lib.Dec.{eqb}
use borrow.Author.Tests.{eq-eqb, ne_eqb, eqb-true, eqb-false}
use Rattle.ids.proofs.Views.{length_view, view_nil, map_drop}
use Rattle.unification.specs.Roots.{max_els}
use Rattle.semantics.specs.Structure.{Fact}
use Rattle.semantics.specs.Types.{facts_at}
use Rattle.facts.specs.declared.Fact as code
use Rattle.conflicts.specs.declared.FactRange.{FactRange}
use Rattle.conflicts.specs.View.{Span, Spans, no_span}
use Rattle.std.proofs.lemmas.List.{drop-take}
use Rattle.facts.specs.View.{fact_of}
use Rattle.rows.specs.View.{facts_in}

-- The facts at an element, of a list with one fact more.
pub at_append : (el : ℕ) (fs gs : List Fact) → facts_at el (fs ++ gs) ≡ facts_at el fs ++ facts_at el gs
unfolding facts_at
at_append el [] gs = refl
at_append el (f ∷ fs) gs = go (eqb f.el el) (at_append el fs gs)
  where
    go : (t : Bool) → facts_at el (fs ++ gs) ≡ facts_at el fs ++ facts_at el gs
        → elim t [ true ↦ f ∷ facts_at el (fs ++ gs) | false ↦ facts_at el (fs ++ gs) ]
        ≡ elim t [ true ↦ f ∷ facts_at el fs | false ↦ facts_at el fs ] ++ facts_at el gs
    go true h = ap (λ (l : List Fact). f ∷ l) h
    go false h = h

module _ (el : ℕ) (g : Fact) where
  at_other : (g.el ≡ el → ⊥) → (fs : List Fact) → facts_at el (fs ++ (g ∷ [])) ≡ facts_at el fs
  unfolding facts_at
  at_other n fs = at_append el fs (g ∷ []) ∙ ap (λ (l : List Fact). facts_at el fs ++ l) (rw (ne_eqb g.el el n, facts_at)) ∙ append-nil (facts_at el fs)

  at_this : g.el ≡ el → (fs : List Fact) → facts_at el (fs ++ (g ∷ [])) ≡ facts_at el fs ++ (g ∷ [])
  unfolding facts_at
  at_this e fs = at_append el fs (g ∷ []) ∙ ap (λ (l : List Fact). facts_at el fs ++ l) (rw (eq-eqb g.el el e, facts_at))

-- there are not more than in the list
pub at_most : (el : ℕ) (fs : List Fact) → length (facts_at el fs) ≤ length fs
unfolding facts_at
at_most el [] = omega arith
at_most el (f ∷ fs) = go (eqb f.el el) (at_most el fs)
  where
    go : (t : Bool) → length (facts_at el fs) ≤ length fs → length {A = Fact} (elim t [ true ↦ f ∷ facts_at el fs | false ↦ facts_at el fs ]) ≤ suc (length fs)
    go true h = omega arith
    go false h = omega arith

none_left : {A : Type 0} (l : List A) → length l ≡ 0 → l ≡ []
none_left [] h = refl
none_left (x ∷ xs) h = absurd (omega arith)

abbrev pub range : ℕ → ℕ → ℕ → FactRange
range first end count = record { first = first; end = end; count = count }

-- the facts of a span, as a slice
pub span_sliced : (facts : List code.Fact) (a b : ℕ) → a ≤ b → map fact_of (take (b - a) (drop a facts)) ≡ drop a (facts_in b facts)
span_sliced facts a b h =
    let all : a + (b - a) ≡ b = omega arith in
    ap (map fact_of) (sym (rw all at (drop-take a (b - a) facts))) ∙ map_drop fact_of a (take b facts)

-- A table at the row i.
module _ (rows : List code.Fact) (i : ℕ) (d : code.Fact) (there : i < length rows) where
  grown : facts_in (i + 1) rows ≡ facts_in i rows ++ (fact_of (get_or rows i d) ∷ [])
  grown = rw add-one (ap (map fact_of) (take-suc rows i d there) ∙ map-append fact_of (take i rows) (get_or rows i d ∷ []))

  before : length (facts_in i rows) ≡ i
  before = omega (arith, length_view fact_of i rows)

  from_grown : (k : ℕ) → k ≤ i → drop k (facts_in (i + 1) rows) ≡ drop k (facts_in i rows) ++ (fact_of (get_or rows i d) ∷ [])
  from_grown k h = ap (drop k) grown ∙ drop-append-le k (facts_in i rows) _ (omega (arith, before))

  -- a fact of another element
  pub span_other : (el : ℕ) {span : FactRange} → ((fact_of (get_or rows i d)).el ≡ el → ⊥) → Span rows i el span → Span rows (i + 1) el span
  span_other el {span} n s =
      let same : facts_at el (facts_in (i + 1) rows) ≡ facts_at el (facts_in i rows) = ap (facts_at el) grown ∙ at_other el _ n (facts_in i rows) in
      record {
        first_within = omega (arith, s.first_within);
        last_within = omega (arith, s.last_within);
        ordered = s.ordered;
        from = ap (facts_at el) (from_grown (span.first) s.first_within) ∙ at_other el _ n _ ∙ s.from ∙ sym same;
        between = s.between ∙ sym same;
        count = s.count ∙ ap length (sym same);
      }

  module _ (el : ℕ) {span : FactRange} (e : (fact_of (get_or rows i d)).el ≡ el) (s : Span rows i el span) where
    more : facts_at el (facts_in (i + 1) rows) ≡ facts_at el (facts_in i rows) ++ (fact_of (get_or rows i d) ∷ [])
    more = ap (facts_at el) grown ∙ at_this el _ e (facts_in i rows)

    -- from a row on, before which none is
    reached : (k : ℕ) → k ≤ i → facts_at el (drop k (facts_in i rows)) ≡ facts_at el (facts_in i rows) → Span rows (i + 1) el (range k (i + 1) (span.count + 1))
    reached k h from =
        let all = ap (facts_at el) (from_grown k h) ∙ at_this el _ e _ ∙ ap (λ (l : List Fact). l ++ (fact_of (get_or rows i d) ∷ [])) from ∙ sym more in
        record {
          first_within = omega arith;
          last_within = omega arith;
          ordered = omega arith;
          from = all;
          between = all;
          count = omega (arith, s.count, ap length more, length-append (facts_at el (facts_in i rows)) (fact_of (get_or rows i d) ∷ []));
        }

    -- the first fact of its element
    pub span_first : span.count ≡ 0 → Span rows (i + 1) el (range i (i + 1) (span.count + 1))
    unfolding facts_at
    span_first z =
        let none = none_left (facts_at el (facts_in i rows)) (sym s.count ∙ z) in
        reached i (omega arith) (ap (facts_at el) (view_nil fact_of i rows i (omega arith)) ∙ sym none)

    -- a later one
    pub span_later : Span rows (i + 1) el (range span.first (i + 1) (span.count + 1))
    span_later = reached (span.first) s.first_within s.from

-- The spans of all elements.

pub spans_none : (rows : List code.Fact) → Spans rows 0 (replicate max_els no_span)
unfolding facts_at
spans_none rows = record {
  long = refl;
  each = λ el h. subst (Span rows 0 el) (sym (get_or-replicate max_els el no_span no_span h))
      record { first_within = omega arith; last_within = omega arith; ordered = omega arith; from = refl; between = refl; count = refl };
}

module _ (rows : List code.Fact) (i : ℕ) (d : code.Fact) (there : i < length rows) {spans : List FactRange} (s : Spans rows i spans) where
  -- a fact of no element
  pub spans_past : max_els ≤ (fact_of (get_or rows i d)).el → Spans rows (i + 1) spans
  spans_past h = record {
    long = s.long;
    each = λ el k. span_other rows i d there el (λ e. absurd (omega (arith, h, k, e))) (s.each el k);
  }

  -- a fact of the element el, whose span is stored
  pub spans_stored : (el : ℕ) (span : FactRange) → (fact_of (get_or rows i d)).el ≡ el → el < max_els → Span rows (i + 1) el span → Spans rows (i + 1) (set spans el span)
  spans_stored el span e at now = record { long = length-set spans el span ∙ s.long; each = λ x h. go x h (eqb x el) refl }
    where
      go : (x : ℕ) → x < max_els → (t : Bool) → eqb x el ≡ t → Span rows (i + 1) x (get_or (set spans el span) x no_span)
      go x h true q =
          let same = eqb-true x el q in
          subst (λ (k : ℕ). Span rows (i + 1) k (get_or (set spans el span) k no_span)) (sym same)
          (subst (Span rows (i + 1) el) (sym (get_or-set_same spans el span no_span (omega (arith, at, s.long)))) now)
      go x h false q =
          subst (Span rows (i + 1) x) (sym (get_or-set_other spans el x span no_span (eqb-false x el q)))
          (span_other rows i d there x (λ k. eqb-false x el q (sym k ∙ e)) (s.each x h))
