-- The chains of a file tell the element of each fact, and a list is in order exactly where each entry comes before the one that follows.
use mathlib.Core.Path.{◌≡◌, refl, sym, ap, ap₂, subst, ◌∙◌}
use mathlib.Core.Logic.{◌⊎◌, inl, inr}
use mathlib.Core.Bool.{Bool, true, false, ◌&&◌}
use mathlib.Core.List.{List, [], ◌∷◌, ◌++◌, map, map-append, append_assoc}
use Prim.Native.Nat.{ℕ, zero, suc, ◌+◌, ◌≤◌, ◌<◌}
use native.Mathlib.Nat.{le_refl, add-zero}
use native.Mathlib.Omega.{arith}
use lib.ListN.{length, length-append, length-map}
use lib.Dec.{eqb, leb, ltb}
use borrow.Author.Tests.{eq-eqb, ne_eqb, eqb-true, eqb-false, lt-ltb, le-leb, lt-leb}
use Rattle.ids.specs.Limits.{max_list}
use Rattle.ids.specs.declared.Ordering.{Ordering}
use Rattle.ids.specs.declared.Ordering.TheVariants.{Less, Equal, Greater}
use Rattle.ids.specs.Order.{order_of, then_of, lex_of}
use Rattle.ids.proofs.Answers.{and_right}
use Rattle.ids.proofs.Sorted.{All, Sorted, Ordered, all_map, all_join, all_right, no_test, less_greater}
use Rattle.unification.specs.Roots.{up_to}
use Rattle.unification.proofs.Arrays.{up_to_length}
use Rattle.semantics.specs.Structure.{Fact, compare_fact}
use Rattle.semantics.proofs.Cases.{test}
use Rattle.semantics.proofs.Orders.{order_less, order_equal}
use Rattle.file.specs.Rows.{fact_row, fact_in}
use Rattle.file.specs.File.{first_fact, firsts, owner_from, owner, facts_from, in_order}
use Rattle.file.proofs.RowLaws.{fact_in_row, two_tests}

-- Where a chain begins.

-- nowhere, or not before the first of these facts
first_late : (i e : ℕ) (fs : List Fact) → (first_fact i e fs ≡ 0) ⊎ (i ≤ first_fact i e fs)
unfolding first_fact
first_late i e [] = inl refl
first_late i e (f ∷ fs) = elim (test (eqb f.el e)) [
  | inl q ↦ inr (rw (q, first_fact) (le_refl i))
  | inr q ↦ elim (first_late (suc i) e fs) [ inl p ↦ inl (rw (q, first_fact) p) | inr p ↦ inr (rw (q, first_fact) (omega arith)) ]
]

-- past facts of lower elements
first_past : (i e : ℕ) (pre fs : List Fact) → All (λ g. g.el < e) pre → first_fact i e (pre ++ fs) ≡ first_fact (i + length pre) e fs
unfolding first_fact
first_past i e [] fs h = ap (λ (k : ℕ). first_fact k e fs) (sym (add-zero i))
first_past i e (g ∷ pre) fs h =
    rw (ne_eqb g.el e (λ q. absurd (omega (arith, h.0))), first_fact)
    (first_past (suc i) e pre fs h.1 ∙ ap (λ (k : ℕ). first_fact k e fs) (omega arith))

-- a fact of the element is there
first_there : (i : ℕ) (pre : List Fact) (f : Fact) (fs : List Fact)
    → (i ≤ first_fact i f.el (pre ++ f ∷ fs)) × (first_fact i f.el (pre ++ f ∷ fs) ≤ i + length pre)
unfolding first_fact
first_there i [] f fs = rw (eq-eqb f.el f.el refl, first_fact) (omega arith, omega arith)
first_there i (g ∷ pre) f fs = elim (test (eqb g.el f.el)) [
  | inl q ↦ rw (q, first_fact) (omega arith, omega arith)
  | inr q ↦ let k = first_there (suc i) pre f fs in rw (q, first_fact) (omega (arith, k.0), omega (arith, k.1))
]

-- The owner of an index.

abbrev hits : ℕ → ℕ → Bool
hits i first = ltb 0 first && leb first i

abbrev owner_by : Bool → ℕ → ℕ → ℕ
owner_by b here other = elim b [ true ↦ here | false ↦ other ]

-- the last element is it, where its chain begins there or before
owner_hit : (i e last : ℕ) (xs : List ℕ) (y : ℕ) → hits i y ≡ true → owner_from i e last (xs ++ (y ∷ [])) ≡ e + length xs
unfolding owner_from
owner_hit i e last [] y h = rw (h, owner_from) (sym (add-zero e))
owner_hit i e last (x ∷ xs) y h = go (hits i x) (owner_hit i (suc e) e xs y h) (owner_hit i (suc e) last xs y h)
  where
    go : (b : Bool) {k l : ℕ} → k ≡ suc e + length xs → l ≡ suc e + length xs → owner_by b k l ≡ e + suc (length xs)
    go true p q = p ∙ omega arith
    go false p q = q ∙ omega arith

-- else it is who it was
owner_miss : (i e last : ℕ) (xs : List ℕ) (y : ℕ) → hits i y ≡ false → owner_from i e last (xs ++ (y ∷ [])) ≡ owner_from i e last xs
unfolding owner_from
owner_miss i e last [] y h = rw (h, owner_from)
owner_miss i e last (x ∷ xs) y h = go (hits i x) (owner_miss i (suc e) e xs y h) (owner_miss i (suc e) last xs y h)
  where
    go : (b : Bool) {k l m n : ℕ} → k ≡ m → l ≡ n → owner_by b k l ≡ owner_by b m n
    go true p q = p
    go false p q = q

-- the element whose chain has begun, where those of all later elements have not
owner_is : (begin : ℕ → ℕ) (i e n : ℕ) → e < n → hits i (begin e) ≡ true → ((x : ℕ) → e < x → hits i (begin x) ≡ false) → owner i (map begin (up_to n)) ≡ e
unfolding up_to
owner_is begin i e zero h k z = absurd (omega arith)
owner_is begin i e (suc n) h k z =
    let cut : map begin (up_to (suc n)) ≡ map begin (up_to n) ++ (begin n ∷ []) = map-append begin (up_to n) (n ∷ []) in
    ap (owner i) cut
    ∙ elim (test (eqb e n)) [
      | inl q ↦
          let same = eqb-true e n q in
          let many : length (map begin (up_to n)) ≡ n = length-map (up_to n) begin ∙ up_to_length n in
          owner_hit i 0 0 (map begin (up_to n)) (begin n) (subst (λ (m : ℕ). hits i (begin m) ≡ true) same k) ∙ omega (arith, many, same)
      | inr q ↦
          let less : e < n = omega (arith, eqb-false e n q) in
          owner_miss i 0 0 (map begin (up_to n)) (begin n) (z n less) ∙ owner_is begin i e n less k z
    ]

-- Facts in order stand by element.

fact_less : (f g : Fact) → compare_fact f g ≡ Less → f.el ≤ g.el
unfolding compare_fact
fact_less f g = go (order_of f.el g.el) refl (then_of (order_of f.typ g.typ) (lex_of f.parents g.parents))
  where
    go : (o : Ordering) → order_of f.el g.el ≡ o → (p : Ordering) → then_of o p ≡ Less → f.el ≤ g.el
    go Less e p q = omega (arith, order_less f.el g.el e)
    go Equal e p q = omega (arith, order_equal f.el g.el e)
    go Greater e p q = less_greater q refl

-- those before a fact are of its element or a lower one
facts_before : (pre : List Fact) (f : Fact) (fs : List Fact) → Sorted compare_fact (pre ++ f ∷ fs) → All (λ g. g.el ≤ f.el) pre
facts_before [] f fs s = tt
facts_before (g ∷ pre) f fs s = (fact_less g f (all_right (λ y. compare_fact g y ≡ Less) pre (f ∷ fs) s.0).0, facts_before pre f fs s.1)

-- the chains tell the element of a fact
owner_of_fact : (n : ℕ) (pre : List Fact) (f : Fact) (fs : List Fact) → Sorted compare_fact (pre ++ f ∷ fs) → f.el < n
    → owner (suc (length pre)) (firsts n (pre ++ f ∷ fs)) ≡ f.el
owner_of_fact n pre f fs s h =
    let all : List Fact = pre ++ f ∷ fs in
    let begin : ℕ → ℕ = λ e. first_fact 1 e all in
    let there = first_there 1 pre f fs in
    let at : hits (suc (length pre)) (begin f.el) ≡ true =
    two_tests (lt-ltb 0 (begin f.el) (omega (arith, there.0))) (le-leb (begin f.el) (suc (length pre)) (omega (arith, there.1))) in
    owner_is begin (suc (length pre)) f.el n h at later
  where
    later : (x : ℕ) → f.el < x → hits (suc (length pre)) (first_fact 1 x (pre ++ f ∷ fs)) ≡ false
    later x k =
        let below = all_join (λ g. g.el < x) pre (f ∷ []) (all_map (λ g e. omega (arith, e)) pre (facts_before pre f fs s)) (k, tt) in
        let past : first_fact 1 x (pre ++ f ∷ fs) ≡ first_fact (1 + length (pre ++ (f ∷ []))) x fs =
        ap (first_fact 1 x) (sym (append_assoc pre (f ∷ []) fs)) ∙ first_past 1 x (pre ++ (f ∷ [])) fs below in
        let many : length (pre ++ (f ∷ [])) ≡ length pre + 1 = length-append pre (f ∷ []) in
        elim (first_late (1 + length (pre ++ (f ∷ []))) x fs) [
          | inl q ↦ rw (past ∙ q)
          | inr q ↦ and_right (ltb 0 (first_fact 1 x (pre ++ f ∷ fs))) (lt-leb (first_fact 1 x (pre ++ f ∷ fs)) (suc (length pre)) (omega (arith, q, many, past)))
        ]

-- from any index on
facts_from_lem : (n : ℕ) (pre fs : List Fact) → Sorted compare_fact (pre ++ fs) → All (λ f. f.el < n) fs → All (λ f. length f.parents ≤ max_list) fs
    → facts_from (suc (length pre)) (firsts n (pre ++ fs)) (map fact_row fs) ≡ fs
unfolding facts_from
facts_from_lem n pre [] s h k = refl
facts_from_lem n pre (f ∷ fs) s h k =
    let on : pre ++ (f ∷ []) ++ fs ≡ pre ++ f ∷ fs = append_assoc pre (f ∷ []) fs in
    let many : length (pre ++ (f ∷ [])) ≡ suc (length pre) = length-append pre (f ∷ []) ∙ omega arith in
    let rest = facts_from_lem n (pre ++ (f ∷ [])) fs (subst (Sorted compare_fact) (sym on) s) h.1 k.1 in
    ap₂ ◌∷◌ (ap (λ (e : ℕ). fact_in e (fact_row f)) (owner_of_fact n pre f fs s h.0) ∙ fact_in_row f k.0)
    (sym (λ i. facts_from (suc (many i)) (firsts n (on i)) (map fact_row fs)) ∙ rest)

-- facts in order are told by their rows and their chains
pub facts_in_rows : (n : ℕ) (fs : List Fact) → Sorted compare_fact fs → All (λ f. f.el < n) fs → All (λ f. length f.parents ≤ max_list) fs
    → facts_from 1 (firsts n fs) (map fact_row fs) ≡ fs
facts_in_rows n fs s h k = facts_from_lem n [] fs s h k

-- Orders.

module _ {A : Type 0} (cmp : A → A → Ordering) where
  pub sorted_in_order : (l : List A) → Sorted cmp l → in_order cmp l ≡ true
  unfolding in_order
  sorted_in_order [] s = refl
  sorted_in_order (x ∷ []) s = refl
  sorted_in_order (x ∷ y ∷ l) s = rw (s.0.0, in_order) (sorted_in_order (y ∷ l) s.1)

  pub in_order_sorted : Ordered cmp → (l : List A) → in_order cmp l ≡ true → Sorted cmp l
  unfolding in_order
  in_order_sorted o [] h = tt
  in_order_sorted o (x ∷ []) h = (tt, tt)
  in_order_sorted o (x ∷ y ∷ l) h = go (cmp x y) refl (in_order_sorted o (y ∷ l)) h
    where
      go : (t : Ordering) → cmp x y ≡ t → (in_order cmp (y ∷ l) ≡ true → Sorted cmp (y ∷ l))
          → ◌≡◌ {A = Bool} (elim t [ Less ↦ in_order cmp (y ∷ l) | Equal ↦ false | Greater ↦ false ]) true → Sorted cmp (x ∷ y ∷ l)
      go Less q f h = let s = f h in ((q, all_map (λ z e. o.trans x y z q e) l s.0), s)
      go Equal q f h = no_test h refl
      go Greater q f h = no_test h refl
