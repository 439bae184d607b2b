-- Laws of the orders of tables.
use mathlib.Core.Path.{◌≡◌, refl, sym, ap, ◌∙◌}
use mathlib.Core.Bool.{Bool, true, false, not, ◌&&◌}
use mathlib.Core.List.{List, [], ◌∷◌, map}
use mathlib.Core.Logic.{inl, inr}
use Prim.Native.Nat.{ℕ, suc, ◌+◌, ◌≤◌, ◌<◌}
use native.Mathlib.Numerals.{add-one}
use native.Mathlib.Omega.{arith}
use lib.ListN.{length, drop, get_or, drop_of_length-le}
use lib.Seq.{drop-cons}
use Rattle.ids.specs.declared.Ordering.{Ordering}
use Rattle.ids.specs.declared.Ordering.TheVariants.{Less, Equal, Greater}
use Rattle.ids.specs.Order.{order_of}
use Rattle.ids.specs.Sorted.{All, Sorted}
use Rattle.ids.proofs.Orders.{less}
use Rattle.bindings.specs.declared.Slot.{Slot}
use Rattle.bindings.specs.View.{slots_from}
use Rattle.bindings.proofs.Slots.{Keyed, slot_given, slot_empty}
use Rattle.semantics.specs.Structure.{Structure, compare_fact, compare_func_app, compare_pred_app, compare_var, compare_ambient}
use Rattle.semantics.proofs.Cases.{test}
use Rattle.file.specs.File.{in_order, other_order}
use Rattle.file.proofs.Chains.{sorted_in_order}

-- What is left to judge begins with the entry before.
module _ {A : Type 0} (cmp : A → A → Ordering) where
  turn : {o : Ordering} (x y : A) (l : List A) → cmp x y ≡ o
      → ◌≡◌ {A = Bool} (in_order cmp (x ∷ y ∷ l)) (elim o [ Less ↦ in_order cmp (y ∷ l) | Equal ↦ false | Greater ↦ false ])
  unfolding in_order
  turn x y l is = λ k. elim (is k) [ Less ↦ in_order cmp (y ∷ l) | Equal ↦ false | Greater ↦ false ]

  next : {y : A} (rest : List A) (i : ℕ) → i < length rest → y ≡ get_or rest i y → drop i rest ≡ y ∷ drop (i + 1) rest
  next {y} rest i h is = rw (add-one i) (drop-cons rest i y h ∙ ap (λ (z : A). z ∷ drop (suc i) rest) (sym is))

  module _ {x y : A} (rest : List A) {i : ℕ} {w : Bool} (so_far : in_order cmp (x ∷ drop i rest) ≡ w) (h : i < length rest) (is : y ≡ get_or rest i y) where
    pub ordered_on : cmp x y ≡ Less → in_order cmp (y ∷ drop (i + 1) rest) ≡ w
    ordered_on e = sym (ap (λ (l : List A). in_order cmp (x ∷ l)) (next rest i h is) ∙ turn x y (drop (i + 1) rest) e) ∙ so_far

    pub not_equal : cmp x y ≡ Equal → false ≡ w
    not_equal e = sym (ap (λ (l : List A). in_order cmp (x ∷ l)) (next rest i h is) ∙ turn x y (drop (i + 1) rest) e) ∙ so_far

    pub not_greater : cmp x y ≡ Greater → false ≡ w
    not_greater e = sym (ap (λ (l : List A). in_order cmp (x ∷ l)) (next rest i h is) ∙ turn x y (drop (i + 1) rest) e) ∙ so_far

  pub all_ordered : (x : A) (rest : List A) {i : ℕ} {w : Bool} → in_order cmp (x ∷ drop i rest) ≡ w → length rest ≤ i → true ≡ w
  unfolding in_order
  all_ordered x rest {i} so_far h = ap (λ (l : List A). in_order cmp (x ∷ l)) (sym (drop_of_length-le rest {i = i} h)) ∙ so_far

pub few : {A : Type 0} (cmp : A → A → Ordering) (l : List A) → length l ≡ 0 → true ≡ in_order cmp l
unfolding in_order
few cmp [] h = refl
few cmp (x ∷ l) h = absurd (omega arith)

-- the order of a view
pub in_order_map : {A B : Type 0} (cmp : B → B → Ordering) (f : A → B) (l : List A) → in_order (λ (x y : A). cmp (f x) (f y)) l ≡ in_order cmp (map f l)
unfolding in_order
in_order_map cmp f [] = refl
in_order_map cmp f (x ∷ []) = refl
in_order_map cmp f (x ∷ y ∷ l) = λ k. elim (cmp (f x) (f y)) [ Less ↦ in_order_map cmp f (y ∷ l) k | Equal ↦ false | Greater ↦ false ]

-- Entries of slots stand by their keys, so that they are in order.
module _ {E : Type 0} {mk : ℕ → ℕ → E} {cmp : E → E → Ordering} {key : E → ℕ} (t : Keyed mk cmp key) where
  later : (e k j : ℕ) (ss : List Slot) → k < j → All (λ y. cmp (mk k e) y ≡ Less) (slots_from mk j ss)
  unfolding slots_from
  later e k j [] h = tt
  later e k j (s ∷ ss) h =
      let next : All (λ y. cmp (mk k e) y ≡ Less) (slots_from mk (suc j) ss) = later e k (suc j) ss (omega arith) in
      let first : cmp (mk k e) (mk j s.el.0) ≡ Less =
      t.by_key _ _ ∙ (λ i. order_of (t.key_of k e i) (t.key_of j s.el.0 i)) ∙ less k j h in
      elim (test s.given) [ inl g ↦ rw (slot_given mk j s ss g) (first, next) | inr g ↦ rw (slot_empty mk j s ss g) next ]

  sorted : (k : ℕ) (ss : List Slot) → Sorted cmp (slots_from mk k ss)
  unfolding slots_from
  sorted k [] = tt
  sorted k (s ∷ ss) =
      let next : Sorted cmp (slots_from mk (suc k) ss) = sorted (suc k) ss in
      elim (test s.given) [
        | inl g ↦ rw (slot_given mk k s ss g) (later s.el.0 k (suc k) ss (omega arith), next)
        | inr g ↦ rw (slot_empty mk k s ss g) next
      ]

  pub by_key_ordered : (ss : List Slot) → in_order cmp (slots_from mk 0 ss) ≡ true
  by_key_ordered ss = sorted_in_order cmp _ (sorted 0 ss)

-- What is left to judge of a structure whose variables and ambients are in order.

abbrev pub OrderJudged : Structure → Type 0
OrderJudged s =
    not (other_order s) ≡ (in_order compare_fact s.facts && (in_order compare_func_app s.func_apps && in_order compare_pred_app s.pred_apps))

-- the tests as the code joins them
pub three_tests : {a b c x y z : Bool} → x ≡ a → y ≡ b → z ≡ c → ((x && y) && z) ≡ (a && (b && c))
three_tests {a} {b} {c} p q r = (λ i. (p i && q i) && r i) ∙ go a b c
  where
    go : (a b c : Bool) → ((a && b) && c) ≡ (a && (b && c))
    go true b c = refl
    go false b c = refl

first_three : (a b c : Bool) {v w : Bool} → v ≡ true → w ≡ true → not (not (a && (b && (c && (v && w))))) ≡ (a && (b && c))
first_three a b c p q = (λ i. not (not (a && (b && (c && (p i && q i)))))) ∙ go a b c
  where
    go : (a b c : Bool) → not (not (a && (b && (c && true)))) ≡ (a && (b && c))
    go false b c = refl
    go true false c = refl
    go true true false = refl
    go true true true = refl

pub order_judged : (s : Structure) → in_order compare_var s.vars ≡ true → in_order compare_ambient s.ambients ≡ true → OrderJudged s
unfolding other_order
order_judged s v w = first_three (in_order compare_fact s.facts) (in_order compare_func_app s.func_apps) (in_order compare_pred_app s.pred_apps) v w
