-- Laws of entries that are bound one after the other: where they are in order, with keys below the limit, each goes to the end.
use mathlib.Core.Path.{◌≡◌, sym, ap, subst, ◌∙◌}
use mathlib.Core.Bool.{true}
use mathlib.Core.List.{List, [], ◌∷◌, ◌++◌, map, map-append, map-map}
use Prim.Native.Nat.{ℕ, ◌+◌, ◌≤◌, ◌<◌}
use native.Mathlib.Numerals.{add-one}
use native.Mathlib.Omega.{arith}
use borrow.Author.Tests.{lt-ltb}
use Rattle.ids.specs.declared.Ordering.{Ordering}
use Rattle.ids.specs.declared.Ordering.TheVariants.{Less}
use Rattle.ids.specs.Table.{placed}
use Rattle.ids.proofs.Sorted.{All, Sorted, Ordered, all_left, all_right, placed_last}
use Rattle.unification.specs.Roots.{up_to}
use Rattle.bindings.specs.View.{bound_of}
use Rattle.file.specs.Layout.{row_in, rows_in}
use Rattle.file.specs.File.{in_order}
use Rattle.file.proofs.Chains.{in_order_sorted}

module _ {B : Type 0} (cmp : B → B → Ordering) where
  sorted_left : (k l : List B) → Sorted cmp (k ++ l) → Sorted cmp k
  sorted_left [] l s = tt
  sorted_left (x ∷ k) l s = (all_left (λ y. cmp x y ≡ Less) k l s.0, sorted_left k l s.1)

  -- those before the last come before it
  before_last : (k : List B) (x : B) → Sorted cmp (k ++ (x ∷ [])) → All (λ y. cmp y x ≡ Less) k
  before_last [] x s = tt
  before_last (y ∷ k) x s = ((all_right (λ z. cmp y z ≡ Less) k (x ∷ []) s.0).0, before_last k x s.1)

-- the entries of n rows, whose keys are to be below the limit
module _ {B : Type 0} {cmp : B → B → Ordering} (o : Ordered cmp) (key : B → ℕ) (limit : ℕ) (f : List ℕ → B) (k n : ℕ) (bytes : List ℕ) where
  abbrev entry : ℕ → B
  entry j = f (row_in k n bytes j)

  abbrev Fit : List B → Type 0
  Fit l = Sorted cmp l × All (λ (x : B). key x < limit) l

  -- the first i entries are bound
  pub record Bound (now : List B) (i : ℕ) : Type 0 where
    pub few : i ≤ n
    pub is : Fit (map entry (up_to i)) → now ≡ map entry (up_to i)

  pub bound_none : {now : List B} → now ≡ [] → Bound now 0
  unfolding up_to
  bound_none e = record { few = omega arith; is = λ h. e }

  module _ {now : List B} {i : ℕ} (so_far : Bound now i) where
    more : map entry (up_to (i + 1)) ≡ map entry (up_to i) ++ (entry i ∷ [])
    unfolding up_to
    more = rw add-one (map-append entry (up_to i) (i ∷ []))

    -- an entry that fits goes to the end
    next_is : {next : List B} → next ≡ bound_of cmp limit (key (entry i)) (entry i) now → Fit (map entry (up_to i) ++ (entry i ∷ []))
        → next ≡ map entry (up_to i) ++ (entry i ∷ [])
    unfolding bound_of
    next_is e h =
        let l : List B = map entry (up_to i) in
        let same : now ≡ l = so_far.is (sorted_left cmp l (entry i ∷ []) h.0, all_left (λ (x : B). key x < limit) l (entry i ∷ []) h.1) in
        e
        ∙ rw (lt-ltb (key (entry i)) limit (all_right (λ (x : B). key x < limit) l (entry i ∷ []) h.1).0, bound_of)
        (ap (placed cmp (entry i)) same ∙ placed_last cmp (entry i) l (before_last cmp l (entry i) h.0))

    pub bound_next : {next : List B} {x : B} {row : List ℕ} → i < n → next ≡ bound_of cmp limit (key x) x now → x ≡ f row → row ≡ row_in k n bytes i
        → Bound next (i + 1)
    bound_next {next} l e p q = record {
      few = omega arith;
      is = λ h. next_is (e ∙ ap (λ (y : B). bound_of cmp limit (key y) y now) (p ∙ ap f q)) (subst Fit more h) ∙ sym more;
    }

    pub bound_all : n ≤ i → in_order cmp (map f (rows_in k n bytes)) ≡ true → All (λ (x : B). key x < limit) (map f (rows_in k n bytes))
        → now ≡ map f (rows_in k n bytes)
    unfolding rows_in
    bound_all h ordered below =
        let all : i ≡ n = omega (arith, so_far.few) in
        let rows : map f (rows_in k n bytes) ≡ map entry (up_to i) =
        map-map f (row_in k n bytes) (up_to n) ∙ ap (λ (m : ℕ). map entry (up_to m)) (sym all) in
        so_far.is (subst Fit rows (in_order_sorted cmp o (map f (rows_in k n bytes)) ordered, below)) ∙ sym rows
