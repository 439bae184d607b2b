-- A search by halving in a list that is in order, over any type of rows and any order.
use mathlib.Core.Path.{◌≡◌, refl, sym, ap, ◌∙◌}
use mathlib.Core.Bool.{Bool, true, false}
use mathlib.Core.List.{List, [], ◌∷◌, map}
use Prim.Native.Nat.{ℕ, zero, suc, ◌+◌, ◌-◌, ◌≤◌, ◌<◌, zero-le, suc-le-suc}
use mathlib.Core.Logic.{inl, inr}
use native.Mathlib.Nat.{eq-or-lt_of_le, not-suc-le-zero, le_of_suc-le-suc, add-suc, suc-add, zero-add, add-zero}
use native.Mathlib.Numerals.{add-one}
use native.Mathlib.Omega.{arith}
use lib.ListN.{length, drop, get_or, drop_of_length-le}
use lib.Seq.{drop-cons}
use Rattle.std.specs.List.Sorted.{IsPartitionedBy, IsPartitionPoint}
use Rattle.ids.specs.declared.Ordering.{Ordering}
use Rattle.ids.specs.declared.Ordering.TheVariants.{Less, Equal, Greater}
use Rattle.ids.specs.declared.Place.TheVariants.{Before, At}
use Rattle.ids.specs.Table.{position_from}
use Rattle.ids.specs.Sorted.{All, Sorted}
use Rattle.ids.proofs.Sorted.{Ordered, swapped, no_test}
use Rattle.rows.specs.Table.{is_less}

-- what the test tells
pub less_told : (t : Ordering) → is_less t ≡ true → t ≡ Less
unfolding is_less
less_told Less e = refl
less_told Equal e = no_test e refl
less_told Greater e = no_test e refl

-- two entries of which neither is smaller
equal_told : (t u : Ordering) → u ≡ swapped t → is_less t ≡ false → is_less u ≡ false → t ≡ Equal
unfolding is_less
equal_told Less u f e g = no_test refl e
equal_told Equal u f e g = refl
equal_told Greater u f e g = no_test (ap is_less f) g

-- What the rows from an index on say.
module _ {A B : Type 0} (view : A → B) (ys : List A) (i : ℕ) where
  pub items_next : (d : A) → i < length ys → map view (drop i ys) ≡ view (get_or ys i d) ∷ map view (drop (i + 1) ys)
  items_next d h = rw (add-one, drop-cons ys i d h) refl

  pub items_done : length ys ≤ i → map view (drop i ys) ≡ []
  items_done h = ap (map view) (drop_of_length-le ys {i = i} h)

module _ {A B : Type 0} {cmp : B → B → Ordering} (o : Ordered cmp) (view : A → B) (x : B) where
  -- whether a row is smaller than x
  abbrev pub precedes : A → Bool
  precedes y = is_less (cmp (view y) x)

  all_nth : (P : B → Type 0) (ys : List A) (k : ℕ) (d : A) → All P (map view ys) → k < length ys → P (view (get_or ys k d))
  all_nth P [] k d h p = absurd (not-suc-le-zero p)
  all_nth P (y ∷ ys) zero d h p = h.0
  all_nth P (y ∷ ys) (suc k) d h p = all_nth P ys k d h.1 (le_of_suc-le-suc p)

  -- no row that is smaller comes after one that is not
  pub halved : (ys : List A) → Sorted cmp (map view ys) → IsPartitionedBy precedes ys
  unfolding is_less
  halved [] s i j d h p e = absurd (not-suc-le-zero p)
  halved (y ∷ ys) s zero zero d h p e = e
  halved (y ∷ ys) s zero (suc j) d h p e =
      ap is_less (o.trans (view y) (view (get_or ys j d)) x (all_nth (λ z. cmp (view y) z ≡ Less) ys j d s.0 (le_of_suc-le-suc p)) (less_told _ e))
  halved (y ∷ ys) s (suc i) zero d h p e = absurd (not-suc-le-zero h)
  halved (y ∷ ys) s (suc i) (suc j) d h p e = halved ys s.1 i j d (le_of_suc-le-suc h) (le_of_suc-le-suc p) e

  -- past k rows that are smaller
  past : (i k : ℕ) (ys : List A) (d : A) → ((j : ℕ) → j < k → precedes (get_or ys j d) ≡ true) → k ≤ length ys
      → position_from cmp x i (map view ys) ≡ position_from cmp x (i + k) (map view (drop k ys))
  unfolding position_from
  past i zero ys d h p = rw (add-zero i) refl
  past i (suc k) [] d h p = absurd (not-suc-le-zero p)
  past i (suc k) (y ∷ ys) d h p =
      rw (less_told (cmp (view y) x) (h 0 (suc-le-suc zero-le)), position_from, add-suc i k)
      (rw (suc-add i k) at (past (suc i) k ys d (λ j q. h (suc j) (suc-le-suc q)) (le_of_suc-le-suc p)))

  -- there is none
  pub none_there : (ys : List A) → length ys ≡ 0 → Before 0 ≡ position_from cmp x 0 (map view ys)
  unfolding position_from
  none_there [] e = refl
  none_there (y ∷ ys) e = absurd (omega (arith, e))

  module _ (ys : List A) (d : A) (s : Sorted cmp (map view ys)) where
    -- the last is smaller, and so are all
    pub past_all : 0 < length ys → precedes (get_or ys (length ys - 1) d) ≡ true → Before (length ys) ≡ position_from cmp x 0 (map view ys)
    unfolding position_from
    past_all some e =
        let n = length ys in
        let none : drop n ys ≡ [] = drop_of_length-le ys {i = n} (omega arith) in
        sym (past 0 n ys d (λ j q. halved ys s j (n - 1) d (omega arith) (omega arith) e) (omega arith) ∙ rw (zero-add n, none) refl)

    -- k rows are smaller, those from there on are not, and there is one
    module _ (k : ℕ) (point : IsPartitionPoint (λ y. precedes y ≡ true) (λ y. precedes y ≡ false) ys k) (there : k < length ys) where
      abbrev here : B
      here = view (get_or ys k d)

      head : position_from cmp x 0 (map view ys) ≡ position_from cmp x k (here ∷ map view (drop (suc k) ys))
      head =
          past 0 k ys d (λ j q. point.0 j d zero-le q) (omega arith)
          ∙ rw (zero-add k) (ap (λ (l : List A). position_from cmp x k (map view l)) (drop-cons ys k d there))

      -- x is smaller than it
      pub found_before : is_less (cmp x here) ≡ true → Before k ≡ position_from cmp x 0 (map view ys)
      unfolding position_from
      found_before e =
          let g : cmp here x ≡ Greater = o.flip x here ∙ ap swapped (less_told (cmp x here) e) in
          sym (rw (g, position_from) at head)

      -- x is not, so that they are equal
      pub found_at : is_less (cmp x here) ≡ false → At k ≡ position_from cmp x 0 (map view ys)
      unfolding position_from
      found_at e =
          let g : cmp here x ≡ Equal = equal_told (cmp here x) (cmp x here) (o.flip here x) (point.1 k d (omega arith) there) e in
          sym (rw (g, position_from) at head)

  -- where the last is not smaller, one is not
  pub below_last : (ys : List A) (d : A) (k : ℕ) → 0 < length ys → k ≤ length ys → ((j : ℕ) (e : A) → 0 ≤ j → j < k → precedes (get_or ys j e) ≡ true)
      → precedes (get_or ys (length ys - 1) d) ≡ false → k < length ys
  below_last ys d k some h before e = elim (eq-or-lt_of_le h) [
    | inl all ↦ no_test (before (length ys - 1) d zero-le (omega arith)) e
    | inr less ↦ less
  ]
