-- Laws of a table's view, `map f (take n xs)` of an array xs with n entries in use, over any type of entries.
use mathlib.Core.Path.{◌≡◌, refl, sym, ap, ◌∙◌}
use mathlib.Core.List.{List, [], ◌∷◌, ◌++◌, map, map-append}
use Prim.Native.Nat.{ℕ, zero, suc, ◌+◌, ◌≤◌, ◌<◌, min}
use native.Mathlib.Nat.{le_of_suc-le-suc, not-suc-le-zero}
use native.Mathlib.Numerals.{add-one}
use native.Mathlib.Omega.{arith}
use lib.Seq.{take-take, take-suc, take-suc-set, get_or-take}
use lib.ListN.{length, take, drop, get_or, set, length-take, length-map, drop_of_length-le, get_or-map}

module _ {A : Type 0} {B : Type 0} (f : A → B) where
  pub length_view : (n : ℕ) (xs : List A) → length (map f (take n xs)) ≡ min n (length xs)
  length_view n xs = length-map (take n xs) f ∙ length-take n xs

  view_cons_suc : (n : ℕ) (xs : List A) (i : ℕ) (d : A) → i < n → i < length xs → drop i (map f (take n xs)) ≡ f (get_or xs i d) ∷ drop (suc i) (map f (take n xs))
  view_cons_suc zero xs i d h k = absurd (not-suc-le-zero h)
  view_cons_suc (suc n) [] i d h k = absurd (not-suc-le-zero k)
  view_cons_suc (suc n) (x ∷ xs) zero d h k = refl
  view_cons_suc (suc n) (x ∷ xs) (suc i) d h k = view_cons_suc n xs i d (le_of_suc-le-suc h) (le_of_suc-le-suc k)

  -- the view from an entry in use: that entry, and the view from the next
  pub view_cons : (n : ℕ) (xs : List A) (i : ℕ) (d : A) → i < n → i < length xs → drop i (map f (take n xs)) ≡ f (get_or xs i d) ∷ drop (i + 1) (map f (take n xs))
  view_cons n xs i d h k = rw add-one (view_cons_suc n xs i d h k)

  -- the same, where the index is below the view's length
  pub view_next : (n : ℕ) (xs : List A) (i : ℕ) (d : A) → i < length (map f (take n xs)) → drop i (map f (take n xs)) ≡ f (get_or xs i d) ∷ drop (i + 1) (map f (take n xs))
  view_next n xs i d h = view_cons n xs i d (omega (arith, length_view n xs)) (omega (arith, length_view n xs))

  -- the view from past the last entry in use
  pub view_nil : (n : ℕ) (xs : List A) (i : ℕ) → n ≤ i → drop i (map f (take n xs)) ≡ []
  view_nil n xs i h = drop_of_length-le (map f (take n xs)) {i = i} (omega (arith, length_view n xs))

  -- the view from its end
  pub view_done : (n : ℕ) (xs : List A) (i : ℕ) → length (map f (take n xs)) ≤ i → drop i (map f (take n xs)) ≡ []
  view_done n xs i h = drop_of_length-le (map f (take n xs)) {i = i} h

  pub map_take : (n : ℕ) (xs : List A) → map f (take n xs) ≡ take n (map f xs)
  map_take zero xs = refl
  map_take (suc n) [] = refl
  map_take (suc n) (x ∷ xs) = ap (λ (l : List B). f x ∷ l) (map_take n xs)

  pub map_drop : (n : ℕ) (xs : List A) → map f (drop n xs) ≡ drop n (map f xs)
  map_drop zero xs = refl
  map_drop (suc n) [] = refl
  map_drop (suc n) (x ∷ xs) = map_drop n xs

  take_used : (m : ℕ) (xs : List A) → take (length (map f (take m xs))) xs ≡ take m xs
  take_used zero xs = refl
  take_used (suc m) [] = refl
  take_used (suc m) (x ∷ xs) = ap (λ (l : List A). x ∷ l) (take_used m xs)

  -- a count clamped to the entries that there are
  pub view_clamped : (n m : ℕ) (xs : List A) → m ≡ length (map f (take n xs)) → map f (take m xs) ≡ map f (take n xs)
  view_clamped n m xs e = ap (λ (k : ℕ). map f (take k xs)) e ∙ ap (map f) (take_used n xs)

  -- the view of an array into which x was put at an index, the entries from there on one place higher
  pub view_placed : (m : ℕ) (xs ys : List A) (x : A) (n at len : ℕ) → n ≡ length (map f (take m xs)) → at ≤ n → len ≡ n + 1
      → take (n + 1) ys ≡ take at xs ++ x ∷ drop at (take n xs)
      → map f (take len ys) ≡ take at (map f (take m xs)) ++ f x ∷ drop at (map f (take m xs))
  view_placed m xs ys x n at len e h p q =
      let used : take n xs ≡ take m xs = rw e (take_used m xs) in
      let front : take at xs ≡ take at (take m xs) = sym (take-take at n xs h) ∙ ap (take at) used in
      rw (p, q, used, front) (map-append f (take at (take m xs)) (x ∷ drop at (take m xs)) ∙ (λ k. map_take at (take m xs) k ++ f x ∷ map_drop at (take m xs) k))

  -- an entry of the view
  pub view_at : (n : ℕ) (xs : List A) (i : ℕ) (d : A) → i < length (map f (take n xs)) → get_or (map f (take n xs)) i (f d) ≡ f (get_or xs i d)
  view_at n xs i d h = get_or-map f (take n xs) i d ∙ ap f (get_or-take n xs i d (omega (arith, length_view n xs)))

  -- the view of an array with an entry more at the end
  pub view_pushed : (n : ℕ) (xs : List A) (x : A) → n < length xs → map f (take (n + 1) (set xs n x)) ≡ map f (take n xs) ++ f x ∷ []
  view_pushed n xs x h = rw (add-one, take-suc-set xs n x h) (map-append f (take n xs) (x ∷ []))

-- what owning an array of structs tells: its length, from that of the mapped list
pub long : {A B : Type 0} (f : A → B) (xs : List A) (n : ℕ) → length (map f xs) ≡ n → length xs ≡ n
long f xs n e = sym (length-map xs f) ∙ e

-- An array that is filled from another, entry by entry: the first i entries of ys are those of xs, each by h.
module _ {A : Type 0} {B : Type 0} (f : A → B) (h : B → B) (xs ys : List A) where
  pub filled_more : (i : ℕ) (d v : A) → map f (take i ys) ≡ map h (map f (take i xs)) → i < length xs → i < length ys
      → f v ≡ h (f (get_or xs i d)) → map f (take (i + 1) (set ys i v)) ≡ map h (map f (take (i + 1) xs))
  filled_more i d v e hx hy is =
      rw (add-one, take-suc-set ys i v hy, take-suc xs i d hx)
      (map-append f (take i ys) (v ∷ [])
      ∙ (λ k. e k ++ is k ∷ [])
      ∙ sym (ap (map h) (map-append f (take i xs) (get_or xs i d ∷ [])) ∙ map-append h (map f (take i xs)) (f (get_or xs i d) ∷ [])))

  -- all that are in use
  pub filled_all : (n i : ℕ) → i ≡ length (map f (take n xs)) → length ys ≡ length xs → map f (take i ys) ≡ map h (map f (take i xs))
      → map f (take n ys) ≡ map h (map f (take n xs))
  filled_all n i is many e =
      let ix : take i xs ≡ take n xs = rw is (take_used f n xs) in
      let jy : i ≡ length (map f (take n ys)) = omega (arith, length_view f n xs, length_view f n ys) in
      let iy : take i ys ≡ take n ys = rw jy (take_used f n ys) in
      ap (map f) (sym iy) ∙ e ∙ ap (λ (l : List A). map h (map f l)) ix

-- counts that the list clamps to the same
pub take_same : {A : Type 0} (n m : ℕ) (xs : List A) → min n (length xs) ≡ min m (length xs) → take n xs ≡ take m xs
take_same zero zero xs e = refl
take_same zero (suc m) [] e = refl
take_same zero (suc m) (x ∷ xs) e = absurd (omega arith)
take_same (suc n) zero [] e = refl
take_same (suc n) zero (x ∷ xs) e = absurd (omega arith)
take_same (suc n) (suc m) [] e = refl
take_same {A} (suc n) (suc m) (x ∷ xs) e = ap (λ (l : List A). x ∷ l) (take_same n m xs (omega arith))
