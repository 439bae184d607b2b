-- An array whose entries from an index on are moved up by one, the last first, over any type of entries.
use mathlib.Core.Path.{◌≡◌, refl, sym, ap, ◌∙◌}
use mathlib.Core.List.{List, [], ◌∷◌, ◌++◌}
use Prim.Native.Nat.{ℕ, zero, suc, ◌+◌, ◌-◌, ◌≤◌, ◌<◌}
use native.Mathlib.Nat.{not-suc-le-zero}
use native.Mathlib.Numerals.{add-one, sub-one}
use native.Mathlib.Omega.{arith}
use lib.ListN.{length, take, drop, get_or, set, length-take, length-set, drop_of_length-le}
use lib.Seq.{take-set-le, take-take, take-set-lt, set_split, drop_at, drop-cons, get_or-take, length-take-le}

-- ys is xs, whose first n entries are in use, but that those from i on stand one place higher; what stands at i is free
pub record Shifted {A : Type 0} (xs ys : List A) (n i : ℕ) : Type 0 where
  pub long : length ys ≡ length xs
  pub below : take i ys ≡ take i xs
  pub above : drop (suc i) (take (suc n) ys) ≡ drop i (take n xs)

module _ {A : Type 0} where
  nothing : (n : ℕ) (xs : List A) → drop n (take n xs) ≡ []
  nothing n xs = drop_of_length-le (take n xs) {i = n} (omega (arith, length-take n xs))

  pub shift_start : (xs : List A) (n : ℕ) → Shifted xs xs n n
  shift_start xs n = record { long = refl; below = refl; above = nothing (suc n) xs ∙ sym (nothing n xs) }

  -- a store within the first entries takes one of them out
  taken : (ys : List A) (n i : ℕ) (v : A) → i ≤ n → n < length ys → take (suc n) (set ys i v) ≡ take i ys ++ v ∷ drop (suc i) (take (suc n) ys)
  taken ys n i v h k =
      take-set-lt (suc n) ys i v (omega arith) ∙ set_split (take (suc n) ys) i v (omega (arith, length-take-le (suc n) ys k))
      ∙ ap (λ (l : List A). l ++ v ∷ drop (suc i) (take (suc n) ys)) (take-take i (suc n) ys (omega arith))

  turn_suc : (d : A) (xs ys : List A) (n j : ℕ) → Shifted xs ys n (suc j) → suc j ≤ n → n < length xs → Shifted xs (set ys (suc j) (get_or ys j d)) n j
  turn_suc d xs ys n j S h k =
      let m : n < length ys = omega (arith, S.long) in
      let v : get_or ys j d ≡ get_or (take n xs) j d =
      sym (get_or-take (suc j) ys j d (omega arith)) ∙ ap (λ (l : List A). get_or l j d) S.below ∙ get_or-take (suc j) xs j d (omega arith) ∙ sym (get_or-take n xs j d h) in
      record {
        long = length-set ys (suc j) (get_or ys j d) ∙ S.long;
        below = take-set-le j ys (suc j) (get_or ys j d) (omega arith) ∙ sym (take-take j (suc j) ys (omega arith)) ∙ ap (take j) S.below ∙ take-take j (suc j) xs (omega arith);
        above = ap (drop (suc j)) (taken ys n (suc j) (get_or ys j d) h m)
            ∙ drop_at (take (suc j) ys) (get_or ys j d ∷ drop (suc (suc j)) (take (suc n) ys)) (suc j) (length-take-le (suc j) ys (omega arith))
            ∙ (λ k. v k ∷ S.above k) ∙ sym (drop-cons (take n xs) j d (omega (arith, length-take-le n xs (omega arith))));
      }

  -- a turn: the entry below i moves to i
  pub shift_turn : (d : A) (xs ys : List A) (n i : ℕ) → Shifted xs ys n i → 1 ≤ i → i ≤ n → n < length xs → Shifted xs (set ys i (get_or ys (i - 1) d)) n (i - 1)
  shift_turn d xs ys n zero S p h k = absurd (not-suc-le-zero p)
  shift_turn d xs ys n (suc j) S p h k = rw (sub-one (suc j)) (turn_suc d xs ys n j S h k)

  -- the new entry is stored at i
  pub shift_done : (xs ys : List A) (n i : ℕ) (x : A) → Shifted xs ys n i → i ≤ n → n < length xs → take (n + 1) (set ys i x) ≡ take i xs ++ x ∷ drop i (take n xs)
  shift_done xs ys n i x S h k =
      rw add-one (taken ys n i x h (omega (arith, S.long)) ∙ (λ k. S.below k ++ x ∷ S.above k))
