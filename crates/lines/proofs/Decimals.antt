-- Laws of the digits of a number, and of numbers that are added to a line.
use mathlib.Core.Path.{◌≡◌, refl, sym, ap, ◌∙◌}
use mathlib.Core.Bool.{Bool, true, false}
use mathlib.Core.List.{List, [], ◌∷◌, ◌++◌, append-nil}
use Prim.Native.Nat.{ℕ, zero, suc, ◌+◌, ◌/◌, ◌%◌, ◌^◌, ◌≤◌, ◌<◌}
use native.Mathlib.Omega.{arith}
use native.Mathlib.Nat.{div-lt_self, div-lt_iff_lt-mul, pow-suc, not-suc-le-zero}
use lib.Dec.{ltb}
use lib.ListN.{length, length-append}
use borrow.Author.Tests.{lt-ltb, le-ltb, ltb-true, ltb-false}
use Rattle.semantics.specs.Sheet.{digits_from, decimal, space, spaced}
use Rattle.lines.specs.View.{put_of, Added, wide_bytes, number_bytes}
use Rattle.lines.proofs.Puts.{then, put_turn}

-- a digit, or more
digits_low : (k n : ℕ) (rest : List ℕ) → n < 10 → digits_from (suc k) n rest ≡ (48 + n) ∷ rest
unfolding digits_from
digits_low k n rest h = rw (lt-ltb n 10 h, digits_from)

digits_high : (k n : ℕ) (rest : List ℕ) → 10 ≤ n → digits_from (suc k) n rest ≡ digits_from k (n / 10) ((48 + n % 10) ∷ rest)
unfolding digits_from
digits_high k n rest h = rw (le-ltb n 10 h, digits_from)

-- what is proved of numbers of one digit and of more
by_digits : (P : ℕ → Type 0) (n : ℕ) → (n < 10 → P n) → (10 ≤ n → P n) → P n
by_digits P n low high = go (ltb n 10) refl where
  go : (t : Bool) → ltb n 10 ≡ t → P n
  go true e = low (ltb-true n 10 e)
  go false e = high (ltb-false n 10 e)

-- bytes after the digits stay after them
digits_front : (k n : ℕ) (front back : List ℕ) → digits_from k n (front ++ back) ≡ digits_from k n front ++ back
unfolding digits_from
digits_front zero n front back = refl
digits_front (suc k) n front back =
    by_digits (λ m. digits_from (suc k) m (front ++ back) ≡ digits_from (suc k) m front ++ back) n
    (λ h. digits_low k n (front ++ back) h ∙ sym (ap (λ (l : List ℕ). l ++ back) (digits_low k n front h)))
    (λ h. digits_high k n (front ++ back) h
    ∙ digits_front k (n / 10) ((48 + n % 10) ∷ front) back
    ∙ sym (ap (λ (l : List ℕ). l ++ back) (digits_high k n front h)))

-- the number in front of the last digit
pub smaller : (n : ℕ) → 0 < n → n / 10 < n
smaller n h = div-lt_self h (omega arith)

-- any number of steps over n is enough
digits_enough : (k m n : ℕ) (rest : List ℕ) → n < k → n < m → digits_from k n rest ≡ digits_from m n rest
digits_enough zero m n rest hk hm = absurd (not-suc-le-zero hk)
digits_enough (suc k) zero n rest hk hm = absurd (not-suc-le-zero hm)
digits_enough (suc k) (suc m) n rest hk hm =
    by_digits (λ j. digits_from (suc k) j rest ≡ digits_from (suc m) j rest) n
    (λ h. digits_low k n rest h ∙ sym (digits_low m n rest h))
    (λ h. digits_high k n rest h
    ∙ digits_enough k m (n / 10) ((48 + n % 10) ∷ rest) (omega (arith, smaller n (omega arith))) (omega (arith, smaller n (omega arith)))
    ∙ sym (digits_high m n rest h))

-- one digit
decimal_low : (n : ℕ) → n < 10 → decimal n ≡ (48 + n) ∷ []
unfolding decimal
decimal_low n h = digits_low n n [] h

-- the digits of n / 10, and the last one
decimal_high : (n : ℕ) → 10 ≤ n → decimal n ≡ decimal (n / 10) ++ ((48 + n % 10) ∷ [])
unfolding decimal
decimal_high n h =
    digits_high n n [] h
    ∙ digits_enough n (suc (n / 10)) (n / 10) ((48 + n % 10) ∷ []) (smaller n (omega arith)) (omega arith)
    ∙ digits_front (suc (n / 10)) (n / 10) [] ((48 + n % 10) ∷ [])

-- a number below 10 to the power w has at most w digits
decimal_length : (w n : ℕ) → n < 10 ^ suc w → length (decimal n) ≤ suc w
decimal_length zero n h = let low : n < 10 = omega arith in rw (decimal_low n low) (omega arith)
decimal_length (suc w) n h =
    by_digits (λ m. length (decimal m) ≤ suc (suc w)) n
    (λ low. rw (decimal_low n low) (omega arith))
    (λ high.
    let front : n / 10 < 10 ^ suc w = (div-lt_iff_lt-mul (omega arith)).1 (rw (pow-suc 10 (suc w)) at h) in
    rw (decimal_high n high)
    (omega (arith, length-append (decimal (n / 10)) ((48 + n % 10) ∷ []), decimal_length w (n / 10) front)))

-- The digits of n added to a line: one, or those of n / 10 and the last one.
module _ (line : List ℕ) (n : ℕ) {digit : ℕ} where
  pub put_low : {last : List ℕ} → n < 10 → digit ≡ 48 + n → last ≡ put_of line (digit ∷ []) → last ≡ put_of line (decimal n)
  put_low h d e = rw (decimal_low n h, ← d) e

  pub put_high : {front last : List ℕ} → 10 ≤ n → front ≡ put_of line (decimal (n / 10)) → digit ≡ 48 + n % 10
      → last ≡ put_of front (digit ∷ []) → last ≡ put_of line (decimal n)
  put_high h f d e = rw (decimal_high n h, ← d) (then line (decimal (n / 10)) (digit ∷ []) f e)

-- A space and a number.

spaced_one : (n : ℕ) → spaced (n ∷ []) ≡ space ∷ decimal n
unfolding spaced
spaced_one n = ap (λ (l : List ℕ). space ∷ l) (append-nil (decimal n))

-- the first of several numbers
pub spaced_more : (n : ℕ) (ns : List ℕ) → spaced (n ∷ ns) ≡ spaced (n ∷ []) ++ spaced ns
unfolding spaced
spaced_more n ns = ap (λ (l : List ℕ). space ∷ (l ++ spaced ns)) (sym (append-nil (decimal n)))

wide_length : (n : ℕ) → n < 2 ^ 64 → length (spaced (n ∷ [])) ≤ wide_bytes
wide_length n h = rw spaced_one (omega (arith, decimal_length 19 n (omega arith)))

number_length : (n : ℕ) → n < 2 ^ 16 → length (spaced (n ∷ [])) ≤ number_bytes
number_length n h = rw spaced_one (omega (arith, decimal_length 4 n (omega arith)))

pub add_wide : (line : List ℕ) (n : ℕ) {next last : List ℕ} → n < 2 ^ 64 → next ≡ put_of line (space ∷ []) → last ≡ put_of next (decimal n)
    → Added line (n ∷ []) wide_bytes last
add_wide line n h e f = record { is = rw spaced_one (then line (space ∷ []) (decimal n) e f); short = wide_length n h }

pub add_number : {line last : List ℕ} (n : ℕ) → n < 2 ^ 16 → Added line (n ∷ []) wide_bytes last → Added line (n ∷ []) number_bytes last
add_number n h a = record { is = a.is; short = number_length n h }

-- A turn of a loop over numbers: past the first of them.
module _ (line : List ℕ) (n : ℕ) (ns : List ℕ) {most : ℕ} {next : List ℕ} (added : Added line (n ∷ []) most next) where
  pub add_turn : {R : List ℕ} → put_of line (spaced (n ∷ ns)) ≡ R → put_of next (spaced ns) ≡ R
  add_turn turn = put_turn line (spaced (n ∷ [])) (spaced ns) (ap (put_of line) (sym (spaced_more n ns)) ∙ turn) added.is

  pub turn_length : length (spaced (n ∷ ns)) ≤ most + length (spaced ns)
  turn_length = rw (spaced_more n ns) (omega (arith, length-append (spaced (n ∷ [])) (spaced ns), added.short))

-- a number and then others
pub add_more : {line next last : List ℕ} (n : ℕ) (ns : List ℕ) {k m : ℕ} → Added line (n ∷ []) k next → Added next ns m last
    → Added line (n ∷ ns) (k + m) last
add_more {line} n ns one more =
    record {
      is = then line (spaced (n ∷ [])) (spaced ns) one.is more.is ∙ ap (put_of line) (sym (spaced_more n ns));
      short = omega (arith, turn_length line n ns one, more.short);
    }
