-- A list of at most four elements in its places.
use mathlib.Core.Path.{◌≡◌, refl, ap, ◌∙◌}
use mathlib.Core.List.{List, [], ◌∷◌, ◌++◌, append-nil}
use Prim.Native.Nat.{ℕ, zero, suc, ◌+◌, ◌≤◌}
use native.Mathlib.Omega.{arith}
use lib.ListN.{length, get_or, length-append}
use Rattle.ids.specs.Limits.{max_list}
use Rattle.ids.specs.Ids.{padded}
use Rattle.ids.specs.Table.{Sized}
use Rattle.file.specs.Rows.{places}

-- the four places, and then how many there are
four_places : (l : List ℕ) → length l ≤ max_list → get_or l 0 0 ∷ get_or l 1 0 ∷ get_or l 2 0 ∷ get_or l 3 0 ∷ length l ∷ [] ≡ places l
unfolding places padded
four_places [] h = refl
four_places (a ∷ []) h = refl
four_places (a ∷ b ∷ []) h = refl
four_places (a ∷ b ∷ c ∷ []) h = refl
four_places (a ∷ b ∷ c ∷ d ∷ []) h = refl
four_places (a ∷ b ∷ c ∷ d ∷ e ∷ l) h = absurd (omega arith)

-- as the code writes them
pub in_places : (l : List ℕ) {a b c d n : ℕ} → Sized l max_list n → a ≡ get_or l 0 0 → b ≡ get_or l 1 0 → c ≡ get_or l 2 0 → d ≡ get_or l 3 0
    → a ∷ b ∷ c ∷ d ∷ n ∷ [] ≡ places l
in_places l size p q r s = (λ i. p i ∷ q i ∷ r i ∷ s i ∷ size.is i ∷ []) ∙ four_places l (omega (arith, size.is, size.most))

padded_long : (n : ℕ) (l : List ℕ) → length (padded 0 n l) ≡ n
unfolding padded
padded_long zero l = refl
padded_long (suc n) [] = ap suc (padded_long n [])
padded_long (suc n) (x ∷ l) = ap suc (padded_long n l)

places_long : (l : List ℕ) → length (places l) ≡ 5
unfolding places
places_long l = length-append (padded 0 max_list l) (length l ∷ []) ∙ ap (λ (n : ℕ). n + 1) (padded_long max_list l)

five : (r rest : List ℕ) → length r ≡ 5 → get_or r 0 0 ∷ get_or r 1 0 ∷ get_or r 2 0 ∷ get_or r 3 0 ∷ get_or r 4 0 ∷ rest ≡ r ++ rest
five [] rest h = absurd (omega arith)
five (a ∷ []) rest h = absurd (omega arith)
five (a ∷ b ∷ []) rest h = absurd (omega arith)
five (a ∷ b ∷ c ∷ []) rest h = absurd (omega arith)
five (a ∷ b ∷ c ∷ d ∷ []) rest h = absurd (omega arith)
five (a ∷ b ∷ c ∷ d ∷ e ∷ []) rest h = refl
five (a ∷ b ∷ c ∷ d ∷ e ∷ f ∷ r) rest h = absurd (omega arith)

-- an array that holds the places of a list, before others or last
module _ (l : List ℕ) {r : List ℕ} (is : r ≡ places l) where
  pub places_before : (rest : List ℕ) → get_or r 0 0 ∷ get_or r 1 0 ∷ get_or r 2 0 ∷ get_or r 3 0 ∷ get_or r 4 0 ∷ rest ≡ places l ++ rest
  places_before rest = five r rest (ap length is ∙ places_long l) ∙ ap (λ (x : List ℕ). x ++ rest) is

  pub places_last : get_or r 0 0 ∷ get_or r 1 0 ∷ get_or r 2 0 ∷ get_or r 3 0 ∷ get_or r 4 0 ∷ [] ≡ places l
  places_last = places_before [] ∙ append-nil (places l)
