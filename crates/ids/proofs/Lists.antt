-- Laws of lists as they are given and as they are held, and of a number's bound over a list.
use mathlib.Core.Path.{◌≡◌, refl, sym, ap, ◌∙◌}
use mathlib.Core.Bool.{Bool, false}
use mathlib.Core.List.{List, [], ◌∷◌, map}
use Prim.Native.Nat.{ℕ, zero, suc, ◌≤◌, ◌<◌}
use native.Mathlib.Omega.{arith}
use native.Mathlib.Nat.{not-suc-le-zero, le_of_suc-le-suc}
use lib.ListN.{length, take, length-map}
use borrow.Author.Tests.{lt-ltb, le-ltb, ltb-false}
use Rattle.ids.specs.Limits.{max_list}
use Rattle.ids.specs.declared.ElIds.{ElIds}
use Rattle.ids.specs.declared.TypeIds.{TypeIds}
use Rattle.ids.specs.Ids.{el_of, type_of, els_of, types_of, padded, given_of, given_els, given_types, Handed, whole, too_long, all_below}
use Rattle.ids.proofs.Views.{map_take, length_view}

-- a list is given with as many entries as its length says
module _ {A : Type 0} (d : A) where
  pub padded_length : (n : ℕ) (xs : List A) → length (padded d n xs) ≡ n
  unfolding padded
  padded_length zero xs = refl
  padded_length (suc n) [] = ap suc (padded_length n [])
  padded_length (suc n) (x ∷ xs) = ap suc (padded_length n xs)

  -- where there are as many, these are the entries that it holds
  pub padded_held : (n : ℕ) (xs : List A) → n ≤ length xs → padded d n xs ≡ take n xs
  unfolding padded
  padded_held zero xs h = refl
  padded_held (suc n) [] h = absurd (not-suc-le-zero h)
  padded_held (suc n) (x ∷ xs) h = ap (λ (l : List A). x ∷ l) (padded_held n xs (le_of_suc-le-suc h))

  -- a list that says a length n that it has is handed back whole
  pub handed_list : (n : ℕ) (xs : List A) {ys : List A} → n ≤ length xs → take n xs ≡ ys
      → ◌≡◌ {A = Handed (List A)} (record { given = padded d n xs; held = take n xs }) (whole ys)
  handed_list n xs h is = λ i. record { given = (padded_held n xs h ∙ is) i; held = is i }

-- what is handed back whole, by each of its views
module _ {A : Type 0} {h : Handed A} {x : A} (is : h ≡ whole x) where
  pub as_given : h.given ≡ x
  as_given = ap (λ (k : Handed A). k.given) is

  pub as_held : h.held ≡ x
  as_held = ap (λ (k : Handed A). k.held) is

  pub given_held_alike : h.given ≡ h.held
  given_held_alike = as_given ∙ sym as_held

module _ {A B : Type 0} (d : B) (f : A → B) where
  pub padded_view : (n : ℕ) (xs : List A) → n ≤ length xs → padded d n (map f xs) ≡ map f (take n xs)
  padded_view n xs h = padded_held d n (map f xs) (omega (arith, length-map xs f)) ∙ sym (map_take f n xs)

  -- a list that is given as it is held says a length that it has
  pub says_held : (g : A → B) (n : ℕ) (xs : List A) → padded d n (map f xs) ≡ map g (take n xs) → n ≤ length xs
  says_held g n xs alike =
      let many : n ≡ length (map g (take n xs)) = sym (padded_length d n (map f xs)) ∙ ap length alike in
      omega (arith, length_view g n xs)

  pub handed : (n : ℕ) (xs : List A) {ys : List B} → n ≤ length xs → map f (take n xs) ≡ ys
      → ◌≡◌ {A = Handed (List B)} (record { given = padded d n (map f xs); held = map f (take n xs) }) (whole ys)
  handed n xs h is = λ i. record { given = (padded_view n xs h ∙ is) i; held = is i }

-- lists of numbers
pub given_length : (n : ℕ) (xs : List ℕ) → length (given_of n xs) ≡ n
given_length n xs = padded_length 0 n xs

pub given_held : (n : ℕ) (xs : List ℕ) → n ≤ length xs → given_of n xs ≡ take n xs
given_held n xs h = padded_held 0 n xs h

pub given_view : {A : Type 0} (f : A → ℕ) (n : ℕ) (xs : List A) → n ≤ length xs → given_of n (map f xs) ≡ map f (take n xs)
given_view f n xs h = padded_view 0 f n xs h

-- a list is held as it was given, and is no longer than a list may be
pub record Held (given kept : List ℕ) : Type 0 where
  pub same : given ≡ kept
  pub short : too_long kept ≡ false

-- one that is given with no more entries than a list has
pub held : {A : Type 0} (f : A → ℕ) (n : ℕ) (xs : List A) → length xs ≡ max_list → too_long (given_of n (map f xs)) ≡ false
    → Held (given_of n (map f xs)) (map f (take n xs))
held f n xs long h =
    let fits : n ≤ length xs = omega (arith, ltb-false max_list (length (given_of n (map f xs))) h, given_length n (map f xs)) in
    let same : given_of n (map f xs) ≡ map f (take n xs) = given_view f n xs fits in
    record { same = same; short = ap too_long (sym same) ∙ h }

abbrev pub HeldEls : ElIds → Type 0
HeldEls l = Held (given_els l) (els_of l)

abbrev pub HeldTypes : TypeIds → Type 0
HeldTypes l = Held (given_types l) (types_of l)

pub held_els : (l : ElIds) → length l.ids ≡ max_list → too_long (given_els l) ≡ false → HeldEls l
held_els l long h = held el_of l.len l.ids long h

pub held_type_ids : (l : TypeIds) → length l.ids ≡ max_list → too_long (given_types l) ≡ false → HeldTypes l
held_type_ids l long h = held type_of l.len l.ids long h

-- the equation alone
pub held_types : (l : TypeIds) → length l.ids ≡ max_list → too_long (given_types l) ≡ false → given_types l ≡ types_of l
held_types l long h = (held_type_ids l long h).same

-- a turn of a search for a number that is not below n: past one that is
module _ {R : Bool} (n x : ℕ) (xs : List ℕ) (turn : all_below n (x ∷ xs) ≡ R) where
  pub below_on : x < n → all_below n xs ≡ R
  unfolding all_below
  below_on h = rw (lt-ltb x n h, all_below) at turn

  pub below_off : n ≤ x → false ≡ R
  unfolding all_below
  below_off h = rw (le-ltb x n h, all_below) at turn
