-- A table that is written from another, entry by entry.
use mathlib.Core.Path.{◌≡◌, refl, sym, ◌∙◌}
use mathlib.Core.List.{List, [], ◌∷◌, ◌++◌, map, map-append}
use Prim.Native.Nat.{ℕ, ◌+◌, ◌≤◌, ◌<◌}
use native.Mathlib.Numerals.{add-one}
use native.Mathlib.Omega.{arith}
use lib.ListN.{length, take, get_or, set, length-set}
use lib.Seq.{take-suc}
use Rattle.ids.proofs.Views.{view_pushed}

-- one entry more of xs, written from that of ys
module _ {A B C : Type 0} (f : A → C) (g : B → C) (xs : List A) (ys : List B) where
  filled : (i : ℕ) (x : A) (d : B) → i < length xs → i < length ys → map f (take i xs) ≡ map g (take i ys)
      → f x ≡ g (get_or ys i d) → map f (take (i + 1) (set xs i x)) ≡ map g (take (i + 1) ys)
  filled i x d p q e is =
      view_pushed f i xs x p ∙ (λ k. e k ++ is k ∷ [])
      ∙ sym (rw (add-one, take-suc ys i d q) (map-append g (take i ys) (get_or ys i d ∷ [])))

-- Over any types of entries: what the first i of ys say is what those of xs do.
module _ {A B C : Type 0} (f : A → B) (g : C → B) (n limit : ℕ) (xs : List A) where
  pub record Copied (ys : List C) (i : ℕ) : Type 0 where
    pub is : map g (take i ys) ≡ map f (take i xs)
    pub few : i ≤ n
    pub long : length ys ≡ limit

  pub copied_none : (ys : List C) → length ys ≡ limit → Copied ys 0
  copied_none ys e = record { is = refl; few = omega arith; long = e }

  module _ {ys : List C} {i : ℕ} (so_far : Copied ys i) where
    pub copied_next : (d : A) {v : C} → i < n → n ≤ length xs → n ≤ limit → g v ≡ f (get_or xs i d) → Copied (set ys i v) (i + 1)
    copied_next d {v} h p q e = record {
      is = filled g f ys xs i v d (omega (arith, so_far.long)) (omega arith) so_far.is e;
      few = omega arith;
      long = length-set ys i v ∙ so_far.long;
    }

    pub copied_all : n ≤ i → map g (take n ys) ≡ map f (take n xs)
    copied_all h = let all : i ≡ n = omega (arith, so_far.few) in rw (sym all) so_far.is
