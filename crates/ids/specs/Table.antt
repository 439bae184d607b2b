-- Ordered tables, over any type of entries and any order. An order reads the keys of two entries only.
use Rattle.std.specs.Prelude.{ℕ, suc, ◌≤◌, ◌≡◌, Bool, true, false, List, [], ◌∷◌, ◌++◌, length, leb, ltb}
use Rattle.std.proofs.Math.Option.{Option, some, none}
use Rattle.ids.specs.declared.Ordering.{Ordering}
use Rattle.ids.specs.declared.Ordering.TheVariants.{Less, Equal, Greater}
use Rattle.ids.specs.declared.Place.{Place}
use Rattle.ids.specs.declared.Place.TheVariants.{Before, At}

-- how many entries a table of at most `cap` holds
pub record Sized {A : Type 0} (l : List A) (cap r : ℕ) : Type 0 where
  pub is : r ≡ length l
  pub most : r ≤ cap

-- what an insertion gives: whether the table grew, whether it had no room, and the table
pub record Insertion (A : Type 0) : Type 0 where
  pub grew : Bool
  pub full : Bool
  pub items : List A

module _ {A : Type 0} (cmp : A → A → Ordering) (x : A) where
  -- where x stands in a list whose first entry has the index i, or before which entry it goes: the first that is not smaller
  unfoldable pub position_from : ℕ → List A → Place
  position_from i [] = Before i
  position_from i (y ∷ ys) = elim (cmp y x) [ Less ↦ position_from (suc i) ys | Equal ↦ At i | Greater ↦ Before i ]

  -- whether the first entry that is not smaller than x is equal to x
  unfoldable pub present : List A → Bool
  present [] = false
  present (y ∷ ys) = elim (cmp y x) [ Less ↦ present ys | Equal ↦ true | Greater ↦ false ]

  -- the first entry that is not smaller than x, where it is equal to x
  unfoldable pub lookup_of : List A → Option A
  lookup_of [] = none
  lookup_of (y ∷ ys) = elim (cmp y x) [ Less ↦ lookup_of ys | Equal ↦ some y | Greater ↦ none ]

  -- the list with x before the first entry that is not smaller, unless that one is equal to x
  unfoldable pub placed : List A → List A
  placed [] = x ∷ []
  placed (y ∷ ys) = elim (cmp y x) [ Less ↦ y ∷ placed ys | Equal ↦ y ∷ ys | Greater ↦ x ∷ y ∷ ys ]

  -- x inserted in a table of at most `cap` entries
  unfoldable pub insert_of : ℕ → List A → Insertion A
  insert_of cap ys =
      elim (present ys) [
        | true ↦ record { grew = false; full = false; items = ys }
        | false ↦
            elim (leb cap (length ys)) [
              | true ↦ record { grew = false; full = true; items = ys }
              | false ↦ record { grew = true; full = false; items = placed ys }
            ]
      ]

-- x added at the end of a table of at most `cap` entries
unfoldable pub push_of : {A : Type 0} → ℕ → List A → A → List A
push_of cap ys x = elim (ltb (length ys) cap) [ true ↦ ys ++ (x ∷ []) | false ↦ ys ]

-- the length that a table says after a change: how many entries it holds where it grew, else what it said before
unfoldable pub len_of : {A : Type 0} → ℕ → List A → List A → ℕ
len_of len before after = elim (ltb (length before) (length after)) [ true ↦ length after | false ↦ len ]

-- each entry rewritten by f into the table `done`, in order: of entries that become equal the first stays
unfoldable pub rewrite_into : {A : Type 0} → (A → A → Ordering) → (A → A) → List A → List A → List A
rewrite_into cmp f [] done = done
rewrite_into cmp f (x ∷ xs) done = rewrite_into cmp f xs (placed cmp (f x) done)
