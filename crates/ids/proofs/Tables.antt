-- Laws of ordered tables, over any type of entries and any order.
use mathlib.Core.Path.{◌≡◌, refl, sym, ap, ◌∙◌}
use mathlib.Core.Bool.{Bool, true, false, not, ◌&&◌}
use mathlib.Core.List.{List, [], ◌∷◌, ◌++◌, map}
use Prim.Native.Nat.{ℕ, suc, ◌+◌, ◌≤◌, ◌<◌, zero-le, suc-le-suc}
use native.Mathlib.Numerals.{add-one}
use native.Mathlib.Omega.{arith}
use native.Mathlib.Nat.{add-zero, zero-add, add-suc, suc-add}
use mathlib.Core.Option.{Option, some, none}
use lib.ListN.{length, take, drop, get_or}
use lib.Dec.{leb}
use borrow.Author.Tests.{le-leb, lt-leb, lt-ltb, le-ltb, leb-true, leb-false}
use Rattle.ids.specs.declared.Ordering.{Ordering}
use Rattle.ids.specs.declared.Ordering.TheVariants.{Less, Equal, Greater}
use Rattle.ids.specs.declared.Place.{Place}
use Rattle.ids.specs.declared.Place.TheVariants.{Before, At}
use Rattle.ids.proofs.Views.{view_next, view_done}
use Rattle.ids.proofs.Sorted.{placed_present}
use Rattle.ids.specs.Table.{Insertion, position_from, present, placed, insert_of, lookup_of, push_of, rewrite_into}

-- x goes before the k-th entry of a list ys, whose first entry has the index i; p and q are `present` and `placed` of ys
pub record Spot {A : Type 0} (x : A) (i : ℕ) (ys : List A) (p : Bool) (q : List A) (k : ℕ) : Type 0 where
  pub absent : p ≡ false
  pub off : ℕ
  pub at : k ≡ i + off
  pub within : off ≤ length ys
  pub then : q ≡ take off ys ++ x ∷ drop off ys

-- what a position says
abbrev pub Found : {A : Type 0} (x : A) (i : ℕ) (ys : List A) (p : Bool) (q : List A) → Place → Type 0
Found x i ys p q (At k) = p ≡ true
Found x i ys p q (Before k) = Spot x i ys p q k

module _ {A : Type 0} (cmp : A → A → Ordering) (x : A) where
  lift : (i : ℕ) (y : A) (ys : List A) (p : Bool) (q : List A) (r : Place) → Found x (suc i) ys p q r → Found x i (y ∷ ys) p (y ∷ q) r
  lift i y ys p q (At k) h = h
  lift i y ys p q (Before k) h = record {
    absent = h.absent;
    off = suc h.off;
    at = h.at ∙ suc-add i h.off ∙ sym (add-suc i h.off);
    within = suc-le-suc h.within;
    then = ap (λ (l : List A). y ∷ l) h.then;
  }

  here : (i : ℕ) (ys : List A) → Spot x i ys false (x ∷ ys) i
  here i ys = record { absent = refl; off = 0; at = sym (add-zero i); within = zero-le; then = refl }

  step : (i : ℕ) (y : A) (ys : List A) (p : Bool) (q : List A) (r : Place) (o : Ordering) → Found x (suc i) ys p q r
      → Found x i (y ∷ ys) (elim o [ Less ↦ p | Equal ↦ true | Greater ↦ false ])
      (elim o [ Less ↦ y ∷ q | Equal ↦ y ∷ ys | Greater ↦ x ∷ y ∷ ys ]) (elim o [ Less ↦ r | Equal ↦ At i | Greater ↦ Before i ])
  step i y ys p q r Less h = lift i y ys p q r h
  step i y ys p q r Equal h = refl
  step i y ys p q r Greater h = here i (y ∷ ys)

  -- what the position of x in a list says of the list with x
  pub found : (i : ℕ) (ys : List A) → Found x i ys (present cmp x ys) (placed cmp x ys) (position_from cmp x i ys)
  unfolding position_from present placed
  found i [] = here i []
  found i (y ∷ ys) = step i y ys (present cmp x ys) (placed cmp x ys) (position_from cmp x (suc i) ys) (cmp y x) (found (suc i) ys)

  -- x stands in the list
  pub at_present : (k : ℕ) (ys : List A) → position_from cmp x 0 ys ≡ At k → present cmp x ys ≡ true
  at_present k ys e = rw e at (found 0 ys)

  -- x goes before the k-th entry
  pub before_spot : (k : ℕ) (ys : List A) → position_from cmp x 0 ys ≡ Before k
      → (present cmp x ys ≡ false) × ((k ≤ length ys) × (placed cmp x ys ≡ take k ys ++ x ∷ drop k ys))
  before_spot k ys e =
      let s : Spot x 0 ys (present cmp x ys) (placed cmp x ys) k = rw e at (found 0 ys) in
      let off : k ≡ s.off = s.at ∙ zero-add s.off in
      (s.absent, (rw off s.within, rw off s.then))

  -- a turn of a search: past a smaller entry
  pub on : (i : ℕ) (y : A) (ys : List A) → cmp y x ≡ Less → position_from cmp x i (y ∷ ys) ≡ position_from cmp x (i + 1) ys
  unfolding position_from
  on i y ys e = rw (e, position_from, add-one)

  module _ (cap : ℕ) (ys : List A) where
    -- an insertion of what is there
    pub insert_present : present cmp x ys ≡ true → insert_of cmp x cap ys ≡ record { grew = false; full = false; items = ys }
    unfolding insert_of
    insert_present e = rw (e, insert_of)

    -- an insertion that finds no room
    pub insert_full : present cmp x ys ≡ false → cap ≤ length ys → insert_of cmp x cap ys ≡ record { grew = false; full = true; items = ys }
    unfolding insert_of
    insert_full e h = rw (e, le-leb cap (length ys) h, insert_of)

    -- an insertion
    pub insert_new : present cmp x ys ≡ false → length ys < cap → insert_of cmp x cap ys ≡ record { grew = true; full = false; items = placed cmp x ys }
    unfolding insert_of
    insert_new e h = rw (e, lt-leb cap (length ys) h, insert_of)

-- the entry at a position; o is `lookup_of` of ys, whose first entry has the index i
pub record Entry {A : Type 0} (d : A) (i : ℕ) (ys : List A) (o : Option A) (k : ℕ) : Type 0 where
  pub off : ℕ
  pub at : k ≡ i + off
  pub within : off < length ys
  pub is : o ≡ some (get_or ys off d)

abbrev pub Looked : {A : Type 0} (d : A) (i : ℕ) (ys : List A) (o : Option A) → Place → Type 0
Looked d i ys o (At k) = Entry d i ys o k
Looked d i ys o (Before k) = o ≡ none

module _ {A : Type 0} (cmp : A → A → Ordering) (x : A) (d : A) where
  look_past : (i : ℕ) (y : A) (ys : List A) (o : Option A) (r : Place) → Looked d (suc i) ys o r → Looked d i (y ∷ ys) o r
  look_past i y ys o (At k) h =
      record { off = suc h.off; at = h.at ∙ suc-add i h.off ∙ sym (add-suc i h.off); within = suc-le-suc h.within; is = h.is }
  look_past i y ys o (Before k) h = h

  look_step : (i : ℕ) (y : A) (ys : List A) (o : Option A) (r : Place) (t : Ordering) → Looked d (suc i) ys o r
      → Looked d i (y ∷ ys) (elim t [ Less ↦ o | Equal ↦ some y | Greater ↦ none ]) (elim t [ Less ↦ r | Equal ↦ At i | Greater ↦ Before i ])
  look_step i y ys o r Less h = look_past i y ys o r h
  look_step i y ys o r Equal h = record { off = 0; at = sym (add-zero i); within = suc-le-suc zero-le; is = refl }
  look_step i y ys o r Greater h = refl

  -- what the position of x says of the entry that is looked up
  pub looked : (i : ℕ) (ys : List A) → Looked d i ys (lookup_of cmp x ys) (position_from cmp x i ys)
  unfolding position_from lookup_of
  looked i [] = refl
  looked i (y ∷ ys) = look_step i y ys (lookup_of cmp x ys) (position_from cmp x (suc i) ys) (cmp y x) (looked (suc i) ys)

  pub at_entry : (k : ℕ) (ys : List A) → position_from cmp x 0 ys ≡ At k → (k < length ys) × (lookup_of cmp x ys ≡ some (get_or ys k d))
  at_entry k ys e =
      let n : Entry d 0 ys (lookup_of cmp x ys) k = rw e at (looked 0 ys) in
      let off : k ≡ n.off = n.at ∙ zero-add n.off in
      (rw off n.within, rw off n.is)

  pub before_none : (k : ℕ) (ys : List A) → position_from cmp x 0 ys ≡ Before k → lookup_of cmp x ys ≡ none
  before_none k ys e = rw e at (looked 0 ys)

module _ {A : Type 0} (cap : ℕ) (ys : List A) (x : A) where
  -- an entry at the end, where there is room
  pub push_room : length ys < cap → push_of cap ys x ≡ ys ++ (x ∷ [])
  unfolding push_of
  push_room h = rw (lt-ltb (length ys) cap h, push_of)

  pub push_full : cap ≤ length ys → push_of cap ys x ≡ ys
  unfolding push_of
  push_full h = rw (le-ltb (length ys) cap h, push_of)

-- an entry is present where it is found
unfoldable pub is_some : {A : Type 0} → Option A → Bool
is_some none = false
is_some (some x) = true

pub present_found : {A : Type 0} (cmp : A → A → Ordering) (x : A) (l : List A) → present cmp x l ≡ is_some (lookup_of cmp x l)
unfolding present lookup_of is_some
present_found {A} cmp x [] = refl
present_found {A} cmp x (y ∷ ys) = go (cmp y x) (present_found cmp x ys)
  where
    go : (o : Ordering) → present cmp x ys ≡ is_some (lookup_of cmp x ys)
        → ◌≡◌ {A = Bool} (elim o [ Less ↦ present cmp x ys | Equal ↦ true | Greater ↦ false ])
        (is_some {A = A} (elim o [ Less ↦ lookup_of cmp x ys | Equal ↦ some y | Greater ↦ none ]))
    go Less e = e
    go Equal e = refl
    go Greater e = refl

-- Tables: whether an entry was there decides what its insertion does.
module _ {A : Type 0} (cmp : A → A → Ordering) (x : A) where
  module _ (cap : ℕ) (ys : List A) where
    -- no room: it is not there, and the table is at its limit
    pub insert_needs : (insert_of cmp x cap ys).full ≡ (not (present cmp x ys) && leb cap (length ys))
    insert_needs = go (present cmp x ys) refl (leb cap (length ys)) refl
      where
        go : (p : Bool) → present cmp x ys ≡ p → (q : Bool) → leb cap (length ys) ≡ q
            → (insert_of cmp x cap ys).full ≡ (not (present cmp x ys) && leb cap (length ys))
        go true e q k = ap (λ (g : Insertion A). g.full) (insert_present cmp x cap ys e) ∙ sym (rw e)
        go false e true k = ap (λ (g : Insertion A). g.full) (insert_full cmp x cap ys e (leb-true _ _ k)) ∙ sym (rw (e, k))
        go false e false k = ap (λ (g : Insertion A). g.full) (insert_new cmp x cap ys e (leb-false _ _ k)) ∙ sym (rw (e, k))

    -- an insertion that had room
    pub insert_made : (insert_of cmp x cap ys).full ≡ false
        → insert_of cmp x cap ys ≡ record { grew = not (present cmp x ys); full = false; items = placed cmp x ys }
    insert_made h = go (present cmp x ys) refl (leb cap (length ys)) refl
      where
        go : (p : Bool) → present cmp x ys ≡ p → (q : Bool) → leb cap (length ys) ≡ q
            → insert_of cmp x cap ys ≡ record { grew = not (present cmp x ys); full = false; items = placed cmp x ys }
        go true e q k = insert_present cmp x cap ys e ∙ sym (rw (e, placed_present cmp x ys e))
        go false e false k = insert_new cmp x cap ys e (leb-false _ _ k) ∙ sym (rw e)
        go false e true k =
            let none : (insert_of cmp x cap ys).full ≡ true = insert_needs ∙ rw (e, k) in
            let z : ◌≡◌ {A = ℕ} 0 1 = cc in absurd (omega arith)

-- A loop that rewrites the entries of a table, seen through `view`, one after the other into another table `done`.
module _ {A B : Type 0} (cmp : B → B → Ordering) (f : B → B) (view : A → B) (n : ℕ) (xs : List A) (i : ℕ) (done : List B) {whole : List B}
    (so_far : rewrite_into cmp f (drop i (map view (take n xs))) done ≡ whole) where
  -- the entry i is rewritten
  pub rewrite_next : (d : A) (next : List B) → i < length (map view (take n xs)) → next ≡ placed cmp (f (view (get_or xs i d))) done
      → rewrite_into cmp f (drop (i + 1) (map view (take n xs))) next ≡ whole
  unfolding rewrite_into
  rewrite_next d next h q =
      ap (rewrite_into cmp f (drop (i + 1) (map view (take n xs)))) q
      ∙ ap (λ (l : List B). rewrite_into cmp f l done) (sym (view_next view n xs i d h))
      ∙ so_far

  -- all are
  pub rewrite_done : length (map view (take n xs)) ≤ i → done ≡ whole
  unfolding rewrite_into
  rewrite_done h = ap (λ (l : List B). rewrite_into cmp f l done) (sym (view_done view n xs i h)) ∙ so_far
