-- A row more among the first n of an array, over any type of rows: those from an index on are moved up by one.
use mathlib.Core.Path.{◌≡◌, refl, sym, ap, ◌∙◌}
use mathlib.Core.List.{List, [], ◌∷◌, ◌++◌, map, append_assoc}
use Prim.Native.Nat.{ℕ, suc, ◌+◌, ◌-◌, ◌≤◌, ◌<◌}
use native.Mathlib.Omega.{arith}
use lib.ListN.{length, take, drop, set, length-set, length-drop, drop_of_length-le}
use lib.Seq.{drop-set-lt, take-set-lt, set-append_left, set_split, take-take, length-take-le, take-paste, drop-paste, length-paste}
use Rattle.ids.specs.declared.Ordering.{Ordering}
use Rattle.ids.specs.declared.Place.{Place}
use Rattle.ids.specs.declared.Place.TheVariants.{Before, At}
use Rattle.ids.specs.Table.{position_from}
use Rattle.ids.proofs.Views.{length_view, view_placed}
use Rattle.std.specs.List.{copy_within}
use Rattle.std.proofs.lemmas.List.{drop-take}
use Rattle.ids.proofs.Sorted.{placed_present}
use Rattle.ids.proofs.Tables.{at_present, before_spot}
use Rattle.rows.specs.Table.{RowPlaced, Inserted}

-- The rows from an index on are copied one place higher, and the new row is stored.
module _ {A : Type 0} (xs : List A) (n at : ℕ) (x : A) (h : at ≤ n) (room : n < length xs) where
  abbrev pub copied : List A
  copied = copy_within xs at n (at + 1)

  end : at + 1 + (n - at) ≡ n + 1
  end = omega arith

  many : n - at ≤ length (drop at xs)
  many = omega (arith, length-drop at xs)

  -- those before the index, and the new one
  front : set (take (at + 1) xs) at x ≡ take at xs ++ x ∷ []
  front =
      let short : length (take (at + 1) xs) ≡ at + 1 = length-take-le (at + 1) xs (omega arith) in
      let none : drop (suc at) (take (at + 1) xs) ≡ [] = drop_of_length-le (take (at + 1) xs) {i = suc at} (omega (arith, short)) in
      let same : take at (take (at + 1) xs) ≡ take at xs = take-take at (at + 1) xs (omega arith) in
      set_split (take (at + 1) xs) at x (omega (arith, short)) ∙ rw (none, same) refl

  used : take (n + 1) (set copied at x) ≡ take at xs ++ x ∷ drop at (take n xs)
  used =
      let whole : at + (n - at) ≡ n = omega arith in
      let moved : take (n - at) (drop at xs) ≡ drop at (take n xs) = sym (rw whole at (drop-take at (n - at) xs)) in
      take-set-lt (n + 1) copied at x (omega arith)
      ∙ ap (λ (l : List A). set l at x) (ap (λ (m : ℕ). take m copied) (sym end) ∙ take-paste xs (at + 1) (drop at xs) (n - at) (omega arith) many)
      ∙ set-append_left (take (at + 1) xs) (take (n - at) (drop at xs)) at x (omega (arith, length-take-le (at + 1) xs (omega arith)))
      ∙ (λ k. front k ++ moved k) ∙ append_assoc (take at xs) (x ∷ []) (drop at (take n xs))

  pub row_placed : RowPlaced n at x xs (set copied at x)
  row_placed = record {
    is = used;
    rest = drop-set-lt (n + 1) copied at x (omega arith) ∙ ap (λ (m : ℕ). drop m copied) (sym end) ∙ drop-paste xs (at + 1) (drop at xs) (n - at) (omega arith) many ∙ ap (λ (m : ℕ). drop m xs) end;
    long = length-set copied at x ∙ length-paste xs (at + 1) (drop at xs) (n - at) (omega arith) many;
  }

-- An entry inserted where it was found to stand, or to go.
module _ {A B : Type 0} (cmp : B → B → Ordering) (view : A → B) (x : B) (n : ℕ) (rows : List A) (room : n < length rows) {p : Place}
    (found : p ≡ position_from cmp x 0 (map view (take n rows))) {at : ℕ} where
  -- it is there
  pub inserted_at : p ≡ At at → Inserted cmp view x n rows rows n
  inserted_at e = record {
    is = sym (placed_present cmp x (map view (take n rows)) (at_present cmp x at (map view (take n rows)) (sym found ∙ e)));
    most = omega arith;
    rest = refl;
    long = refl;
  }

  module _ (e : p ≡ Before at) where
    pub place_within : at ≤ n
    place_within = omega (arith, (before_spot cmp x at (map view (take n rows)) (sym found ∙ e)).1.0, length_view view n rows)

    -- it is not
    pub inserted_before : {row : A} {after : List A} → view row ≡ x → RowPlaced n at row rows after → Inserted cmp view x n rows after (n + 1)
    inserted_before {row} {after} v put = record {
      is =
          view_placed view n rows after row n at (n + 1) (omega (arith, length_view view n rows)) place_within refl put.is
          ∙ rw v (sym (before_spot cmp x at (map view (take n rows)) (sym found ∙ e)).1.1);
      most = omega arith;
      rest = put.rest;
      long = put.long;
    }
