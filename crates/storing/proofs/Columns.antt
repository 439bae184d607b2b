-- The entries of a table, as far as its length says, and their rows.
use mathlib.Core.Path.{◌≡◌, refl, sym, ap, ◌∙◌}
use mathlib.Core.List.{List, map, map-map}
use Prim.Native.Nat.{ℕ}
use native.Mathlib.Omega.{arith}
use lib.ListN.{take, length-map, length-take}
use Rattle.ids.specs.Table.{Sized}
use Rattle.ids.proofs.Views.{take_same}
use Rattle.file.specs.Layout.{by_columns}
use Rattle.storing.specs.View.{Written}
use Rattle.storing.proofs.Writing.{written_as}

module _ {A E : Type 0} (of : A → E) {limit n : ℕ} (len : ℕ) (items : List A) (size : Sized (map of (take len items)) limit n) where
  pub entries_taken : take n items ≡ take len items
  entries_taken = take_same n len items (omega (arith, size.is, length-map (take len items) of, length-take len items))

  pub table_written : (row : E → List ℕ) (k : ℕ) {before : List ℕ} {at : ℕ} {after : List ℕ} {r : ℕ}
      → Written before at (by_columns k (map (λ (x : A). row (of x)) (take n items))) after r
      → Written before at (by_columns k (map row (map of (take len items)))) after r
  table_written row k w =
      written_as w (ap (by_columns k) (ap (map (λ (x : A). row (of x))) entries_taken ∙ sym (map-map row of (take len items)))) refl
