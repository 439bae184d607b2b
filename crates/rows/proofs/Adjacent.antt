-- Rows of which each is smaller than the next are in order, over any type of rows and any order.
use mathlib.Core.Path.{◌≡◌}
use mathlib.Core.Bool.{true}
use mathlib.Core.List.{List, [], ◌∷◌, map}
use Prim.Native.Nat.{ℕ, suc, ◌<◌, zero-le, suc-le-suc}
use lib.ListN.{length, get_or}
use Rattle.ids.specs.declared.Ordering.{Ordering}
use Rattle.ids.specs.declared.Ordering.TheVariants.{Less}
use Rattle.ids.specs.Sorted.{Sorted}
use Rattle.ids.proofs.Sorted.{Ordered, all_map}
use Rattle.rows.specs.Table.{is_less}
use Rattle.rows.proofs.Halving.{less_told}

module _ {A B : Type 0} {cmp : B → B → Ordering} (o : Ordered cmp) (view : A → B) where
  pub adjacent_sorted : (ys : List A) → ((k : ℕ) (d : A) → suc k < length ys → is_less (cmp (view (get_or ys k d)) (view (get_or ys (suc k) d))) ≡ true) → Sorted cmp (map view ys)
  adjacent_sorted [] h = tt
  adjacent_sorted (y ∷ []) h = (tt, tt)
  adjacent_sorted (y ∷ z ∷ ys) h =
      let less : cmp (view y) (view z) ≡ Less = less_told _ (h 0 y (suc-le-suc (suc-le-suc zero-le))) in
      let rest = adjacent_sorted (z ∷ ys) (λ k d q. h (suc k) d (suc-le-suc q)) in
      ((less, all_map (λ x e. o.trans (view y) (view z) x less e) (map view ys) rest.0), rest)
