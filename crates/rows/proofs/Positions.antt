-- What the position of an entry in a sorted list says of the entries before it and of those from there on, over any order; and of the row that
-- stands there.
use mathlib.Core.Path.{◌≡◌, refl, sym, ap, ◌∙◌}
use mathlib.Core.Bool.{false}
use mathlib.Core.List.{List, [], ◌∷◌, map}
use mathlib.Core.Option.{some}
use Prim.Native.Nat.{ℕ, suc, ◌+◌, ◌≤◌, ◌<◌, zero-le, suc-le-suc}
use native.Mathlib.Omega.{arith}
use native.Mathlib.Nat.{add-zero, zero-add, add-suc, suc-add}
use lib.ListN.{length, take, drop, get_or}
use Rattle.ids.specs.declared.Ordering.{Ordering}
use Rattle.ids.specs.declared.Ordering.TheVariants.{Less, Equal, Greater}
use Rattle.ids.specs.declared.Place.{Place}
use Rattle.ids.specs.declared.Place.TheVariants.{Before, At}
use Rattle.ids.specs.Table.{position_from, lookup_of}
use Rattle.ids.specs.Sorted.{All, Sorted}
use Rattle.ids.proofs.Sorted.{Ordered, no_test, all_map}
use Rattle.ids.proofs.Tables.{at_entry}
use Rattle.ids.proofs.Views.{length_view, view_at}
use Rattle.rows.specs.Table.{is_less}

abbrev pub index_of : Place → ℕ
index_of (At k) = k
index_of (Before k) = k

-- a list whose first entry has the index i, parted at the index k: smaller entries, and others
pub record Parted {A : Type 0} (cmp : A → A → Ordering) (x : A) (i : ℕ) (ys : List A) (k : ℕ) : Type 0 where
  pub off : ℕ
  pub at : k ≡ i + off
  pub within : off ≤ length ys
  pub smaller : All (λ y. cmp y x ≡ Less) (take off ys)
  pub rest : All (λ y. is_less (cmp y x) ≡ false) (drop off ys)

module _ {A : Type 0} {cmp : A → A → Ordering} (o : Ordered cmp) (x : A) where
  -- an entry past one that is not smaller
  later : (y z : A) → is_less (cmp y x) ≡ false → cmp y z ≡ Less → is_less (cmp z x) ≡ false
  unfolding is_less
  later y z h less = go (cmp z x) refl
    where
      go : (t : Ordering) → cmp z x ≡ t → is_less t ≡ false
      go Less e = no_test (ap is_less (o.trans y z x less e)) h
      go Equal e = refl
      go Greater e = refl

  here : (i : ℕ) (y : A) (ys : List A) → Sorted cmp (y ∷ ys) → is_less (cmp y x) ≡ false → Parted cmp x i (y ∷ ys) i
  here i y ys s h = record {
    off = 0;
    at = sym (add-zero i);
    within = zero-le;
    smaller = tt;
    rest = (h, all_map (λ z less. later y z h less) ys s.0);
  }

  step : (i : ℕ) (y : A) (ys : List A) (r : Place) (t : Ordering) → cmp y x ≡ t → Sorted cmp (y ∷ ys) → Parted cmp x (suc i) ys (index_of r)
      → Parted cmp x i (y ∷ ys) (index_of (elim t [ Less ↦ r | Equal ↦ At i | Greater ↦ Before i ]))
  unfolding is_less
  step i y ys r Less e s p = record {
    off = suc p.off;
    at = p.at ∙ suc-add i p.off ∙ sym (add-suc i p.off);
    within = suc-le-suc p.within;
    smaller = (e, p.smaller);
    rest = p.rest;
  }
  step i y ys r Equal e s p = here i y ys s (ap is_less e)
  step i y ys r Greater e s p = here i y ys s (ap is_less e)

  parted_from : (i : ℕ) (ys : List A) → Sorted cmp ys → Parted cmp x i ys (index_of (position_from cmp x i ys))
  unfolding position_from
  parted_from i [] s = record { off = 0; at = sym (add-zero i); within = zero-le; smaller = tt; rest = tt }
  parted_from i (y ∷ ys) s = step i y ys (position_from cmp x (suc i) ys) (cmp y x) refl s (parted_from (suc i) ys s.1)

  -- the entries before the position are smaller, those from there on are not
  pub parted : (ys : List A) (p : Place) → Sorted cmp ys → p ≡ position_from cmp x 0 ys
      → (index_of p ≤ length ys) × (All (λ y. cmp y x ≡ Less) (take (index_of p) ys) × All (λ y. is_less (cmp y x) ≡ false) (drop (index_of p) ys))
  parted ys p s e =
      let q = parted_from 0 ys s in
      let k : index_of p ≡ q.off = ap index_of e ∙ q.at ∙ zero-add q.off in
      rw k (q.within, (q.smaller, q.rest))

-- the row that stands at the position of x among the first n
module _ {A B : Type 0} (cmp : B → B → Ordering) (view : A → B) (x : B) (n : ℕ) (rows : List A) (d : A) {at : ℕ}
    (e : position_from cmp x 0 (map view (take n rows)) ≡ At at) where
  pub row_within : at < n
  row_within = omega (arith, length_view view n rows, (at_entry cmp x (view d) at (map view (take n rows)) e).0)

  pub row_found : {y : B} → y ≡ view (get_or rows at d) → lookup_of cmp x (map view (take n rows)) ≡ some y
  row_found is =
      let there = at_entry cmp x (view d) at (map view (take n rows)) e in
      there.1 ∙ ap some (view_at view n rows at d there.0 ∙ sym is)
