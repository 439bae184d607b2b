-- Laws of entries that are rewritten into a sorted table: an entry that is greater than the last goes to the end.
use mathlib.Core.Path.{◌≡◌, refl, ap, ◌∙◌}
use mathlib.Core.List.{List, [], ◌∷◌, map}
use mathlib.Core.Option.{none}
use Prim.Native.Nat.{ℕ, ◌+◌, ◌-◌, ◌≤◌, ◌<◌}
use native.Mathlib.Omega.{arith}
use lib.ListN.{length, take, drop, get_or}
use Rattle.ids.specs.declared.Ordering.{Ordering}
use Rattle.ids.specs.declared.Ordering.TheVariants.{Less}
use Rattle.ids.specs.Table.{Sized, placed, lookup_of, rewrite_into}
use Rattle.ids.proofs.Sorted.{All, Sorted, Ordered, placed_length, placed_sorted}
use Rattle.ids.proofs.Tables.{rewrite_next, rewrite_done}

-- where all entries are smaller, x is not found
pub lookup_past : {A : Type 0} (cmp : A → A → Ordering) (x : A) (l : List A) → All (λ y. cmp y x ≡ Less) l → lookup_of cmp x l ≡ none
unfolding lookup_of
lookup_past cmp x [] h = refl
lookup_past cmp x (y ∷ ys) h = rw (h.0, lookup_of) (lookup_past cmp x ys h.1)

module _ {A : Type 0} {cmp : A → A → Ordering} (o : Ordered cmp) (x d : A) where
  below_last : (y : A) (ys : List A) → Sorted cmp (y ∷ ys) → cmp (get_or (y ∷ ys) (length ys) d) x ≡ Less → All (λ z. cmp z x ≡ Less) (y ∷ ys)
  below_last y [] s h = (h, tt)
  below_last y (z ∷ zs) s h = let r = below_last z zs s.1 h in (o.trans y z x s.0.0 r.0, r)

  -- in a sorted list all are smaller where the last is
  pub all_below : (l : List A) → Sorted cmp l → (0 < length l → cmp (get_or l (length l - 1) d) x ≡ Less) → All (λ z. cmp z x ≡ Less) l
  all_below [] s h = tt
  all_below (y ∷ ys) s h =
      let same : length ys ≡ length (y ∷ ys) - 1 = omega arith in
      below_last y ys s (ap (λ (k : ℕ). cmp (get_or (y ∷ ys) k d) x) same ∙ h (omega arith))

-- The first i entries of a table are rewritten, into `done`.
pub record AppendTurn {B : Type 0} (cmp : B → B → Ordering) (f : B → B) (whole : List B) (i : ℕ) (done : List B) : Type 0 where
  pub few : length done ≤ i
  pub sorted : Sorted cmp done
  pub rest : rewrite_into cmp f (drop i whole) done ≡ rewrite_into cmp f whole []

pub turned_none : {B : Type 0} (cmp : B → B → Ordering) (f : B → B) (whole : List B) {done : List B} → done ≡ [] → AppendTurn cmp f whole 0 done
turned_none {B} cmp f whole e = record {
  few = omega (arith, ap (length {A = B}) e);
  sorted = rw e tt;
  rest = ap (rewrite_into cmp f whole) e;
}

module _ {A B : Type 0} {cmp : B → B → Ordering} {f : B → B} (o : Ordered cmp) (view : A → B) (n : ℕ) (xs : List A) {cap size i : ℕ} {done : List B}
    (sized : Sized (map view (take n xs)) cap size) (now : AppendTurn cmp f (map view (take n xs)) i done) where
  -- the entry i is rewritten and placed
  pub turned_placed : (d : A) {x : B} {next : List B} → i < size → x ≡ f (view (get_or xs i d)) → next ≡ placed cmp x done
      → AppendTurn cmp f (map view (take n xs)) (i + 1) next
  turned_placed d {x} {next} h is put = record {
    few = omega (arith, now.few, ap (length {A = B}) put, placed_length cmp x done);
    sorted = rw put (placed_sorted o x done now.sorted);
    rest =
        rewrite_next cmp f view n xs i done now.rest d next (omega (arith, sized.is)) (put ∙ ap (λ (y : B). placed cmp y done) is);
  }

  -- all are
  pub turned_all : size ≤ i → done ≡ rewrite_into cmp f (map view (take n xs)) []
  turned_all h = rewrite_done cmp f view n xs i done now.rest (omega (arith, sized.is))
