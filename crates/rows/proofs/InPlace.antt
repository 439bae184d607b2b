-- A table that is rewritten in place, over any type of rows and any order: the rows that are done stand before those that are to come.
use mathlib.Core.Path.{◌≡◌, refl, sym, ap, ◌∙◌}
use mathlib.Core.List.{List, map}
use Prim.Native.Nat.{ℕ, ◌+◌, ◌-◌, ◌≤◌, ◌<◌}
use native.Mathlib.Omega.{arith}
use lib.ListN.{length, take, drop, get_or}
use lib.Seq.{get_or-drop, drop-drop}
use Rattle.ids.specs.declared.Ordering.{Ordering}
use Rattle.ids.specs.Table.{Sized}
use Rattle.ids.specs.Sorted.{Sorted}
use Rattle.ids.proofs.Views.{length_view}
use Rattle.ids.proofs.Sorted.{Ordered, placed_sorted}
use Rattle.ids.proofs.Appending.{AppendTurn, turned_none, turned_placed, turned_all}
use Rattle.rows.specs.Table.{Inserted, InPlaceRewritten}

module _ {A : Type 0} where
  -- an entry from an index on, of two arrays that are the same from there
  pub get_d_rest : (xs ys : List A) (i : ℕ) (d : A) → drop i xs ≡ drop i ys → get_or xs i d ≡ get_or ys i d
  get_d_rest xs ys i d e =
      let here : i + 0 ≡ i = omega arith in
      ap (λ (k : ℕ). get_or xs k d) (sym here) ∙ sym (get_or-drop i xs 0 d) ∙ ap (λ (l : List A). get_or l 0 d) e ∙ get_or-drop i ys 0 d
      ∙ ap (λ (k : ℕ). get_or ys k d) here

  -- two arrays that are the same from an index on are so from a later one
  pub drop_later : (xs ys : List A) (k i : ℕ) → k ≤ i → drop k xs ≡ drop k ys → drop i xs ≡ drop i ys
  drop_later xs ys k i h e =
      let far : k + (i - k) ≡ i = omega arith in
      ap (λ (m : ℕ). drop m xs) (sym far) ∙ sym (drop-drop (i - k) k xs) ∙ ap (drop (i - k)) e ∙ drop-drop (i - k) k ys
      ∙ ap (λ (m : ℕ). drop m ys) far

-- the first i of n rows of `before` are rewritten by f, into the first k of `now`
pub record InPlace {A B : Type 0} (cmp : B → B → Ordering) (view : A → B) (f : B → B) (n : ℕ) (before now : List A) (i k : ℕ) : Type 0 where
  pub done : AppendTurn cmp f (map view (take n before)) i (map view (take k now))
  pub few : k ≤ i
  pub rest : drop i now ≡ drop i before
  pub long : length now ≡ length before

module _ {A B : Type 0} {cmp : B → B → Ordering} (o : Ordered cmp) (view : A → B) (f : B → B) (n : ℕ) (before : List A) where
  -- none is
  pub in_place_none : InPlace cmp view f n before before 0 0
  in_place_none = record { done = turned_none cmp f (map view (take n before)) refl; few = omega arith; rest = refl; long = refl }

  module _ (there : n ≤ length before) {now : List A} {i k : ℕ} (so_far : InPlace cmp view f n before now i k) where
    sized : Sized (map view (take n before)) n n
    sized = record { is = omega (arith, length_view view n before); most = omega arith }

    -- there is room for another
    pub in_place_room : i < n → k < length now
    in_place_room h = omega (arith, so_far.few, so_far.long)

    -- those that are done are in order
    pub in_place_sorted : Sorted cmp (map view (take k now))
    in_place_sorted = so_far.done.sorted

    -- the next is still as it was
    pub in_place_read : (d : A) → i < n → get_or now i d ≡ get_or before i d
    in_place_read d h = get_d_rest now before i d so_far.rest

    -- the next is rewritten and inserted
    pub in_place_next : (d : A) {x : B} {after : List A} {r : ℕ} → i < n → x ≡ f (view (get_or now i d)) → Inserted cmp view x k now after r
        → InPlace cmp view f n before after (i + 1) r
    in_place_next d {x} {after} h is put = record {
      done = turned_placed o view n before sized so_far.done d h (is ∙ ap (λ (a : A). f (view a)) (in_place_read d h)) put.is;
      few = omega (arith, so_far.few, put.most);
      rest = drop_later after now (k + 1) (i + 1) (omega (arith, so_far.few)) put.rest ∙ drop_later now before i (i + 1) (omega arith) so_far.rest;
      long = put.long ∙ so_far.long;
    }

    -- all are
    pub in_place_done : n ≤ i → i ≤ n → InPlaceRewritten cmp view f n before now k
    in_place_done h g = record {
      is = turned_all o view n before sized so_far.done h;
      most = omega (arith, so_far.few);
      long = so_far.long;
    }

-- the same without what f does: k rows in order are done, of the first i, and those from i on are as they were
pub record Going {A B : Type 0} (cmp : B → B → Ordering) (view : A → B) (before now : List A) (i k : ℕ) : Type 0 where
  pub few : k ≤ i
  pub sorted : Sorted cmp (map view (take k now))
  pub rest : drop i now ≡ drop i before
  pub long : length now ≡ length before

module _ {A B : Type 0} {cmp : B → B → Ordering} (o : Ordered cmp) (view : A → B) (before : List A) where
  pub going_none : Going cmp view before before 0 0
  going_none = record { few = omega arith; sorted = tt; rest = refl; long = refl }

  -- one more is done, and x inserted
  pub going_next : {now after : List A} {i k r : ℕ} {x : B} → Going cmp view before now i k → Inserted cmp view x k now after r
      → Going cmp view before after (i + 1) r
  going_next {now} {after} {i} {k} {r} {x} so_far put = record {
    few = omega (arith, so_far.few, put.most);
    sorted = rw put.is (placed_sorted o x (map view (take k now)) so_far.sorted);
    rest = drop_later after now (k + 1) (i + 1) (omega (arith, so_far.few)) put.rest ∙ drop_later now before i (i + 1) (omega arith) so_far.rest;
    long = put.long ∙ so_far.long;
  }
