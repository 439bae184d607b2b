-- Tables that are lent: an array of which the first n rows are in use, over any type of rows. What a row says is its view.
use Rattle.std.specs.Prelude.{ℕ, ◌+◌, ◌≤◌, ◌≡◌, Bool, true, false, List, [], ◌∷◌, ◌++◌, map, length, take, drop}
use Rattle.ids.specs.declared.Ordering.{Ordering}
use Rattle.ids.specs.declared.Ordering.TheVariants.{Less, Equal, Greater}
use Rattle.ids.specs.Table.{placed, rewrite_into}

unfoldable pub is_less : Ordering → Bool
is_less o = elim o [ Less ↦ true | Equal ↦ false | Greater ↦ false ]

-- a row more at an index among the first n; those past them are as they were
pub record RowPlaced {A : Type 0} (n at : ℕ) (x : A) (before after : List A) : Type 0 where
  pub is : take (n + 1) after ≡ take at before ++ x ∷ drop at (take n before)
  pub rest : drop (n + 1) after ≡ drop (n + 1) before
  pub long : length after ≡ length before

module _ {A B : Type 0} (cmp : B → B → Ordering) (view : A → B) where
  -- an entry inserted among the first n rows: r are there then, and those past them are as they were
  pub record Inserted (x : B) (n : ℕ) (before after : List A) (r : ℕ) : Type 0 where
    pub is : map view (take r after) ≡ placed cmp x (map view (take n before))
    pub most : r ≤ n + 1
    pub rest : drop (n + 1) after ≡ drop (n + 1) before
    pub long : length after ≡ length before

  -- the first n rows rewritten by f, in place: r are there then
  pub record InPlaceRewritten (f : B → B) (n : ℕ) (before after : List A) (r : ℕ) : Type 0 where
    pub is : map view (take r after) ≡ rewrite_into cmp f (map view (take n before)) []
    pub most : r ≤ n
    pub long : length after ≡ length before

-- the first r rows hold the entries of a table that has at most so many
pub record InRows {A B : Type 0} (view : A → B) (entries : List B) (limit : ℕ) (rows : List A) (r : ℕ) : Type 0 where
  pub is : map view (take r rows) ≡ entries
  pub most : r ≤ limit
  pub long : length rows ≡ limit
