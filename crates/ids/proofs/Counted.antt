-- Laws of tables that are arrays with a count, over any type of entries: each table of the code cites them.
use mathlib.Core.Path.{◌≡◌, sym, ap, ◌∙◌}
use mathlib.Core.Bool.{Bool, true, false, ◌||◌}
use mathlib.Core.List.{List, [], ◌∷◌, ◌++◌, map}
use Prim.Native.Nat.{ℕ, ◌+◌, ◌≤◌, ◌<◌}
use native.Mathlib.Omega.{arith}
use lib.ListN.{length, take, drop, get_or, set, get_or-eq_default, length-append, length-take, length-drop, length-set}
use lib.Dec.{leb}
use borrow.Author.Tests.{le-leb, lt-leb, lt-ltb, le-ltb}
use Rattle.ids.specs.Table.{Sized, push_of, len_of}
use Rattle.ids.proofs.Views.{length_view, view_at, view_pushed, view_next, view_done}
use Rattle.ids.proofs.Tables.{push_room, push_full}

-- The length that a table says after a change; it said `len` before.
module _ {B : Type 0} (len : ℕ) (before : List B) where
  pub len_kept : len ≡ len_of len before before
  unfolding len_of
  len_kept = sym (rw (le-ltb (length before) (length before) (omega arith), len_of))

  module _ {n : ℕ} (many : n ≡ length before) where
    pub len_grown : (after : List B) → length after ≡ n + 1 → n + 1 ≡ len_of len before after
    unfolding len_of
    len_grown after h = sym (rw (lt-ltb (length before) (length after) (omega arith), len_of) h)

    -- x was put at an index
    pub len_placed : (after : List B) (x : B) (at : ℕ) → at ≤ n → after ≡ take at before ++ x ∷ drop at before → n + 1 ≡ len_of len before after
    len_placed after x at h e =
        let more : length (take at before ++ x ∷ drop at before) ≡ n + 1 =
        simp length-append (omega (arith, length-take at before, length-drop at before)) in
        len_grown after (ap length e ∙ more)

-- A table over an array xs, of which n entries are in use; n may say more than there are.
module _ {A B : Type 0} (f : A → B) (n : ℕ) (xs : List A) where
  module _ (limit : ℕ) (long : length xs ≡ limit) where
    pub size_below : n < limit → Sized (map f (take n xs)) limit n
    size_below h = record { is = omega (arith, length_view f n xs); most = omega arith }

    pub size_over : limit ≤ n → Sized (map f (take n xs)) limit limit
    size_over h = record { is = omega (arith, length_view f n xs); most = omega arith }

  module _ {limit size : ℕ} (sized : Sized (map f (take n xs)) limit size) where
    -- an entry, and what stands for one that is not there
    pub get_at : (i : ℕ) (d : A) → i < size → f (get_or xs i d) ≡ get_or (map f (take n xs)) i (f d)
    get_at i d h = sym (view_at f n xs i d (omega (arith, sized.is)))

    pub get_past : (i : ℕ) (d : B) → size ≤ i → d ≡ get_or (map f (take n xs)) i d
    get_past i d h = sym (get_or-eq_default (map f (take n xs)) d (omega (arith, sized.is)))

    -- one more entry, and none where there is no room
    pub push_at : (x : A) → length xs ≡ limit → size < limit
        → map f (take (size + 1) (set xs size x)) ≡ push_of limit (map f (take n xs)) (f x)
    push_at x long h =
        let all : size ≡ n = omega (arith, sized.is, length_view f n xs) in
        let room : length (map f (take n xs)) < limit = omega (arith, sized.is) in
        rw all (view_pushed f n xs x (omega arith)) ∙ sym (push_room limit _ (f x) room)

    pub push_past : (y : B) → limit ≤ size → map f (take n xs) ≡ push_of limit (map f (take n xs)) y
    push_past y h = sym (push_full limit _ y (omega (arith, sized.is)))

    -- the same with the length that the table then says
    pub counted_at : (x : A) → length xs ≡ limit → size < limit
        → (map f (take (size + 1) (set xs size x)) ≡ push_of limit (map f (take n xs)) (f x))
        × (size + 1 ≡ len_of n (map f (take n xs)) (map f (take (size + 1) (set xs size x))))
    counted_at x long h =
        let more : length (map f (take (size + 1) (set xs size x))) ≡ size + 1 = omega (arith, length_view f (size + 1) (set xs size x), length-set xs size x) in
        (push_at x long h, len_grown n _ sized.is _ more)

    pub counted_past : (y : B) → limit ≤ size
        → (map f (take n xs) ≡ push_of limit (map f (take n xs)) y) × (n ≡ len_of n (map f (take n xs)) (map f (take n xs)))
    counted_past y h = (push_past y h, len_kept n _)

-- The room of a table.
module _ {B : Type 0} {ys : List B} {limit size : ℕ} (sized : Sized ys limit size) where
  pub full : limit ≤ size → leb limit (length ys) ≡ true
  full h = le-leb limit (length ys) (omega (arith, sized.is))

  pub room : size < limit → leb limit (length ys) ≡ false
  room h = lt-leb limit (length ys) (omega (arith, sized.is))

-- A search for an entry of which p holds; `any` is a definition that says whether a list has one.
pub record Search {B : Type 0} (p : B → Bool) (any : List B → Bool) : Type 0 where
  pub none : any [] ≡ false
  pub more : (y : B) (ys : List B) → any (y ∷ ys) ≡ (p y || any ys)

-- what is searched for: a model of a type, a model that names a function, a morphism application function, a pair of types

-- A search through a table that has come to the entry i.
module _ {A B : Type 0} {p : B → Bool} {any : List B → Bool} (s : Search p any) (f : A → B) (n : ℕ) (xs : List A)
    {limit size : ℕ} (sized : Sized (map f (take n xs)) limit size)
    (i : ℕ) (so_far : any (drop i (map f (take n xs))) ≡ any (map f (take n xs))) where
  module _ (d : A) (h : i < size) where
    turn : (p (f (get_or xs i d)) || any (drop (i + 1) (map f (take n xs)))) ≡ any (map f (take n xs))
    turn = sym (s.more _ _) ∙ ap any (sym (view_next f n xs i d (omega (arith, sized.is)))) ∙ so_far

    pub found : p (f (get_or xs i d)) ≡ true → true ≡ any (map f (take n xs))
    found e = rw e at turn

    pub passed : p (f (get_or xs i d)) ≡ false → any (drop (i + 1) (map f (take n xs))) ≡ any (map f (take n xs))
    passed e = rw e at turn

  pub ended : size ≤ i → false ≡ any (map f (take n xs))
  ended h = sym s.none ∙ ap any (sym (view_done f n xs i (omega (arith, sized.is)))) ∙ so_far
