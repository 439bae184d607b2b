-- Laws of tables that are strictly sorted, over any type of entries and any order.
use mathlib.Core.Path.{◌≡◌, refl, sym, ap, ap₂, subst, ◌∙◌}
use mathlib.Core.Logic.{inl, inr}
use mathlib.Core.Bool.{Bool, true, false}
use mathlib.Core.List.Memᴰ
use mathlib.Core.List.{List, [], ◌∷◌, ◌++◌, map, append-nil, append_assoc, Memᴰ}
use mathlib.Core.Option.{Option, some, none}
use Prim.Native.Nat.{ℕ, suc, ◌+◌, ◌≤◌, ◌<◌}
use native.Mathlib.Omega.{arith}
use lib.ListN.{length}
use Rattle.ids.specs.declared.Ordering.{Ordering}
use Rattle.ids.specs.declared.Ordering.TheVariants.{Less, Equal, Greater}
use Rattle.ids.specs.Table.{present, placed, lookup_of, rewrite_into}
pub use Rattle.ids.specs.Sorted.{All, Sorted}

-- All entries of a list.

-- what holds of everything
pub all_of : {A : Type 0} {P : A → Type 0} → ((x : A) → P x) → (l : List A) → All P l
all_of f [] = tt
all_of f (x ∷ xs) = (f x, all_of f xs)

pub all_map : {A : Type 0} {P Q : A → Type 0} → ((x : A) → P x → Q x) → (l : List A) → All P l → All Q l
all_map f [] h = tt
all_map f (x ∷ xs) h = (f x h.0, all_map f xs h.1)

pub all_both : {A : Type 0} (P Q : A → Type 0) (l : List A) → All P l → All Q l → All (λ x. P x × Q x) l
all_both P Q [] h g = tt
all_both P Q (x ∷ xs) h g = ((h.0, g.0), all_both P Q xs h.1 g.1)

pub all_join : {A : Type 0} (P : A → Type 0) (k l : List A) → All P k → All P l → All P (k ++ l)
all_join P [] l h g = g
all_join P (x ∷ xs) l h g = (h.0, all_join P xs l h.1 g)

pub all_left : {A : Type 0} (P : A → Type 0) (k l : List A) → All P (k ++ l) → All P k
all_left P [] l h = tt
all_left P (x ∷ xs) l h = (h.0, all_left P xs l h.1)

pub all_right : {A : Type 0} (P : A → Type 0) (k l : List A) → All P (k ++ l) → All P l
all_right P [] l h = h
all_right P (x ∷ xs) l h = all_right P xs l h.1

pub all_image : {A B : Type 0} (P : B → Type 0) (f : A → B) (l : List A) → All (λ x. P (f x)) l → All P (map f l)
all_image P f [] h = tt
all_image P f (x ∷ xs) h = (h.0, all_image P f xs h.1)

pub all_at : {A : Type 0} (P : A → Type 0) (l : List A) → All P l → (x : A) → Memᴰ x l → P x
all_at P [] h x m = absurd (Memᴰ.not-nil m)
all_at P (y ∷ ys) h x m = elim (Memᴰ.cases_cons m) [ inl q ↦ rw q h.0 | inr k ↦ all_at P ys h.1 x k ]

pub all_from : {A : Type 0} (P : A → Type 0) (l : List A) → ((x : A) → Memᴰ x l → P x) → All P l
all_from P [] h = tt
all_from P (y ∷ ys) h = (h y (Memᴰ.head refl), all_from P ys (λ x m. h x (Memᴰ.tail m)))

-- Orders.

abbrev pub swapped : Ordering → Ordering
swapped Less = Greater
swapped Equal = Equal
swapped Greater = Less

pub record Ordered {A : Type 0} (cmp : A → A → Ordering) : Type 0 where
  pub self : (x : A) → cmp x x ≡ Equal
  pub flip : (x y : A) → cmp y x ≡ swapped (cmp x y)
  pub trans : (x y z : A) → cmp x y ≡ Less → cmp y z ≡ Less → cmp x z ≡ Less
  -- entries that are equal compare alike with every other
  pub alike : (x y z : A) → cmp x y ≡ Equal → cmp x z ≡ cmp y z

-- two different answers of one comparison

pub less_equal : {X : Type 0} {o : Ordering} → o ≡ Less → o ≡ Equal → X
less_equal p q = let z : ◌≡◌ {A = ℕ} 0 1 = cc in absurd (omega arith)

pub less_greater : {X : Type 0} {o : Ordering} → o ≡ Less → o ≡ Greater → X
less_greater p q = let z : ◌≡◌ {A = ℕ} 0 1 = cc in absurd (omega arith)

pub equal_greater : {X : Type 0} {o : Ordering} → o ≡ Equal → o ≡ Greater → X
equal_greater p q = let z : ◌≡◌ {A = ℕ} 0 1 = cc in absurd (omega arith)

-- a test that is true and false
pub no_test : {X : Type 0} {b : Bool} → b ≡ true → b ≡ false → X
no_test p q = let z : ◌≡◌ {A = ℕ} 0 1 = cc in absurd (omega arith)

module _ {A : Type 0} {cmp : A → A → Ordering} (o : Ordered cmp) where
  pub less_swap : (x y : A) → cmp y x ≡ Greater → cmp x y ≡ Less
  less_swap x y e = o.flip y x ∙ ap swapped e

  pub equal_swap : (x y : A) → cmp x y ≡ Equal → cmp y x ≡ Equal
  equal_swap x y e = o.flip x y ∙ ap swapped e

  -- alike, on the right
  pub alike_right : (x y z : A) → cmp x y ≡ Equal → cmp z x ≡ cmp z y
  alike_right x y z e = o.flip x z ∙ ap swapped (o.alike x y z e) ∙ sym (o.flip y z)

-- What is placed, of any list.

-- a step of a search past y, where it goes on with `rest`

abbrev placed_by : {A : Type 0} → Ordering → A → A → List A → List A → List A
placed_by o x y ys rest = elim o [ Less ↦ y ∷ rest | Equal ↦ y ∷ ys | Greater ↦ x ∷ y ∷ ys ]

abbrev present_by : Ordering → Bool → Bool
present_by o rest = elim o [ Less ↦ rest | Equal ↦ true | Greater ↦ false ]

abbrev lookup_by : {A : Type 0} → Ordering → A → Option A → Option A
lookup_by o y rest = elim o [ Less ↦ rest | Equal ↦ some y | Greater ↦ none ]

module _ {A : Type 0} (cmp : A → A → Ordering) (x : A) where
  pub placed_all : (P : A → Type 0) (l : List A) → P x → All P l → All P (placed cmp x l)
  unfolding placed
  placed_all P [] a h = (a, tt)
  placed_all P (y ∷ ys) a h = go (cmp y x) (placed_all P ys a h.1)
    where
      go : (o : Ordering) → All P (placed cmp x ys) → All P (placed_by o x y ys (placed cmp x ys))
      go Less k = (h.0, k)
      go Equal k = h
      go Greater k = (a, h)

  pub placed_rest : (P : A → Type 0) (l : List A) → All P (placed cmp x l) → All P l
  unfolding placed
  placed_rest P [] h = tt
  placed_rest P (y ∷ ys) h = go (cmp y x) (λ k. placed_rest P ys k) h
    where
      go : (o : Ordering) → (All P (placed cmp x ys) → All P ys)
          → All P (placed_by o x y ys (placed cmp x ys)) → All P (y ∷ ys)
      go Less f k = (k.0, f k.1)
      go Equal f k = k
      go Greater f k = k.1

  -- x itself, where it was absent
  pub placed_own : (P : A → Type 0) (l : List A) → present cmp x l ≡ false → All P (placed cmp x l) → P x
  unfolding placed present
  placed_own P [] e h = h.0
  placed_own P (y ∷ ys) e h = go (cmp y x) (λ e k. placed_own P ys e k) e h
    where
      go : (o : Ordering) → (present cmp x ys ≡ false → All P (placed cmp x ys) → P x)
          → present_by o (present cmp x ys) ≡ false
          → All P (placed_by o x y ys (placed cmp x ys)) → P x
      go Less f e k = f e k.1
      go Equal f e k = no_test refl e
      go Greater f e k = k.0

  -- what is there is not placed again
  pub placed_present : (l : List A) → present cmp x l ≡ true → placed cmp x l ≡ l
  unfolding placed present
  placed_present [] e = no_test e refl
  placed_present (y ∷ ys) e = go (cmp y x) (λ k. placed_present ys k) e
    where
      go : (o : Ordering) → (present cmp x ys ≡ true → placed cmp x ys ≡ ys)
          → present_by o (present cmp x ys) ≡ true
          → placed_by o x y ys (placed cmp x ys) ≡ y ∷ ys
      go Less f e = ap (λ (k : List A). y ∷ k) (f e)
      go Equal f e = refl
      go Greater f e = no_test e refl

  -- what is not is
  pub placed_absent : (l : List A) → present cmp x l ≡ false → length (placed cmp x l) ≡ suc (length l)
  unfolding placed present
  placed_absent [] e = refl
  placed_absent (y ∷ ys) e = go (cmp y x) (λ k. placed_absent ys k) e
    where
      go : (o : Ordering) → (present cmp x ys ≡ false → length (placed cmp x ys) ≡ suc (length ys))
          → present_by o (present cmp x ys) ≡ false
          → length (placed_by o x y ys (placed cmp x ys)) ≡ suc (suc (length ys))
      go Less f e = ap suc (f e)
      go Equal f e = no_test refl e
      go Greater f e = refl

  pub placed_length : (l : List A) → length (placed cmp x l) ≤ suc (length l)
  placed_length l = go (present cmp x l) refl
    where
      go : (b : Bool) → present cmp x l ≡ b → length (placed cmp x l) ≤ suc (length l)
      go true e = rw (placed_present l e) (omega arith)
      go false e = omega (arith, placed_absent l e)

  -- where all are smaller, x goes to the end
  pub placed_last : (l : List A) → All (λ y. cmp y x ≡ Less) l → placed cmp x l ≡ l ++ (x ∷ [])
  unfolding placed
  placed_last [] h = refl
  placed_last (y ∷ ys) h = rw (h.0, placed) (ap (λ (k : List A). y ∷ k) (placed_last ys h.1))

  pub placed_keeps : {y : A} (l : List A) → Memᴰ y l → Memᴰ y (placed cmp x l)
  placed_keeps {y} l m = all_at In l (placed_rest In l (all_from In (placed cmp x l) (λ z k. k))) y m
    where
      In : A → Type 0
      In z = Memᴰ z (placed cmp x l)

  -- what is looked up is an entry that is equal to x
  pub lookup_sound : {y : A} (l : List A) → lookup_of cmp x l ≡ some y → Memᴰ y l × (cmp y x ≡ Equal)
  unfolding lookup_of
  lookup_sound [] e = let z : ◌≡◌ {A = ℕ} 0 1 = cc in absurd (omega arith)
  lookup_sound {y} (z ∷ zs) e = go (cmp z x) refl (λ k. lookup_sound zs k) e
    where
      go : (o : Ordering) → cmp z x ≡ o → (lookup_of cmp x zs ≡ some y → Memᴰ y zs × (cmp y x ≡ Equal))
          → lookup_by o z (lookup_of cmp x zs) ≡ some y → Memᴰ y (z ∷ zs) × (cmp y x ≡ Equal)
      go Less q f e = let r = f e in (Memᴰ.tail r.0, r.1)
      go Equal q f e = let s : z ≡ y = cc in (Memᴰ.head (sym s), rw (sym s) q)
      go Greater q f e = let z : ◌≡◌ {A = ℕ} 0 1 = cc in absurd (omega arith)

  pub lookup_none : (l : List A) → lookup_of cmp x l ≡ none → present cmp x l ≡ false
  unfolding lookup_of present
  lookup_none [] e = refl
  lookup_none (y ∷ ys) e = go (cmp y x) (λ k. lookup_none ys k) e
    where
      go : (o : Ordering) → (lookup_of cmp x ys ≡ none → present cmp x ys ≡ false)
          → lookup_by o y (lookup_of cmp x ys) ≡ none
          → present_by o (present cmp x ys) ≡ false
      go Less f e = f e
      go Equal f e = let z : ◌≡◌ {A = ℕ} 0 1 = cc in absurd (omega arith)
      go Greater f e = refl

  pub present_some : (l : List A) → present cmp x l ≡ true → (y : A) × Memᴰ y l × (cmp y x ≡ Equal)
  unfolding present
  present_some [] e = no_test e refl
  present_some (z ∷ zs) e = go (cmp z x) refl (λ k. present_some zs k) e
    where
      go : (o : Ordering) → cmp z x ≡ o → (present cmp x zs ≡ true → (y : A) × Memᴰ y zs × (cmp y x ≡ Equal))
          → present_by o (present cmp x zs) ≡ true → (y : A) × Memᴰ y (z ∷ zs) × (cmp y x ≡ Equal)
      go Less q f e = let r = f e in (r.0, Memᴰ.tail r.1, r.2)
      go Equal q f e = (z, Memᴰ.head refl, q)
      go Greater q f e = no_test e refl

-- What is placed, of sorted lists.

module _ {A : Type 0} {cmp : A → A → Ordering} (o : Ordered cmp) (x : A) where
  pub placed_sorted : (l : List A) → Sorted cmp l → Sorted cmp (placed cmp x l)
  unfolding placed
  placed_sorted [] h = (tt, tt)
  placed_sorted (y ∷ ys) h = go (cmp y x) refl (placed_sorted ys h.1)
    where
      go : (t : Ordering) → cmp y x ≡ t → Sorted cmp (placed cmp x ys)
          → Sorted cmp (placed_by t x y ys (placed cmp x ys))
      go Less q s = (placed_all cmp x (λ z. cmp y z ≡ Less) ys q h.0, s)
      go Equal q s = h
      go Greater q s = let l : cmp x y ≡ Less = less_swap o x y q in ((l, all_map (λ z k. o.trans x y z l k) ys h.0), h)

  -- x is present afterwards, and what was there still is
  pub placed_there : (l : List A) → present cmp x (placed cmp x l) ≡ true
  unfolding placed present
  placed_there [] = rw (o.self x, present)
  placed_there (y ∷ ys) = go (cmp y x) refl (placed_there ys)
    where
      go : (t : Ordering) → cmp y x ≡ t → present cmp x (placed cmp x ys) ≡ true
          → present cmp x (placed_by t x y ys (placed cmp x ys)) ≡ true
      go Less q r = rw (q, present) r
      go Equal q r = rw (q, present)
      go Greater q r = rw (o.self x, present)

  -- an entry that is equal to x: x is present, and the entry is what is looked up
  pub present_if : (y : A) (l : List A) → Sorted cmp l → Memᴰ y l → cmp y x ≡ Equal → present cmp x l ≡ true
  unfolding present
  present_if y [] s m e = absurd (Memᴰ.not-nil m)
  present_if y (z ∷ zs) s m e = elim (Memᴰ.cases_cons m) [
    | inl q ↦ rw (ap (λ (k : A). cmp k x) (sym q) ∙ e, present)
    | inr k ↦
        let l : cmp z x ≡ Less = sym (alike_right o y x z e) ∙ all_at (λ v. cmp z v ≡ Less) zs s.0 y k in
        rw (l, present) (present_if y zs s.1 k e)
  ]

  pub lookup_if : (y : A) (l : List A) → Sorted cmp l → Memᴰ y l → cmp y x ≡ Equal → lookup_of cmp x l ≡ some y
  unfolding lookup_of
  lookup_if y [] s m e = absurd (Memᴰ.not-nil m)
  lookup_if y (z ∷ zs) s m e = elim (Memᴰ.cases_cons m) [
    | inl q ↦ rw (ap (λ (k : A). cmp k x) (sym q) ∙ e, lookup_of) (ap some (sym q))
    | inr k ↦
        let l : cmp z x ≡ Less = sym (alike_right o y x z e) ∙ all_at (λ v. cmp z v ≡ Less) zs s.0 y k in
        rw (l, lookup_of) (lookup_if y zs s.1 k e)
  ]

module _ {A : Type 0} {cmp : A → A → Ordering} (o : Ordered cmp) where
  pub present_kept : (x y : A) (l : List A) → Sorted cmp l → present cmp y l ≡ true → present cmp y (placed cmp x l) ≡ true
  present_kept x y l s e =
      let r = present_some cmp y l e in
      present_if o y r.0 (placed cmp x l) (placed_sorted o x l s) (placed_keeps cmp x l r.1) r.2

-- A list rewritten into a table.

module _ {A : Type 0} (cmp : A → A → Ordering) (f : A → A) where
  pub rewrite_all : (P : A → Type 0) (l done : List A) → All (λ x. P (f x)) l → All P done → All P (rewrite_into cmp f l done)
  unfolding rewrite_into
  rewrite_all P [] done h d = d
  rewrite_all P (x ∷ xs) done h d = rewrite_all P xs (placed cmp (f x) done) h.1 (placed_all cmp (f x) P done h.0 d)

  pub rewrite_length : (l done : List A) → length (rewrite_into cmp f l done) ≤ length l + length done
  unfolding rewrite_into
  rewrite_length [] done = omega arith
  rewrite_length (x ∷ xs) done = omega (arith, rewrite_length xs (placed cmp (f x) done), placed_length cmp (f x) done)

module _ {A : Type 0} {cmp : A → A → Ordering} (o : Ordered cmp) (f : A → A) where
  pub rewrite_sorted : (l done : List A) → Sorted cmp done → Sorted cmp (rewrite_into cmp f l done)
  unfolding rewrite_into
  rewrite_sorted [] done s = s
  rewrite_sorted (x ∷ xs) done s = rewrite_sorted xs (placed cmp (f x) done) (placed_sorted o (f x) done s)

  -- what an entry becomes is present, and what was there still is
  pub rewrite_kept : (y : A) (l done : List A) → Sorted cmp done → present cmp y done ≡ true → present cmp y (rewrite_into cmp f l done) ≡ true
  unfolding rewrite_into
  rewrite_kept y [] done s e = e
  rewrite_kept y (x ∷ xs) done s e = rewrite_kept y xs (placed cmp (f x) done) (placed_sorted o (f x) done s) (present_kept o (f x) y done s e)

  pub rewrite_there : {y : A} (l done : List A) → Sorted cmp done → Memᴰ y l → present cmp (f y) (rewrite_into cmp f l done) ≡ true
  unfolding rewrite_into
  rewrite_there [] done s m = absurd (Memᴰ.not-nil m)
  rewrite_there {y} (x ∷ xs) done s m = elim (Memᴰ.cases_cons m) [
    | inl q ↦ rewrite_kept (f y) xs (placed cmp (f x) done) (placed_sorted o (f x) done s) (rw q (placed_there o (f x) done))
    | inr k ↦ rewrite_there xs (placed cmp (f x) done) (placed_sorted o (f x) done s) k
  ]

-- Entries in order that are their own images: a rewriting leaves them as they are.

pub map_same : {A : Type 0} (f : A → A) (l : List A) → All (λ x. f x ≡ x) l → map f l ≡ l
map_same f [] h = refl
map_same f (x ∷ xs) h = ap₂ ◌∷◌ h.0 (map_same f xs h.1)

module _ {A : Type 0} (cmp : A → A → Ordering) (f : A → A) where
  sorted_before : (x : A) (done l : List A) → Sorted cmp (done ++ (x ∷ l)) → All (λ y. cmp y x ≡ Less) done
  sorted_before x [] l s = tt
  sorted_before x (y ∷ done) l s = ((all_right (λ z. cmp y z ≡ Less) done (x ∷ l) s.0).0, sorted_before x done l s.1)

  pub rewrite_same : (l done : List A) → map f l ≡ l → Sorted cmp (done ++ l) → rewrite_into cmp f l done ≡ done ++ l
  unfolding rewrite_into
  rewrite_same [] done e s = sym (append-nil done)
  rewrite_same (x ∷ xs) done e s =
      let head : f x ≡ x = cc in
      let tail : map f xs ≡ xs = cc in
      let end : placed cmp (f x) done ≡ done ++ (x ∷ []) = rw head (placed_last cmp x done (sorted_before x done xs s)) in
      ap (rewrite_into cmp f xs) end
      ∙ rewrite_same xs (done ++ (x ∷ [])) tail (subst (Sorted cmp) (sym (append_assoc done (x ∷ []) xs)) s)
      ∙ append_assoc done (x ∷ []) xs

-- Keys.

module _ {A : Type 0} (cmp : A → A → Ordering) where
  -- a function that leaves the order alone keeps a list sorted
  pub sorted_image : (f : A → A) → ((x y : A) → cmp (f x) (f y) ≡ cmp x y) → (l : List A) → Sorted cmp l → Sorted cmp (map f l)
  sorted_image f h [] s = tt
  sorted_image f h (x ∷ xs) s = (all_image (λ y. cmp (f x) y ≡ Less) f xs (all_map (λ y e. h x y ∙ e) xs s.0), sorted_image f h xs s.1)

  module _ (key : A → ℕ) (below : (x y : A) → cmp x y ≡ Less → key x < key y) where
    few_from : (m n : ℕ) (l : List A) → m ≤ n → Sorted cmp l → All (λ x. m ≤ key x) l → All (λ x. key x < n) l → m + length l ≤ n
    few_from m n [] p s lo hi = omega arith
    few_from m n (x ∷ xs) p s lo hi =
        omega (arith, few_from (suc (key x)) n xs hi.0 s.1 (all_map (λ y e. below x y e) xs s.0) hi.1, lo.0)

    -- a sorted list whose keys are numbers below n has at most n entries
    pub keys_few : (n : ℕ) (l : List A) → Sorted cmp l → All (λ x. key x < n) l → length l ≤ n
    keys_few n l s hi = omega (arith, few_from 0 n l (omega arith) s (all_map (λ x e. omega arith) l hi) hi)
