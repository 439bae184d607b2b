-- Laws of what is read out of a file: words, counts, the numbers and lists of a row, arrays that are filled.
use mathlib.Core.Path.{◌≡◌, refl, sym, ap, subst, ◌∙◌}
use mathlib.Core.Logic.{⊎_elim}
use mathlib.Core.Bool.{Bool, true, false, ◌||◌}
use mathlib.Core.List.{List, [], ◌∷◌, ◌++◌, map, map-append, map-map, map-id}
use Prim.Native.Nat.{ℕ, zero, suc, ◌+◌, ◌-◌, ◌*◌, ◌≤◌, ◌<◌}
use native.Mathlib.Omega.{arith}
use native.Mathlib.Nat.{add-zero, mul-le-mul_right}
use native.Mathlib.Numerals.{add-one}
use lib.ListN.{length, take, drop, get_or, set, length-map, length-set, length-take, length-drop, drop_of_length-le}
use lib.Seq.{get_or-take, get_or-drop, get_or-set_same, get_or-set_other, take-suc, take-suc-set, take_all, length-take-le, drop-nil}
use Rattle.std.proofs.lemmas.List.{take-append-le}
use Rattle.unification.proofs.Numbers.{same_or}
use Rattle.ids.proofs.Views.{view_pushed}
use Rattle.unification.specs.Roots.{up_to}
use Rattle.semantics.specs.Sheet.{words}
use Rattle.file.specs.Layout.{row_in, rows_in}
use Rattle.file.specs.Rows.{list_at}
use Rattle.file.proofs.LayoutLaws.{entries}
use Rattle.decoding.specs.View.{Said}

-- Words.

-- a word stands at twice its index
pub word_at : (bytes : List ℕ) (i : ℕ) → get_or (words (drop (2 * i) bytes)) 0 0 ≡ get_or (words bytes) i 0
unfolding words
word_at bytes zero = refl
word_at [] (suc i) = ap (λ (l : List ℕ). get_or (words l) 0 0) (drop-nil (2 * suc i))
word_at (x ∷ []) (suc i) = ap (λ (l : List ℕ). get_or (words l) 0 0) (drop_of_length-le (x ∷ []) {i = 2 * suc i} (omega arith))
word_at (x ∷ y ∷ xs) (suc i) =
    let twice : 2 * suc i ≡ suc (suc (2 * i)) = omega arith in
    ap (λ (n : ℕ). get_or (words (drop n (x ∷ y ∷ xs))) 0 0) twice ∙ word_at xs i

-- Counts.

-- the tests as the code joins them
pub eight_tests : (a b c d e f g h : Bool) → (((((((a || b) || c) || d) || e) || f) || g) || h) ≡ (a || (b || (c || (d || (e || (f || (g || (h || false))))))))
eight_tests true b c d e f g h = refl
eight_tests false true c d e f g h = refl
eight_tests false false true d e f g h = refl
eight_tests false false false true e f g h = refl
eight_tests false false false false true f g h = refl
eight_tests false false false false false true g h = refl
eight_tests false false false false false false true h = refl
eight_tests false false false false false false false true = refl
eight_tests false false false false false false false false = refl

-- Values of bytes.

-- one value more
pub read_more : {A : Type 0} (f : ℕ → A) (values : List A) (bytes : List ℕ) {i : ℕ} {v : A} → take i values ≡ map f (take i bytes) → i < length values → i < length bytes
    → v ≡ f (get_or bytes i 0) → take (i + 1) (set values i v) ≡ map f (take (i + 1) bytes)
read_more f values bytes {i} {v} so_far h g is =
    rw (add-one i, take-suc-set values i v h, take-suc bytes i 0 g)
    ((λ k. so_far k ++ is k ∷ []) ∙ sym (map-append f (take i bytes) (get_or bytes i 0 ∷ [])))

-- Numbers and lists of a row.

-- a number of the first k
pub cell : (j k : ℕ) (row : List ℕ) → j < k → get_or row j 0 ≡ get_or (take k row) j 0
cell j k row h = sym (get_or-take k row j 0 h)

-- an entry of two numbers, whatever is made of them
pub two_cells : {B : Type 0} (mk : ℕ → ℕ → B) (row : List ℕ) → mk (get_or row 0 0) (get_or row 1 0) ≡ mk (get_or (take 2 row) 0 0) (get_or (take 2 row) 1 0)
two_cells mk row = λ i. mk (cell 0 2 row (omega arith) i) (cell 1 2 row (omega arith) i)

-- the list that stands at j of them
pub list_at_lem : (j k : ℕ) (row : List ℕ) {l : List ℕ} → j + 5 ≤ k → k ≤ length row
    → l ≡ take (get_or row (j + 4) 0) (get_or row j 0 ∷ get_or row (j + 1) 0 ∷ get_or row (j + 2) 0 ∷ get_or row (j + 3) 0 ∷ []) → l ≡ list_at j (take k row)
unfolding up_to
list_at_lem j k row h g e =
    let at : (i : ℕ) → i < 5 → get_or row (j + i) 0 ≡ get_or (drop j (take k row)) i 0 =
    λ i l. cell (j + i) k row (omega arith) ∙ sym (get_or-drop j (take k row) i 0) in
    let first : get_or row j 0 ≡ get_or (drop j (take k row)) 0 0 = ap (λ (n : ℕ). get_or row n 0) (sym (add-zero j)) ∙ at 0 (omega arith) in
    let count : get_or row (j + 4) 0 ≡ get_or (take k row) (j + 4) 0 = cell (j + 4) k row (omega arith) in
    e
    ∙ (λ i. take (count i) (first i ∷ at 1 (omega arith) i ∷ at 2 (omega arith) i ∷ at 3 (omega arith) i ∷ []))
    ∙ ap (take (get_or (take k row) (j + 4) 0)) (entries 0 4 (drop j (take k row)) (omega (arith, length-drop j (take k row), length-take k row)))

-- Arrays that are filled from their start.

-- what the first i entries say is what h says of each index
module _ {A B : Type 0} (g : A → B) (h : ℕ → B) (n limit : ℕ) where
  pub record Filled (ys : List A) (i : ℕ) : Type 0 where
    pub is : map g (take i ys) ≡ map h (up_to i)
    pub few : i ≤ n
    pub long : length ys ≡ limit

  pub filled_none : (ys : List A) → length ys ≡ limit → Filled ys 0
  unfolding up_to
  filled_none ys e = record { is = refl; few = omega arith; long = e }

  module _ {ys : List A} {i : ℕ} (so_far : Filled ys i) where
    pub filled_next : {v : A} → i < n → n ≤ limit → g v ≡ h i → Filled (set ys i v) (i + 1)
    unfolding up_to
    filled_next {v} l q e = record {
      is =
          view_pushed g i ys v (omega (arith, so_far.long))
          ∙ (λ k. so_far.is k ++ e k ∷ [])
          ∙ sym (rw add-one (map-append h (up_to i) (i ∷ [])));
      few = omega arith;
      long = length-set ys i v ∙ so_far.long;
    }

    pub filled_all : n ≤ i → map g (take n ys) ≡ map h (up_to n)
    filled_all l = let all : i ≡ n = omega (arith, so_far.few) in rw (sym all) so_far.is

-- numbers themselves
abbrev pub FilledBy : {A : Type 0} (h : ℕ → A) (n limit : ℕ) (ys : List A) (i : ℕ) → Type 0
FilledBy h n limit ys i = Filled (λ x. x) h n limit ys i

pub filled_by : {A : Type 0} (h : ℕ → A) (n limit : ℕ) {ys : List A} {i : ℕ} → FilledBy h n limit ys i → n ≤ i → take n ys ≡ map h (up_to n)
filled_by h n limit {ys} so_far l = sym (map-id (take n ys)) ∙ filled_all (λ x. x) h n limit so_far l

-- a row of a table, cell by cell
pub row_cells : (k n : ℕ) (bytes : List ℕ) (i : ℕ) → map (λ (j : ℕ). get_or bytes (j * n + i) 0) (up_to k) ≡ row_in k n bytes i
unfolding row_in up_to
row_cells zero n bytes i = refl
row_cells (suc k) n bytes i =
    let cell-of : ℕ → ℕ = λ j. get_or bytes (j * n + i) 0 in
    map-append cell-of (up_to k) (k ∷ []) ∙ ap (λ (l : List ℕ). l ++ (cell-of k ∷ [])) (row_cells k n bytes i)

-- a column ends before the last does
pub column_ends : (j k n : ℕ) → j < k → j * n + n ≤ k * n
column_ends j k n h = omega (arith, mul-le-mul_right {m = suc j} {n = k} n h)

-- a table whose entries are read off the numbers of a list and rows
module _ {A B : Type 0} (g : A → B) (f : ℕ → List ℕ → B) (k n limit : ℕ) (xs bytes : List ℕ) where
  abbrev pub ReadWith : List A → ℕ → Type 0
  ReadWith ys i = Filled g (λ (j : ℕ). f (get_or xs j 0) (row_in k n bytes j)) n limit ys i

  pub read_with : {ys : List A} {i : ℕ} {v : A} {row : List ℕ} → ReadWith ys i → i < n → n ≤ limit → g v ≡ f (get_or xs i 0) row → row ≡ row_in k n bytes i
      → ReadWith (set ys i v) (i + 1)
  read_with {i = i} so_far l q e is =
      filled_next g (λ (j : ℕ). f (get_or xs j 0) (row_in k n bytes j)) n limit so_far l q (e ∙ ap (f (get_or xs i 0)) is)

-- Entries that rows say.

module _ {A : Type 0} (Says : A → List ℕ → Type 0) (k n : ℕ) (columns : List ℕ) where
  pub said_none : (entries : List A) → length entries ≡ n → Said Says k n columns entries 0
  said_none entries e = record { each = λ d j h. absurd (omega arith); long = e }

  pub said_next : {entries : List A} {i : ℕ} {v : A} {row : List ℕ} → Said Says k n columns entries i → i < n → Says v row → row ≡ row_in k n columns i
      → Said Says k n columns (set entries i v) (i + 1)
  said_next {entries} {i} {v} s h says is = record {
    each = λ d j g.
        ⊎_elim
        (λ (e : j ≡ i). rw (e, get_or-set_same entries i v d (omega (arith, s.long))) (subst (Says v) is says))
        (λ m. rw (get_or-set_other entries i j v d m) (s.each d j (omega arith))) (same_or j i);
    long = length-set entries i v ∙ s.long;
  }

-- as the definitions speak of them
module _ {A B : Type 0} (f : A → B) (g : List ℕ → B) (d : A) {k n : ℕ} {columns : List ℕ} {entries : List A}
    (s : Said (λ (x : A) (row : List ℕ). f x ≡ g row) k n columns entries n) where
  said_to : (i : ℕ) → i ≤ n → map f (take i entries) ≡ map (λ (j : ℕ). g (row_in k n columns j)) (up_to i)
  unfolding up_to
  said_to zero h = refl
  said_to (suc i) h =
      rw (take-suc entries i d (omega (arith, s.long)))
      (map-append f (take i entries) (get_or entries i d ∷ [])
      ∙ (λ m. said_to i (omega arith) m ++ s.each d i (omega arith) m ∷ [])
      ∙ sym (map-append (λ (j : ℕ). g (row_in k n columns j)) (up_to i) (i ∷ [])))

  said_rows : map f (take n entries) ≡ map g (rows_in k n columns)
  unfolding rows_in
  said_rows = said_to n (omega arith) ∙ sym (map-map g (row_in k n columns) (up_to n))

-- What stands from an index on.

pub from_on : (at : ℕ) (bytes : List ℕ) → take (length bytes - at) (drop at bytes) ≡ drop at bytes
from_on at bytes = take_all (length bytes - at) (drop at bytes) (omega (arith, length-drop at bytes))

-- entries that the rows from there on say, whatever stands past them
pub table_said : {A B : Type 0} (f : A → B) (g : List ℕ → B) (d : A) {k n m : ℕ} (at : ℕ) (bytes : List ℕ) {entries : List A}
    → Said (λ (x : A) (row : List ℕ). f x ≡ g row) k n (take (length bytes - at) (drop at bytes)) entries n → m ≡ n → (rest : List A)
    → map f (take m (entries ++ rest)) ≡ map g (rows_in k m (drop at bytes))
table_said f g d {k} {n} {m} at bytes {entries} s is rest =
    rw is
    (ap (map f) (take-append-le n entries rest (omega (arith, s.long)))
    ∙ said_rows f g d s
    ∙ ap (λ (l : List ℕ). map g (rows_in k n l)) (from_on at bytes))

-- values of bytes, whatever stands past them
pub bytes_said : {A : Type 0} (f : ℕ → A) (at : ℕ) (bytes : List ℕ) {values : List A} {k n : ℕ} → values ≡ map f (take k (take (length bytes - at) (drop at bytes)))
    → n ≡ k → at + k ≤ length bytes → (rest : List A) → take n (values ++ rest) ≡ map f (take n (drop at bytes))
bytes_said {A} f at bytes {values} {k} {n} e is h rest =
    let told : values ≡ map f (take k (drop at bytes)) = e ∙ ap (λ (l : List ℕ). map f (take k l)) (from_on at bytes) in
    let many : length values ≡ k =
    ap length told ∙ length-map (take k (drop at bytes)) f ∙ length-take-le k (drop at bytes) (omega (arith, length-drop at bytes)) in
    take-append-le n values rest (omega arith)
    ∙ take_all n values (omega arith)
    ∙ told ∙ ap (λ (j : ℕ). map f (take j (drop at bytes))) (sym is)
