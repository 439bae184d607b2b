-- Laws of how a file is laid out: parts, words, columns. What is written so is read back, and what is read so was written.
use mathlib.Core.Path.{◌≡◌, refl, sym, ap, ◌∙◌}
use mathlib.Core.Logic.{⊎_elim}
use mathlib.Core.Bool.{true}
use mathlib.Core.List.{List, [], ◌∷◌, ◌++◌, map, append-nil}
use Prim.Native.Nat.{ℕ, zero, suc, ◌+◌, ◌*◌, ◌/◌, ◌≤◌, ◌<◌}
use native.Mathlib.Nat.{zero-mul, mul-le-mul_right, mod-eq_of_lt}
use native.Mathlib.Omega.{arith}
use lib.ListN.{length, take, drop, get_or, length-append, length-take, length-drop, length-map, get_or-append, take-append-drop}
use lib.Seq.{take-append_seam, drop-append_seam, get_or-append-add, get_or_at, get_or-take, get_or-drop, take-add, take-nil, take_all, drop-drop, ext_get_or, length-take-le}
use lib.Dec.{eqb}
use borrow.Author.Tests.{eq-eqb, eqb-true}
use Rattle.ids.specs.Sorted.{All}
use Rattle.ids.proofs.Sorted.{all_of, all_join, all_image, no_test}
use Rattle.ids.proofs.Tests.{and_then}
use Rattle.unification.specs.Roots.{up_to}
use Rattle.unification.proofs.Numbers.{less_or}
use Rattle.unification.proofs.Arrays.{up_to_length, up_to_at}
use Rattle.validity.proofs.Demands.{all_entry}
use Rattle.semantics.specs.Valid.{Below}
use Rattle.semantics.specs.Sheet.{words}
use Rattle.semantics.proofs.Cases.{and_first, and_second}
use Rattle.file.specs.Layout.{byte, word_bytes, column, by_columns, row_in, rows_in, joined, parts_of, sum, same}

-- numbers that fit a byte
abbrev pub Bytes : List ℕ → Type 0
Bytes l = Below 256 l

-- Lists.

module _ {A B : Type 0} (f : A → B) where
  -- what a function gives at a place, with any default
  pub map_at : (l : List A) (i : ℕ) (d : A) (e : B) → i < length l → get_or (map f l) i e ≡ f (get_or l i d)
  map_at [] i d e h = absurd (omega arith)
  map_at (x ∷ xs) zero d e h = refl
  map_at (x ∷ xs) (suc i) d e h = map_at xs i d e (omega arith)

module _ {A : Type 0} (P : A → Type 0) where
  pub all_take : (n : ℕ) (l : List A) → All P l → All P (take n l)
  all_take zero l h = tt
  all_take (suc n) [] h = tt
  all_take (suc n) (x ∷ xs) h = (h.0, all_take n xs h.1)

  pub all_drop : (n : ℕ) (l : List A) → All P l → All P (drop n l)
  all_drop zero l h = h
  all_drop (suc n) [] h = tt
  all_drop (suc n) (x ∷ xs) h = all_drop n xs h.1

-- the first entries of a list, place by place
pub entries : {A : Type 0} (d : A) (n : ℕ) (l : List A) → n ≤ length l → map (λ (i : ℕ). get_or l i d) (up_to n) ≡ take n l
entries {A} d n l h =
    let each : ℕ → A = λ i. get_or l i d in
    let many : length (map each (up_to n)) ≡ n = length-map (up_to n) each ∙ up_to_length n in
    ext_get_or d (map each (up_to n)) (take n l) (many ∙ sym (length-take-le n l h)) (λ i g.
    map_at each (up_to n) i 0 d (omega (arith, up_to_length n)) ∙ ap each (up_to_at n i (omega arith)) ∙ sym (get_or-take n l i d (omega arith)))

-- bytes are their own bytes
pub bytes_same : (l : List ℕ) → Bytes l → map byte l ≡ l
bytes_same [] h = refl
bytes_same (b ∷ bs) h = λ i. mod-eq_of_lt h.0 i ∷ bytes_same bs h.1 i

-- Parts.

-- what is put together of parts is cut into them again
pub parts_joined : (ps : List (List ℕ)) → parts_of (map length ps) (joined ps) ≡ ps
unfolding parts_of joined
parts_joined [] = refl
parts_joined (p ∷ ps) =
    let rest : parts_of (map length ps) (drop (length p) (p ++ joined ps)) ≡ ps =
    ap (parts_of (map length ps)) (drop-append_seam p (joined ps)) ∙ parts_joined ps in
    λ i. take-append_seam p (joined ps) i ∷ rest i

pub joined_length : (ps : List (List ℕ)) → length (joined ps) ≡ sum (map length ps)
unfolding joined sum
joined_length [] = refl
joined_length (p ∷ ps) = length-append p (joined ps) ∙ ap (λ (n : ℕ). length p + n) (joined_length ps)

-- parts that are all there make the whole
pub joined_parts : (ns bytes : List ℕ) → sum ns ≡ length bytes → joined (parts_of ns bytes) ≡ bytes
unfolding parts_of joined sum
joined_parts [] [] h = refl
joined_parts [] (b ∷ bs) h = absurd (omega (arith, h))
joined_parts (n ∷ ns) bytes h =
    ap (λ (l : List ℕ). take n bytes ++ l) (joined_parts ns (drop n bytes) (omega (arith, length-drop n bytes))) ∙ take-append-drop n bytes

pub parts_length : (ns bytes : List ℕ) → length (parts_of ns bytes) ≡ length ns
unfolding parts_of
parts_length [] bytes = refl
parts_length (n ∷ ns) bytes = ap suc (parts_length ns (drop n bytes))

-- a part begins where those before it end
pub part_at : (ns bytes : List ℕ) (i : ℕ) → i < length ns → get_or (parts_of ns bytes) i [] ≡ take (get_or ns i 0) (drop (sum (take i ns)) bytes)
unfolding parts_of sum
part_at [] bytes i h = absurd (omega arith)
part_at (n ∷ ns) bytes zero h = refl
part_at (n ∷ ns) bytes (suc i) h =
    part_at ns (drop n bytes) i (omega arith) ∙ ap (λ (l : List ℕ). take (get_or ns i 0) l) (drop-drop (sum (take i ns)) n bytes)

pub part_length : (ns bytes : List ℕ) (i : ℕ) → sum ns ≤ length bytes → i < length ns → length (get_or (parts_of ns bytes) i []) ≡ get_or ns i 0
unfolding parts_of sum
part_length [] bytes i fits h = absurd (omega arith)
part_length (n ∷ ns) bytes zero fits h = length-take-le n bytes (omega arith)
part_length (n ∷ ns) bytes (suc i) fits h = part_length ns (drop n bytes) i (omega (arith, length-drop n bytes)) (omega arith)

pub parts_all : (P : ℕ → Type 0) (ns bytes : List ℕ) → All P bytes → All (All P) (parts_of ns bytes)
unfolding parts_of
parts_all P [] bytes h = tt
parts_all P (n ∷ ns) bytes h = (all_take P n bytes h, parts_all P ns (drop n bytes) (all_drop P n bytes h))

-- Words.

pub word_bytes_length : (ns : List ℕ) → length (word_bytes ns) ≡ 2 * length ns
unfolding word_bytes
word_bytes_length [] = refl
word_bytes_length (n ∷ ns) = omega (arith, word_bytes_length ns)

pub word_bytes_below : (ns : List ℕ) → Bytes (word_bytes ns)
unfolding word_bytes
word_bytes_below [] = tt
word_bytes_below (n ∷ ns) = (omega arith, (omega arith, word_bytes_below ns))

-- words that fit two bytes are read back
pub words_joined : (ns rest : List ℕ) → All (λ (n : ℕ). n < 65536) ns → words (word_bytes ns ++ rest) ≡ ns ++ words rest
unfolding words word_bytes
words_joined [] rest h = refl
words_joined (n ∷ ns) rest h =
    let one : byte n + 256 * byte (n / 256) ≡ n = omega (arith, h.0) in
    λ i. one i ∷ words_joined ns rest h.1 i

pub words_back : (ns : List ℕ) → All (λ (n : ℕ). n < 65536) ns → words (word_bytes ns) ≡ ns
unfolding words
words_back ns h = ap words (sym (append-nil (word_bytes ns))) ∙ words_joined ns [] h ∙ append-nil ns

pub words_length : (n : ℕ) (bytes : List ℕ) → length bytes ≡ 2 * n → length (words bytes) ≡ n
unfolding words
words_length zero [] h = refl
words_length zero (b ∷ []) h = absurd (omega (arith, h))
words_length zero (b ∷ c ∷ bs) h = absurd (omega (arith, h))
words_length (suc n) [] h = absurd (omega (arith, h))
words_length (suc n) (b ∷ []) h = absurd (omega (arith, h))
words_length (suc n) (b ∷ c ∷ bs) h = ap suc (words_length n bs (omega arith))

-- bytes that are read as words are written again
pub word_bytes_back : (n : ℕ) (bytes : List ℕ) → Bytes bytes → length bytes ≡ 2 * n → word_bytes (words bytes) ≡ bytes
unfolding words word_bytes
word_bytes_back zero [] b h = refl
word_bytes_back zero (x ∷ []) b h = absurd (omega (arith, h))
word_bytes_back zero (x ∷ y ∷ xs) b h = absurd (omega (arith, h))
word_bytes_back (suc n) [] b h = absurd (omega (arith, h))
word_bytes_back (suc n) (x ∷ []) b h = absurd (omega (arith, h))
word_bytes_back (suc n) (x ∷ y ∷ xs) b h =
    let low : byte (x + 256 * y) ≡ x = omega (arith, b.0, b.1.0) in
    let over : (x + 256 * y) / 256 ≡ y = omega (arith, b.0) in
    let high : byte ((x + 256 * y) / 256) ≡ y = ap byte over ∙ mod-eq_of_lt b.1.0 in
    λ i. low i ∷ high i ∷ word_bytes_back n xs b.1.1 (omega arith) i

pub words_below : (bytes : List ℕ) → Bytes bytes → All (λ (n : ℕ). n < 65536) (words bytes)
unfolding words
words_below [] b = tt
words_below (x ∷ []) b = tt
words_below (x ∷ y ∷ xs) b = (omega (arith, b.0, b.1.0), words_below xs b.1.1)

-- the first words are those of the first bytes
pub words_take : (n : ℕ) (bytes : List ℕ) → words (take (2 * n) bytes) ≡ take n (words bytes)
unfolding words
words_take zero bytes = refl
words_take (suc n) [] = ap words (take-nil (2 * suc n))
words_take (suc n) (x ∷ []) = ap words (take_all (2 * suc n) (x ∷ []) (omega arith))
words_take (suc n) (x ∷ y ∷ xs) =
    let twice : 2 * suc n ≡ suc (suc (2 * n)) = omega arith in
    ap (λ (m : ℕ). words (take m (x ∷ y ∷ xs))) twice ∙ ap (λ (l : List ℕ). (x + 256 * y) ∷ l) (words_take n xs)

-- as many words as pairs of bytes
pub words_many : (n : ℕ) (bytes : List ℕ) → 2 * n ≤ length bytes → n ≤ length (words bytes)
words_many n bytes h =
    let first : length (take n (words bytes)) ≡ n =
    ap length (sym (words_take n bytes)) ∙ words_length n (take (2 * n) bytes) (length-take-le (2 * n) bytes h) in
    omega (arith, length-take n (words bytes))

-- Columns.

-- a cell stands before the next column
pub cell_below : (j k n i : ℕ) → j < k → i < n → j * n + i < k * n
cell_below j k n i h g = omega (arith, mul-le-mul_right {m = suc j} {n = k} n h)

pub column_length : (j : ℕ) (rows : List (List ℕ)) → length (column j rows) ≡ length rows
unfolding column
column_length j rows = length-map rows (λ (r : List ℕ). byte (get_or r j 0))

pub column_at : (j : ℕ) (rows : List (List ℕ)) (i : ℕ) → i < length rows → get_or (column j rows) i 0 ≡ byte (get_or (get_or rows i []) j 0)
unfolding column
column_at j rows i h = map_at (λ (r : List ℕ). byte (get_or r j 0)) rows i [] 0 h

pub column_below : (j : ℕ) (rows : List (List ℕ)) → Bytes (column j rows)
unfolding column
column_below j rows = all_image (λ (b : ℕ). b < 256) (λ (r : List ℕ). byte (get_or r j 0)) rows (all_of (λ r. omega arith) rows)

pub columns_length : (k : ℕ) (rows : List (List ℕ)) → length (by_columns k rows) ≡ k * length rows
unfolding by_columns
columns_length zero rows = sym (zero-mul (length rows))
columns_length (suc k) rows =
    omega (arith, length-append (by_columns k rows) (column k rows), columns_length k rows, column_length k rows)

pub columns_below : (k : ℕ) (rows : List (List ℕ)) → Bytes (by_columns k rows)
unfolding by_columns
columns_below zero rows = tt
columns_below (suc k) rows = all_join (λ (b : ℕ). b < 256) (by_columns k rows) (column k rows) (columns_below k rows) (column_below k rows)

-- the cell of row i and column j
pub columns_at : (k : ℕ) (rows : List (List ℕ)) (j i : ℕ) → j < k → i < length rows
    → get_or (by_columns k rows) (j * length rows + i) 0 ≡ byte (get_or (get_or rows i []) j 0)
unfolding by_columns
columns_at zero rows j i h g = absurd (omega arith)
columns_at (suc k) rows j i h g =
    ⊎_elim
    (λ (l : j < k). get_or-append (by_columns k rows) (column k rows) 0 (j * length rows + i)
    (omega (arith, columns_length k rows, cell_below j k (length rows) i l g))
    ∙ columns_at k rows j i l g)
    (λ (l : k ≤ j). let last : j ≡ k = omega arith in
    let at : j * length rows + i ≡ length (by_columns k rows) + i = rw last (omega (arith, columns_length k rows)) in
    ap (λ (p : ℕ). get_or (by_columns k rows ++ column k rows) p 0) at
    ∙ get_or-append-add (by_columns k rows) (column k rows) i 0
    ∙ column_at k rows i g
    ∙ ap (λ (c : ℕ). byte (get_or (get_or rows i []) c 0)) (sym last))
    (less_or j k)

-- k columns show the first k cells of each row and nothing else
pub columns_same : (k : ℕ) (rows others : List (List ℕ)) → length rows ≡ length others
    → ((i j : ℕ) → i < length rows → j < k → get_or (get_or rows i []) j 0 ≡ get_or (get_or others i []) j 0) → by_columns k rows ≡ by_columns k others
unfolding by_columns
columns_same zero rows others many e = refl
columns_same (suc k) rows others many e =
    let before : by_columns k rows ≡ by_columns k others = columns_same k rows others many (λ i j h g. e i j h (omega arith)) in
    let last : column k rows ≡ column k others =
    ext_get_or 0 (column k rows) (column k others) (column_length k rows ∙ many ∙ sym (column_length k others)) (λ i h.
    let there : i < length rows = omega (arith, column_length k rows) in
    column_at k rows i there ∙ ap byte (e i k there (omega arith)) ∙ sym (column_at k others i (omega arith))) in
    λ i. before i ++ last i

-- of longer rows
pub columns_take : (k : ℕ) (rows : List (List ℕ)) → by_columns k (map (take k) rows) ≡ by_columns k rows
columns_take k rows =
    columns_same k (map (take k) rows) rows (length-map rows (take k)) (λ i j h g.
    ap (λ (r : List ℕ). get_or r j 0) (map_at (take k) rows i [] [] (omega (arith, length-map rows (take k)))) ∙ get_or-take k (get_or rows i []) j 0 g)

-- Rows.

pub row_length : (k n : ℕ) (bytes : List ℕ) (i : ℕ) → length (row_in k n bytes i) ≡ k
unfolding row_in
row_length zero n bytes i = refl
row_length (suc k) n bytes i = omega (arith, length-append (row_in k n bytes i) (get_or bytes (k * n + i) 0 ∷ []), row_length k n bytes i)

-- the cell of column j
pub row_at : (k n : ℕ) (bytes : List ℕ) (i j : ℕ) → j < k → get_or (row_in k n bytes i) j 0 ≡ get_or bytes (j * n + i) 0
unfolding row_in
row_at zero n bytes i j h = absurd (omega arith)
row_at (suc k) n bytes i j h =
    ⊎_elim
    (λ (l : j < k). get_or-append (row_in k n bytes i) (get_or bytes (k * n + i) 0 ∷ []) 0 j (omega (arith, row_length k n bytes i)) ∙ row_at k n bytes i j l)
    (λ (l : k ≤ j). let last : j ≡ k = omega arith in
    rw last (get_or_at (row_in k n bytes i) (get_or bytes (k * n + i) 0) [] 0 k (row_length k n bytes i))) (less_or j k)

pub rows_length : (k n : ℕ) (bytes : List ℕ) → length (rows_in k n bytes) ≡ n
unfolding rows_in
rows_length k n bytes = length-map (up_to n) (row_in k n bytes) ∙ up_to_length n

pub rows_long : (k n : ℕ) (bytes : List ℕ) → All (λ (r : List ℕ). length r ≡ k) (rows_in k n bytes)
unfolding rows_in
rows_long k n bytes =
    all_image (λ (r : List ℕ). length r ≡ k) (row_in k n bytes) (up_to n) (all_of (λ i. row_length k n bytes i) (up_to n))

pub rows_at : (k n : ℕ) (bytes : List ℕ) (i : ℕ) → i < n → get_or (rows_in k n bytes) i [] ≡ row_in k n bytes i
unfolding rows_in
rows_at k n bytes i h = map_at (row_in k n bytes) (up_to n) i 0 [] (omega (arith, up_to_length n)) ∙ ap (row_in k n bytes) (up_to_at n i h)

-- the cell of row i and column j
pub rows_cell : (k n : ℕ) (bytes : List ℕ) (i j : ℕ) → i < n → j < k → get_or (get_or (rows_in k n bytes) i []) j 0 ≡ get_or bytes (j * n + i) 0
rows_cell k n bytes i j h g = ap (λ (r : List ℕ). get_or r j 0) (rows_at k n bytes i h) ∙ row_at k n bytes i j g

-- rows of one length are the same if their cells are
pub rows_same : (k : ℕ) (rows others : List (List ℕ)) → All (λ (r : List ℕ). length r ≡ k) rows → All (λ (r : List ℕ). length r ≡ k) others
    → length rows ≡ length others → ((i j : ℕ) → i < length rows → j < k → get_or (get_or rows i []) j 0 ≡ get_or (get_or others i []) j 0) → rows ≡ others
rows_same k rows others long alike many e =
    ext_get_or [] rows others many (λ i h.
    let one : length (get_or rows i []) ≡ k = all_entry (λ (r : List ℕ). length r ≡ k) rows i [] long h in
    let other : length (get_or others i []) ≡ k = all_entry (λ (r : List ℕ). length r ≡ k) others i [] alike (omega arith) in
    ext_get_or 0 (get_or rows i []) (get_or others i []) (one ∙ sym other) (λ j g. e i j h (omega arith)))

-- rows show the bytes of their columns and nothing else
pub rows_alike : (k n : ℕ) (bytes others : List ℕ) → ((p : ℕ) → p < k * n → get_or bytes p 0 ≡ get_or others p 0) → rows_in k n bytes ≡ rows_in k n others
rows_alike k n bytes others e =
    rows_same k (rows_in k n bytes) (rows_in k n others) (rows_long k n bytes) (rows_long k n others) (rows_length k n bytes ∙ sym (rows_length k n others))
    (λ i j h g. let in_range : i < n = omega (arith, rows_length k n bytes) in
    rows_cell k n bytes i j in_range g ∙ e (j * n + i) (cell_below j k n i g in_range) ∙ sym (rows_cell k n others i j in_range g))

pub rows_take : (k n : ℕ) (bytes : List ℕ) → rows_in k n (take (k * n) bytes) ≡ rows_in k n bytes
rows_take k n bytes = rows_alike k n (take (k * n) bytes) bytes (λ p h. get_or-take (k * n) bytes p 0 h)

-- a table that goes by columns is read back
pub rows_back : (k n : ℕ) (rows : List (List ℕ)) → n ≡ length rows → All (λ (r : List ℕ). length r ≡ k) rows → All Bytes rows
    → rows_in k n (by_columns k rows) ≡ rows
rows_back k n rows many long small =
    rows_same k (rows_in k n (by_columns k rows)) rows (rows_long k n (by_columns k rows)) long (rows_length k n (by_columns k rows) ∙ many)
    (λ i j h g. let in_range : i < n = omega (arith, rows_length k n (by_columns k rows)) in
    let there : i < length rows = omega arith in
    let fits : get_or (get_or rows i []) j 0 < 256 =
    all_entry (λ (b : ℕ). b < 256) (get_or rows i []) j 0 (all_entry Bytes rows i [] small there)
    (omega (arith, all_entry (λ (r : List ℕ). length r ≡ k) rows i [] long there)) in
    rows_cell k n (by_columns k rows) i j in_range g
    ∙ ap (λ (m : ℕ). get_or (by_columns k rows) (j * m + i) 0) many
    ∙ columns_at k rows j i g there
    ∙ mod-eq_of_lt fits)

-- the columns of rows that were read, as far as these go
columns_of_rows : (k c n : ℕ) (bytes : List ℕ) → c ≤ k → length bytes ≡ k * n → Bytes bytes → by_columns c (rows_in k n bytes) ≡ take (c * n) bytes
unfolding by_columns
columns_of_rows k zero n bytes h long small = ap (λ (m : ℕ). take m bytes) (sym (zero-mul n))
columns_of_rows k (suc c) n bytes h long small =
    let more : c * n + n ≡ suc c * n = omega arith in
    let room : c * n + n ≤ length bytes = omega (arith, mul-le-mul_right {m = suc c} {n = k} n h) in
    let many : length (column c (rows_in k n bytes)) ≡ n = column_length c (rows_in k n bytes) ∙ rows_length k n bytes in
    let here : length (take n (drop (c * n) bytes)) ≡ n = length-take-le n (drop (c * n) bytes) (omega (arith, length-drop (c * n) bytes)) in
    let before : by_columns c (rows_in k n bytes) ≡ take (c * n) bytes = columns_of_rows k c n bytes (omega arith) long small in
    let last : column c (rows_in k n bytes) ≡ take n (drop (c * n) bytes) =
    ext_get_or 0 (column c (rows_in k n bytes)) (take n (drop (c * n) bytes)) (many ∙ sym here) (λ i g.
    let in_range : i < n = omega arith in
    column_at c (rows_in k n bytes) i (omega (arith, rows_length k n bytes))
    ∙ ap byte (rows_cell k n bytes i c in_range h)
    ∙ mod-eq_of_lt (all_entry (λ (b : ℕ). b < 256) bytes (c * n + i) 0 small (omega arith))
    ∙ sym (get_or-take n (drop (c * n) bytes) i 0 in_range ∙ get_or-drop (c * n) bytes i 0)) in
    (λ i. before i ++ last i) ∙ sym (take-add (c * n) n bytes) ∙ ap (λ (m : ℕ). take m bytes) more

-- bytes that are read as rows are written again
pub columns_back : (k n : ℕ) (bytes : List ℕ) → length bytes ≡ k * n → Bytes bytes → by_columns k (rows_in k n bytes) ≡ bytes
columns_back k n bytes long small =
    columns_of_rows k k n bytes (omega arith) long small ∙ take_all (k * n) bytes (omega arith)

-- a number at a place, or none, fits a byte
pub byte_at : (bytes : List ℕ) (p : ℕ) → Bytes bytes → get_or bytes p 0 < 256
byte_at [] p h = omega arith
byte_at (b ∷ bs) zero h = h.0
byte_at (b ∷ bs) (suc p) h = byte_at bs p h.1

row_below : (k n : ℕ) (bytes : List ℕ) (i : ℕ) → Bytes bytes → Bytes (row_in k n bytes i)
unfolding row_in
row_below zero n bytes i h = tt
row_below (suc k) n bytes i h =
    all_join (λ (b : ℕ). b < 256) (row_in k n bytes i) (get_or bytes (k * n + i) 0 ∷ []) (row_below k n bytes i h) (byte_at bytes (k * n + i) h, tt)

pub rows_below : (k n : ℕ) (bytes : List ℕ) → Bytes bytes → All Bytes (rows_in k n bytes)
unfolding rows_in
rows_below k n bytes h = all_image Bytes (row_in k n bytes) (up_to n) (all_of (λ i. row_below k n bytes i h) (up_to n))

-- Lists that are the same.

pub same_true : (xs ys : List ℕ) → same xs ys ≡ true → xs ≡ ys
unfolding same
same_true [] [] h = refl
same_true [] (y ∷ ys) h = no_test h refl
same_true (x ∷ xs) [] h = no_test h refl
same_true (x ∷ xs) (y ∷ ys) h =
    let first : x ≡ y = eqb-true x y (and_first (eqb x y) (same xs ys) h) in
    λ i. first i ∷ same_true xs ys (and_second (eqb x y) (same xs ys) h) i

pub same_refl : (xs : List ℕ) → same xs xs ≡ true
unfolding same
same_refl [] = refl
same_refl (x ∷ xs) = and_then (eq-eqb x x refl) (same_refl xs)
