-- How a file is laid out (02, M-104, and docs/FILE.md): numbers as bytes, tables by columns, parts one after the other.
use Rattle.std.specs.Prelude.{ℕ, zero, suc, ◌+◌, ◌*◌, ◌/◌, ◌%◌, Bool, true, false, ◌&&◌, List, [], ◌∷◌, ◌++◌, map, take, drop, get_or, eqb}
use Rattle.unification.specs.Roots.{up_to}

-- a number in one byte
abbrev pub byte : ℕ → ℕ
byte n = n % 256

-- numbers in two bytes each, the lower first; `words` (semantics, Sheet) reads them
unfoldable pub word_bytes : List ℕ → List ℕ
word_bytes [] = []
word_bytes (n ∷ ns) = byte n ∷ byte (n / 256) ∷ word_bytes ns

-- "then goes by columns": what the rows of a table hold at place j, a byte each
unfoldable pub column : ℕ → List (List ℕ) → List ℕ
column j rows = map (λ (r : List ℕ). byte (get_or r j 0)) rows

-- the first k columns, one after the other
unfoldable pub by_columns : ℕ → List (List ℕ) → List ℕ
by_columns zero rows = []
by_columns (suc k) rows = by_columns k rows ++ column k rows

-- row i of n rows that stand in k columns
unfoldable pub row_in : ℕ → ℕ → List ℕ → ℕ → List ℕ
row_in zero n bytes i = []
row_in (suc k) n bytes i = row_in k n bytes i ++ (get_or bytes (k * n + i) 0 ∷ [])

-- the n rows that stand in k columns
unfoldable pub rows_in : ℕ → ℕ → List ℕ → List (List ℕ)
rows_in k n bytes = map (row_in k n bytes) (up_to n)

-- parts one after the other
unfoldable pub joined : List (List ℕ) → List ℕ
joined [] = []
joined (p ∷ ps) = p ++ joined ps

-- bytes cut into parts of these lengths
unfoldable pub parts_of : List ℕ → List ℕ → List (List ℕ)
parts_of [] bytes = []
parts_of (n ∷ ns) bytes = take n bytes ∷ parts_of ns (drop n bytes)

unfoldable pub sum : List ℕ → ℕ
sum [] = 0
sum (n ∷ ns) = n + sum ns

-- two lists are the same
unfoldable pub same : List ℕ → List ℕ → Bool
same [] [] = true
same [] (y ∷ ys) = false
same (x ∷ xs) [] = false
same (x ∷ xs) (y ∷ ys) = eqb x y && same xs ys
