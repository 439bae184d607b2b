-- A line as the definitions speak of it: its bytes in use.
use Rattle.std.specs.Prelude.{ℕ, ◌+◌, ◌*◌, ◌≤◌, ◌≡◌, List, [], ◌∷◌, ◌++◌, length, take}
use Rattle.ids.specs.Limits.{max_list}
use Rattle.semantics.specs.Sheet.{newline, spaced, conflicts_word}
use Rattle.lines.specs.declared.Line.{Line}

-- how many bytes a line has at most
abbrev pub max_line : ℕ
max_line = 80

abbrev pub line_of : Line → List ℕ
line_of l = take l.len l.bytes

-- bytes added at the end, as far as there is room
unfoldable pub put_of : List ℕ → List ℕ → List ℕ
put_of line bytes = take max_line (line ++ bytes)

-- how many bytes a space and a number of 64 bits take at most, one of 16 bits, a list of elements, and a fact's type and parents
abbrev pub wide_bytes : ℕ
wide_bytes = 21

abbrev pub number_bytes : ℕ
number_bytes = 6

abbrev pub els_bytes : ℕ
els_bytes = number_bytes * max_list

abbrev pub fact_bytes : ℕ
fact_bytes = number_bytes + els_bytes

-- numbers were added, each with a space before it, that take at most so many bytes
pub record Added (line ns : List ℕ) (most : ℕ) (after : List ℕ) : Type 0 where
  pub is : after ≡ put_of line (spaced ns)
  pub short : length (spaced ns) ≤ most

-- "then `conflicts N`": the last of the lines of the conflicts
unfoldable pub conflicts_end : ℕ → List ℕ
conflicts_end n = conflicts_word ++ (spaced (n ∷ []) ++ (newline ∷ []))
