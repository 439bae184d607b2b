-- A page: what is printed next, gathered from pieces of a sheet.
use Rattle.std.specs.Prelude.{ℕ, ◌+◌, ◌-◌, ◌≤◌, ◌≡◌, List, ◌++◌, length, take}
use Rattle.semantics.specs.Sheet.{prints}
use Rattle.lines.specs.View.{max_line}
use Rattle.sheet.specs.Pieces.{ProgressM, rest_of, pieces_of}

-- the sheet in some bytes stood as p; a page is the first n bytes of a text, and the sheet stands as q after it
pub record Filled (bytes : List ℕ) (p : ProgressM) (text : List ℕ) (n : ℕ) (q : ProgressM) : Type 0 where
  -- what was to be printed is the page, and what is to be printed after it
  pub rest : rest_of bytes p ≡ prints (take n text) (rest_of bytes q)
  -- fewer pieces are to come, unless none were
  pub less : pieces_of bytes q ≤ pieces_of bytes p - 1
  -- the text has so many bytes
  pub within : n ≤ length text

-- a line was put after the first n bytes of a text
pub record Put (text : List ℕ) (n : ℕ) (line after : List ℕ) (r : ℕ) : Type 0 where
  pub is : take r after ≡ take n text ++ line
  pub most : r ≤ n + max_line
  pub same : length after ≡ length text
