-- The limits that every crate shares.
use Rattle.std.specs.Prelude.{ℕ}

-- "Every list has at most 4 entries."
abbrev pub max_list : ℕ
max_list = 4
