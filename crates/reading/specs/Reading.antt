-- What the reads of an input come to.
use Rattle.std.specs.Prelude.{ℕ, ◌+◌, ◌<◌, ◌≤◌, ◌≡◌, List, length, take, Bool, true, false, eqb, Option, Some, None, IfSome, Result, Ok, Err}
use Rattle.std.specs.Io.KnownBytes.{Consumes, IsAtEnd}
use Rattle.std.specs.declared.io.Error.{Error}

-- the most bytes of a path, with the 0 that ends it
abbrev pub max_path : ℕ
max_path = 4096

-- the first `at` bytes stay
abbrev pub Kept : ℕ → List ℕ → List ℕ → Type 0
Kept at before after = take at after ≡ take at before

-- a read gave n bytes: none are the end of the input
abbrev pub given : Bool → ℕ → Option ℕ
given true n = None
given false n = Some n

-- what the answer to a read comes to: so many bytes, the end of the input, or a failure
abbrev pub after_read : Result ℕ Error → Result (Option ℕ) Error
after_read (Ok n) = Ok (given (eqb n 0) n)
after_read (Err e) = Err e

-- reads one after the other, where so many bytes are there already and there is room for `room`: one fails, one gives no byte and is the
-- end of the input, one gives more than there is room for, or one gives some bytes and others come after it; each keeps what was read before it
pub data Reads (room : ℕ) : ℕ → List ℕ → List ℕ → Result (Option ℕ) Error → Type 0 where
  fails : {at : ℕ} {before after : List ℕ} {e : Error} → Kept at before after → Reads room at before after (Err e)
  ends : {at : ℕ} {before after : List ℕ} → Kept at before after → Reads room at before after (Ok (Some at))
  is_longer : {at n : ℕ} {before after : List ℕ} → 0 < n → room < at + n → Kept at before after → Reads room at before after (Ok None)
  gives : {at n : ℕ} {before between after : List ℕ} {r : Result (Option ℕ) Error} → 0 < n → at + n ≤ room → Kept at before between
      → Reads room (at + n) between after r → Reads room at before after r

-- what the reads of an input give, where it is known what it has: `old` is what it had left before, `new` what it has after; the bytes are what
-- the input had; it had more than there is room for; or what it gave up to the failure is at their front
abbrev pub IsInput : Option (List ℕ) → Option (List ℕ) → List ℕ → Result (Option ℕ) Error → Type 0
IsInput old new bytes (Ok (Some n)) = (n ≤ length bytes) × Consumes old new (take n bytes) × IsAtEnd new
IsInput old new bytes (Ok None) = IfSome old (λ xs. (take (length bytes) xs ≡ bytes) × (length bytes < length xs))
IsInput old new bytes (Err e) = (n : ℕ) × Consumes old new (take n bytes)
