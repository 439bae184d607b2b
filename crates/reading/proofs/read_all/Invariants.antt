-- The loop of `read_all`.
use Prim.Native.Nat.{ℕ, ◌-◌, ◌≤◌}
use mathlib.Core.Path.{◌≡◌}
use mathlib.Core.List.{List}
use lib.ListN.{length, take}
use Rattle.std.specs.Prelude.{Option, Result}
use Rattle.std.specs.Io.KnownBytes.{Consumes}
use Rattle.std.specs.declared.io.Error.{Error}
use Rattle.reading.specs.Reading.{Reads}
use Rattle.reading.proofs.read_all.Given as goal

-- what the reads from here on come to is what all of them come to; what was read is at the front of the bytes
abbrev pub invariant-loop-at : goal.invariant-loop-at
invariant-loop-at g l =
    ((after : List ℕ) (r : Result (Option ℕ) Error) → Reads (length l.initial.bytes) l.at l.bytes after r → Reads (length l.initial.bytes) 0 l.initial.bytes after r) × (length l.bytes ≡ length l.initial.bytes)
    × Consumes (g.R.Read.remaining l.initial.input) (g.R.Read.remaining l.input) (take l.at l.bytes) × (l.at ≤ length l.initial.bytes)

abbrev pub decreases-loop-at : goal.decreases-loop-at
decreases-loop-at g l = length l.initial.bytes - l.at
