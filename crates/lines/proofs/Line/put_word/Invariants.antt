use mathlib.Core.Path.{◌≡◌}
use Prim.Native.Nat.{◌≤◌}
use lib.ListN.{length, drop}
use Rattle.lines.specs.View.{max_line, line_of, put_of}
use Rattle.lines.proofs.Line.put_word.Given as goal

abbrev pub invariant-loop-b : goal.invariant-loop-b
invariant-loop-b l = (put_of (line_of l.line) (drop l.b-index l.word) ≡ put_of (line_of l.initial.line) l.word) × (length (line_of l.line) ≤ max_line)
