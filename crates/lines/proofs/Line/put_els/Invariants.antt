use mathlib.Core.Path.{◌≡◌}
use mathlib.Core.List.{map}
use Prim.Native.Nat.{◌+◌, ◌*◌, ◌≤◌}
use lib.ListN.{length, drop}
use Rattle.ids.specs.Ids.{el_of}
use Rattle.semantics.specs.Sheet.{spaced}
use Rattle.lines.specs.View.{max_line, line_of, put_of, number_bytes}
use Rattle.lines.proofs.Line.put_els.Given as goal

-- the rest of the list is still to be added, and what was added is short
abbrev pub invariant-loop-el : goal.invariant-loop-el
invariant-loop-el l = (put_of (line_of l.line) (spaced (map el_of (drop l.el-index l.el-items))) ≡ put_of (line_of l.initial.line) (spaced (map el_of l.el-items)))
    × (length (line_of l.line) ≤ max_line)
    × (length (spaced (map el_of l.el-items)) ≤ number_bytes * l.el-index + length (spaced (map el_of (drop l.el-index l.el-items))))
