use mathlib.Core.List.{List, map}
use Prim.Native.Nat.{ℕ}
use lib.ListN.{take, get_or}
use Rattle.file.specs.Layout.{byte}
use Rattle.storing.specs.View.{Written}
use Rattle.storing.proofs.put_column.Given as goal

abbrev pub invariant-loop-row : goal.invariant-loop-row
invariant-loop-row l = Written l.initial.buffer l.at (map (λ (r : List ℕ). byte (get_or r l.j 0)) (take l.row-index l.rows)) l.buffer l.end
