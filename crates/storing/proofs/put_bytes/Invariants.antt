use mathlib.Core.List.{map}
use lib.ListN.{take}
use Rattle.storing.specs.View.{Written}
use Rattle.storing.proofs.put_bytes.Given as goal

abbrev pub invariant-loop-value : goal.invariant-loop-value
invariant-loop-value g l = Written l.initial.buffer l.at (map g.T.InByte.byte (take l.value-index l.values)) l.buffer l.end
