use mathlib.Core.Path.{◌≡◌}
use lib.ListN.{drop}
use Rattle.semantics.specs.Sheet.{all_zero}
use Rattle.records.proofs.is_clear.Given as goal

abbrev pub invariant-loop-slot : goal.invariant-loop-slot
invariant-loop-slot l = all_zero (drop l.slot-index l.slot-items) ≡ all_zero l.slot-items
