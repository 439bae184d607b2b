use Rattle.storing.proofs.Bound.{Filling}
use Rattle.storing.proofs.fill_slots.Given as goal

abbrev pub invariant-loop-key : goal.invariant-loop-key
invariant-loop-key l = Filling l.slots l.key l.rows l.n
