use Rattle.conflicts.specs.View.{Spans}
use Rattle.conflicts.proofs.spans_of.Given as goal

abbrev pub invariant-loop-i : goal.invariant-loop-i
invariant-loop-i l = Spans l.facts l.i l.spans
