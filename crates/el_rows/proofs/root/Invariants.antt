use Rattle.el_rows.proofs.Laws.{Shortening}
use Rattle.el_rows.proofs.root.Given as goal

abbrev pub invariant-loop-parent : goal.invariant-loop-parent
invariant-loop-parent l = Shortening l.initial.x l.initial.els l.els l.x l.parent

abbrev pub decreases-loop-parent : goal.decreases-loop-parent
decreases-loop-parent l = l.x
