use Rattle.el_rows.specs.View.{links_in}
use Rattle.rewriting.proofs.Laws.{Entering}
use Rattle.rewriting.proofs.functionality.Given as goal

abbrev pub invariant-loop-i : goal.invariant-loop-i
invariant-loop-i l = Entering (links_in l.els) l.i-end l.initial.apps l.apps l.pairs l.k l.queued l.i
