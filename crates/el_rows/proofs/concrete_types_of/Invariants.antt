use Rattle.el_rows.specs.View.{links_in}
use Rattle.el_rows.proofs.Taking.{Taking}
use Rattle.el_rows.proofs.concrete_types_of.Given as goal

abbrev pub invariant-loop-here : goal.invariant-loop-here
invariant-loop-here l = Taking (links_in l.els) l.root.0 l.facts l.types l.here-index l.k
