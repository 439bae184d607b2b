use mathlib.Core.List.{map}
use Prim.Native.Nat.{◌*◌}
use lib.ListN.{drop}
use Rattle.semantics.specs.Types.{refine_all}
use Rattle.facts.specs.View.{fact_of}
use Rattle.merging.specs.View.{lent, Toward}
use Rattle.imposing.specs.Bounds.{one_list}
use Rattle.imposing.proofs.refine_all.Given as goal

abbrev pub invariant-loop-here : goal.invariant-loop-here
invariant-loop-here l =
    Toward (lent l.initial.els l.initial.facts l.pairs l.initial.now) (lent l.els l.facts l.pairs l.now) (l.here-index * one_list)
    (refine_all (map fact_of (drop l.here-index l.here-items)) (fact_of l.fact)) (refine_all (map fact_of l.here-items) (fact_of l.fact))
