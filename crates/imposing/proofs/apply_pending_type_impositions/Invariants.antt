use mathlib.Core.List.{map}
use Prim.Native.Nat.{◌*◌}
use lib.ListN.{drop}
use Rattle.semantics.specs.Types.{impose_all}
use Rattle.facts.specs.View.{fact_of}
use Rattle.merging.specs.View.{lent, Toward}
use Rattle.imposing.specs.Bounds.{one_imposed}
use Rattle.imposing.proofs.apply_pending_type_impositions.Given as goal

abbrev pub invariant-loop-fact : goal.invariant-loop-fact
invariant-loop-fact l =
    Toward (lent l.initial.els l.initial.facts l.pairs l.initial.now) (lent l.els l.facts l.pairs l.now) (l.fact-index * one_imposed)
    (impose_all (map fact_of (drop l.fact-index l.impositions))) (impose_all (map fact_of l.impositions))
