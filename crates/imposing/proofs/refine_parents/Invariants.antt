use Prim.Native.Nat.{◌≤◌, ◌*◌, ◌-◌}
use lib.ListN.{drop}
use Rattle.ids.specs.Ids.{els_of}
use Rattle.semantics.specs.Types.{refine_parents}
use Rattle.merging.specs.View.{lent, Toward}
use Rattle.imposing.specs.Bounds.{one_pair}
use Rattle.imposing.proofs.refine_parents.Given as goal

abbrev pub invariant-loop-i : goal.invariant-loop-i
invariant-loop-i l = (l.i ≤ l.n)
    × Toward (lent l.initial.els l.initial.facts l.pairs l.initial.now) (lent l.els l.facts l.pairs l.now) (l.i * one_pair) (refine_parents (drop l.i (els_of l.ps)) (drop l.i (els_of l.qs)))
    (refine_parents (els_of l.ps) (els_of l.qs))

abbrev pub decreases-loop-i : goal.decreases-loop-i
decreases-loop-i l = l.n - l.i
