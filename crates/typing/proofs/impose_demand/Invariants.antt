use Prim.Native.Nat.{◌*◌, ◌≤◌, ◌-◌}
use Rattle.ids.specs.Ids.{els_of}
use Rattle.signature.specs.Model.{view_types}
use Rattle.semantics.specs.Types.{impose_all}
use Rattle.merging.specs.View.{lent, Toward}
use Rattle.imposing.specs.Bounds.{one_imposed}
use Rattle.typing.proofs.Laws.{args_from, only_types}
use Rattle.typing.proofs.impose_demand.Given as goal

abbrev pub invariant-loop-i : goal.invariant-loop-i
invariant-loop-i l = (l.i ≤ l.n)
    × Toward (lent l.initial.els l.initial.facts l.pairs l.initial.now) (lent l.els l.facts l.pairs l.now) (l.i * one_imposed)
    (impose_all (args_from (only_types (view_types l.types)) l.expected (els_of l.parents) l.listed l.i))
    (impose_all (args_from (only_types (view_types l.types)) l.expected (els_of l.parents) l.listed 0))

abbrev pub decreases-loop-i : goal.decreases-loop-i
decreases-loop-i l = l.n - l.i
