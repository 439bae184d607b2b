use mathlib.Core.Path.{◌≡◌}
use Prim.Native.Nat.{◌*◌}
use lib.ListN.{drop}
use Rattle.signature.specs.Model.{Sig, view_types}
use Rattle.semantics.specs.Types.{impose_all}
use Rattle.merging.specs.View.{lent, Toward}
use Rattle.typing.specs.Bounds.{one_demand}
use Rattle.typing.specs.Rows.{DemandM, demand_of, all_asked}
use Rattle.typing.proofs.Laws.{Going}
use Rattle.typing.proofs.impose_demands.Given as goal

abbrev pub invariant-loop-app : goal.invariant-loop-app
invariant-loop-app g l =
    Going (lent l.initial.els l.initial.facts l.pairs l.initial.now) (lent l.els l.facts l.pairs l.now) (l.app-index * one_demand)
    × ((s : Sig) → s.types ≡ view_types l.types → (asked : g.row.A.Denot → DemandM) → ((app : g.row.A.Denot) (r : _) → g.F.Fn.post l.ask (app, tt) r → demand_of r ≡ asked app)
    → Toward (lent l.initial.els l.initial.facts l.pairs l.initial.now) (lent l.els l.facts l.pairs l.now) (l.app-index * one_demand)
    (impose_all (all_asked s asked (drop l.app-index l.apps))) (impose_all (all_asked s asked l.apps)))
