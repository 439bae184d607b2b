-- `impose_demands` meets its contract.
use mathlib.Core.Path.{refl, sym, ap, ◌∙◌}
use native.Mathlib.Omega.{arith}
use Rattle.signature.specs.Model.{view_types}
use Rattle.merging.proofs.Laws.{begins}
use Rattle.typing.specs.Bounds.{one_demand}
use Rattle.typing.proofs.Laws.{only_types, app_imposed, apps_imposed, room_here, goes_on}
use Rattle.typing.proofs.impose_demands.Goals as goal

pub loop-app-init : goal.loop-app-init
loop-app-init g c = (record { holds = c.requires.held.0; kept = refl; count_most = omega arith }, λ s same asked told. begins _ c.requires.held.0 _)

pub impose_demand-now-requires : goal.impose_demand-now-requires
impose_demand-now-requires g c =
    let l = c.loop-app in
    (l.invariant.0.holds, room_here one_demand l.app-index l.invariant.0 c.requires.held.1 (omega (arith, c.loop-app-test.true)))

pub loop-app-preserved : goal.loop-app-preserved
loop-app-preserved g c =
    let l = c.loop-app in (
      goes_on one_demand l.app-index l.invariant.0 (c.impose_demand-now.ensures (only_types (view_types c.args.types.now)) refl),
      λ s same asked told.
          app_imposed s asked c.args.apps.now one_demand l.app-index (l.invariant.1 s same asked told) c.ask.result c.app-item.result
          c.loop-app-test.true (told c.app-item.result c.ask.result c.ask.ensures ∙ ap asked c.app-item.is) (c.impose_demand-now.ensures s same),
    )

pub returns : goal.returns
returns g c =
    let l = c.loop-app in
    λ s same asked told.
    apps_imposed s asked c.args.apps.now one_demand l.app-index (l.invariant.1 s same asked told) c.loop-app-test.false (omega (arith, l.auto.app-index-end))
