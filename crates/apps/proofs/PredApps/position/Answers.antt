-- `PredApps::position` meets its contract.
use mathlib.Core.Path.{◌≡◌, refl, sym, ◌∙◌}
use mathlib.Core.List.{◌∷◌}
use Prim.Native.Nat.{◌+◌, ◌≤◌, ◌<◌}
use native.Mathlib.Omega.{arith}
use lib.ListN.{length, drop, get_or}
use Rattle.ids.specs.Table.{position_from}
use Rattle.semantics.specs.Structure.{compare_pred_app}
use Rattle.apps.specs.View.{pred_app_of, pred_apps_of, no_pred_app}
use Rattle.ids.proofs.Views.{view_next, view_done}
use Rattle.ids.proofs.Tables.{on}
use Rattle.apps.proofs.PredApps.position.Goals as goal
use Rattle.apps.proofs.PredApps.position.Goals.{After-here-1}

pub loop-i-init : goal.loop-i-init
loop-i-init c = refl

-- in a turn: the search goes on at the entry i
turn : (c : After-here-1) →
    let f = c.args.self in
    let x = pred_app_of c.args.entry in
    let i = c.loop-i.i in
    position_from compare_pred_app x i (pred_app_of (get_or f.items i no_pred_app) ∷ drop (i + 1) (pred_apps_of f)) ≡ position_from compare_pred_app x 0 (pred_apps_of f)
turn c =
    let f = c.args.self in
    let i = c.loop-i.i in
    let more : i < length (pred_apps_of f) = omega (arith, c.size-n.ensures.is) in
    rw (view_next pred_app_of _ _ _ no_pred_app more) at c.loop-i.invariant

pub loop-i-preserved : goal.loop-i-preserved
loop-i-preserved c =
    let t = turn (goal.at.loop-i-preserved c).After-here-1 in
    rw (on compare_pred_app _ _ _ _ (sym c.compare.ensures ∙ c.in-Less.is)) at t

pub returns-in-Equal : goal.returns-in-Equal
unfolding position_from
returns-in-Equal c = rw (← c.compare.ensures, c.in-Equal.is, position_from) at (turn (goal.at.returns-in-Equal c).After-here-1)

pub returns-in-Greater : goal.returns-in-Greater
unfolding position_from
returns-in-Greater c = rw (← c.compare.ensures, c.in-Greater.is, position_from) at (turn (goal.at.returns-in-Greater c).After-here-1)

pub returns : goal.returns
unfolding position_from
returns c =
    let f = c.args.self in
    let done : length (pred_apps_of f) ≤ c.loop-i.i = omega (arith, c.size-n.ensures.is) in
    rw (view_done pred_app_of _ _ _ done) at c.loop-i.invariant
