-- `PredApps::insert` meets its contract.
use mathlib.Core.Path.{◌≡◌, sym, ◌∙◌}
use mathlib.Core.Bool.{false}
use mathlib.Core.List.{◌++◌, ◌∷◌}
use Prim.Native.Nat.{◌≤◌, ◌<◌}
use native.Mathlib.Omega.{arith}
use lib.ListN.{length, take, drop}
use Rattle.ids.specs.Table.{Sized, present, placed}
use Rattle.semantics.specs.Structure.{max_pred_apps, compare_pred_app}
use Rattle.apps.specs.View.{pred_app_of, pred_apps_of}
use Rattle.ids.proofs.Views.{view_placed}
use Rattle.ids.proofs.Counted.{len_kept, len_placed}
use Rattle.ids.proofs.Tables.{at_present, before_spot, insert_present, insert_full, insert_new}
use Rattle.apps.proofs.PredApps.insert.Goals as goal
use Rattle.apps.proofs.PredApps.insert.Goals.{In-Before}

pub returns-in_default : goal.returns-in_default
returns-in_default c = (sym (insert_present compare_pred_app _ max_pred_apps _ (at_present compare_pred_app _ _ _ (sym c.position-found.ensures ∙ c.in_default.is))), len_kept _ _)

-- the place that was found, where the entry is not there
spot : (c : In-Before) →
    let x = pred_app_of c.args.entry in
    let ys = pred_apps_of c.args.self in
    let k = c.in-Before.at in
    (present compare_pred_app x ys ≡ false) × ((k ≤ length ys) × (placed compare_pred_app x ys ≡ take k ys ++ x ∷ drop k ys))
spot c = before_spot compare_pred_app _ _ _ (sym c.position-found.ensures ∙ c.in-Before.is)

-- the table's size
sized : (c : In-Before) → Sized (pred_apps_of c.args.self) max_pred_apps c.size-n.result
sized c = c.size-n.ensures

pub returns-then-n-ge-MAX_LEN : goal.returns-then-n-ge-MAX_LEN
returns-then-n-ge-MAX_LEN c =
    let full : max_pred_apps ≤ length (pred_apps_of c.args.self) = omega (arith, sized (goal.at.returns-then-n-ge-MAX_LEN c).In-Before) in
    (sym (insert_full compare_pred_app _ max_pred_apps _ (spot (goal.at.returns-then-n-ge-MAX_LEN c).In-Before).0 full), len_kept _ _)

pub placed-next-requires : goal.placed-next-requires
placed-next-requires c = (omega (arith, (spot (goal.at.placed-next-requires c).In-Before).1.0, sized (goal.at.placed-next-requires c).In-Before), c.if-n-ge-MAX_LEN.false)

pub returns : goal.returns
returns c =
    let f = c.args.self in
    let room : length (pred_apps_of f) < max_pred_apps = omega (arith, sized (goal.at.returns c).In-Before) in
    let within : c.in-Before.at ≤ c.size-n.result = omega (arith, (spot (goal.at.returns c).In-Before).1.0, sized (goal.at.returns c).In-Before) in
    let seen = view_placed pred_app_of f.len _ _ _ _ _ _ (sized (goal.at.returns c).In-Before).is within c.placed-next.ensures.0 c.placed-next.ensures.1 in
    let then : pred_apps_of c.placed-next.result ≡ placed compare_pred_app (pred_app_of c.args.entry) (pred_apps_of f) = seen ∙ sym (spot (goal.at.returns c).In-Before).1.1 in
    (rw then (sym (insert_new compare_pred_app _ max_pred_apps _ (spot (goal.at.returns c).In-Before).0 room)), c.placed-next.ensures.0 ∙ len_placed f.len (pred_apps_of f) (sized (goal.at.returns c).In-Before).is _ _ _ within seen)
