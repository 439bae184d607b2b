-- `morphism_operation_constraints` meets its contract.
use mathlib.Core.Path.{◌≡◌, refl, sym, ap, ◌∙◌}
use mathlib.Core.List.{map}
use native.Mathlib.Omega.{arith}
use lib.ListN.{length}
use lib.Seq.{take_at, length-take-le}
use Rattle.signature.specs.Model.{view_models, sig_of}
use Rattle.apps.specs.View.{func_app_of, no_func_app}
use Rattle.operations.proofs.Turns.{begins, lawless, no_model, app_obeyed, apps_obeyed, passed}
use Rattle.operations.proofs.morphism_operation_constraints.Goals as goal

pub returns-then-size-eq0 : goal.returns-then-size-eq0
returns-then-size-eq0 c preds =
    let none = no_model (view_models c.args.signature.models) _ (sym c.size.ensures.is ∙ c.if-size-eq0.true) in
    passed (sig_of c.args.signature) preds refl (lawless _ c.requires none)

pub loop-app-init : goal.loop-app-init
loop-app-init c = begins _ c.requires _

pub laws_of-now-requires : goal.laws_of-now-requires
laws_of-now-requires c = c.loop-app.invariant.holds

pub loop-app-preserved : goal.loop-app-preserved
loop-app-preserved c = app_obeyed _ _ _ c.loop-app.invariant no_func_app c.loop-app-test.true c.laws_of-now.ensures

pub returns : goal.returns
returns c preds =
    let n = c.args.turn.counts.func_apps in
    let apps = c.args.apps.now in
    let copied = c.copy_from_slice.ensures.after in
    let many : length c.copy_from_slice.new.self ≡ n = ap length copied ∙ length-take-le n apps (omega (arith, c.requires.apps_held.few, c.requires.apps_held.long)) in
    passed (sig_of c.args.signature) preds (ap (map func_app_of) (take_at c.copy_from_slice.new.self _ n many ∙ copied))
    (apps_obeyed _ _ c.loop-app.app-index c.loop-app.invariant c.loop-app-test.false)
