-- `laws_of` meets its contract.
use native.Mathlib.Omega.{arith}
use Rattle.apps.specs.View.{func_app_of}
use Rattle.operations.proofs.Turns.{begins, model_obeyed, models_obeyed}
use Rattle.operations.proofs.laws_of.Goals as goal

pub loop-i-init : goal.loop-i-init
loop-i-init c = begins _ c.requires _

pub laws_in-now-requires : goal.laws_in-now-requires
laws_in-now-requires c = c.loop-i.invariant.holds

pub loop-i-preserved : goal.loop-i-preserved
loop-i-preserved c =
    let a = c.args in
    model_obeyed a.models (func_app_of a.app) _ c.loop-i.invariant _ (omega (arith, c.loop-i-test.true, c.size-n.ensures.is))
    c.laws_in-now.ensures

pub returns : goal.returns
returns c =
    let a = c.args in
    models_obeyed a.models (func_app_of a.app) c.loop-i.i c.loop-i.invariant (omega (arith, c.loop-i-test.false, c.size-n.ensures.is))
