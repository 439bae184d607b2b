-- `MorAppFuncs::has_func` meets its contract.
use mathlib.Core.Path.{refl}
use borrow.Author.Tests.{eq-eqb, ne_eqb}
use Rattle.signature.specs.Model.{mor_app_of}
use Rattle.ids.proofs.Counted.{found, passed, ended}
use Rattle.signature.proofs.Laws.{by_func}
use Rattle.signature.proofs.MorAppFuncs.has_func.Goals as goal

pub loop-i-init : goal.loop-i-init
loop-i-init c = refl

pub returns-then-given-func : goal.returns-then-given-func
returns-then-given-func c =
    let t = c.args.self in
    let is = eq-eqb _ _ c.if-given-func.true in
    found (by_func _) mor_app_of t.len t.items c.size-n.ensures _ c.loop-i.invariant _ c.loop-i-test.true is

pub loop-i-preserved : goal.loop-i-preserved
loop-i-preserved c =
    let t = c.args.self in
    let is = ne_eqb _ _ c.if-given-func.false in
    passed (by_func _) mor_app_of t.len t.items c.size-n.ensures _ c.loop-i.invariant _ c.loop-i-test.true is

pub returns : goal.returns
returns c =
    let t = c.args.self in
    ended (by_func _) mor_app_of t.len t.items c.size-n.ensures _ c.loop-i.invariant c.loop-i-test.false
