-- `is_misapplied` meets its contract.
use mathlib.Core.Path.{refl}
use Rattle.signature.specs.Model.{model_of}
use Rattle.ids.proofs.Counted.{found, passed, ended}
use Rattle.ids.proofs.Tests.{told}
use Rattle.inserting.proofs.Laws.{by_arg_count}
use Rattle.inserting.proofs.is_misapplied.Goals as goal

pub loop-i-init : goal.loop-i-init
loop-i-init c = refl

pub returns-then-misapplies : goal.returns-then-misapplies
returns-then-misapplies c =
    let t = c.args.models in
    let is = told c.misapplies.ensures c.if-misapplies.true in
    found (by_arg_count _) model_of t.len t.items c.size-n.ensures _ c.loop-i.invariant _ c.loop-i-test.true is

pub loop-i-preserved : goal.loop-i-preserved
loop-i-preserved c =
    let t = c.args.models in
    let is = told c.misapplies.ensures c.if-misapplies.false in
    passed (by_arg_count _) model_of t.len t.items c.size-n.ensures _ c.loop-i.invariant _ c.loop-i-test.true is

pub returns : goal.returns
returns c =
    let t = c.args.models in
    ended (by_arg_count _) model_of t.len t.items c.size-n.ensures _ c.loop-i.invariant c.loop-i-test.false
