-- `Models::has_func` meets its contract.
use mathlib.Core.Path.{refl}
use Rattle.signature.specs.Model.{model_of}
use Rattle.ids.proofs.Counted.{found, passed, ended}
use Rattle.ids.proofs.Tests.{told}
use Rattle.signature.proofs.Laws.{by_name}
use Rattle.signature.proofs.Models.has_func.Goals as goal

pub loop-i-init : goal.loop-i-init
loop-i-init c = refl

pub returns-then-names : goal.returns-then-names
returns-then-names c =
    let t = c.args.self in
    let is = told c.names.ensures c.if-names.true in
    found (by_name _) model_of t.len t.items c.size-n.ensures _ c.loop-i.invariant _ c.loop-i-test.true is

pub loop-i-preserved : goal.loop-i-preserved
loop-i-preserved c =
    let t = c.args.self in
    let is = told c.names.ensures c.if-names.false in
    passed (by_name _) model_of t.len t.items c.size-n.ensures _ c.loop-i.invariant _ c.loop-i-test.true is

pub returns : goal.returns
returns c =
    let t = c.args.self in
    ended (by_name _) model_of t.len t.items c.size-n.ensures _ c.loop-i.invariant c.loop-i-test.false
