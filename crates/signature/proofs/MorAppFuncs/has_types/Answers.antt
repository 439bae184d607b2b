-- `MorAppFuncs::has_types` meets its contract.
use mathlib.Core.Path.{refl}
use borrow.Author.Tests.{eq-eqb, ne_eqb}
use Rattle.ids.proofs.Answers.{and_left}
use Rattle.signature.specs.Model.{mor_app_of}
use Rattle.ids.proofs.Counted.{found, passed, ended}
use Rattle.ids.proofs.Tests.{and_then}
use Rattle.signature.proofs.Laws.{by_pair}
use Rattle.signature.proofs.MorAppFuncs.has_types.Goals as goal

pub loop-i-init : goal.loop-i-init
loop-i-init c = refl

pub loop-i-preserved-then-given-types : goal.loop-i-preserved-then-given-types
loop-i-preserved-then-given-types c =
    let t = c.args.self in
    let is = and_left _ (ne_eqb _ _ c.if-given-types.true) in
    passed (by_pair _ _) mor_app_of t.len t.items c.size-n.ensures _ c.loop-i.invariant _ c.loop-i-test.true is

pub returns-then-given-types-2 : goal.returns-then-given-types-2
returns-then-given-types-2 c =
    let t = c.args.self in
    let is = and_then (eq-eqb _ _ c.if-given-types.false) (eq-eqb _ _ c.if-given-types-2.true) in
    found (by_pair _ _) mor_app_of t.len t.items c.size-n.ensures _ c.loop-i.invariant _ c.loop-i-test.true is

pub loop-i-preserved : goal.loop-i-preserved
loop-i-preserved c =
    let t = c.args.self in
    let is = and_then (eq-eqb _ _ c.if-given-types.false) (ne_eqb _ _ c.if-given-types-2.false) in
    passed (by_pair _ _) mor_app_of t.len t.items c.size-n.ensures _ c.loop-i.invariant _ c.loop-i-test.true is

pub returns : goal.returns
returns c =
    let t = c.args.self in
    ended (by_pair _ _) mor_app_of t.len t.items c.size-n.ensures _ c.loop-i.invariant c.loop-i-test.false
