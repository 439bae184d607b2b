-- `is_id_or_comp` meets its contract.
use mathlib.Core.Path.{refl}
use borrow.Author.Tests.{eq-eqb, ne_eqb}
use Rattle.ids.proofs.Answers.{or_left, or_neither}
use Rattle.signature.specs.Model.{model_of}
use Rattle.ids.proofs.Counted.{found, passed, ended}
use Rattle.ids.proofs.Tests.{or_then}
use Rattle.inserting.proofs.Laws.{by_operation}
use Rattle.inserting.proofs.is_id_or_comp.Goals as goal

pub loop-i-init : goal.loop-i-init
loop-i-init c = refl

pub returns-then-func-ids : goal.returns-then-func-ids
returns-then-func-ids c =
    let t = c.args.models in
    let is = or_left _ (eq-eqb _ _ c.if-func-ids.true) in
    found (by_operation _) model_of t.len t.items c.size-n.ensures _ c.loop-i.invariant _ c.loop-i-test.true is

pub returns-then-func-ids-2 : goal.returns-then-func-ids-2
returns-then-func-ids-2 c =
    let t = c.args.models in
    let is = or_then (ne_eqb _ _ c.if-func-ids.false) (eq-eqb _ _ c.if-func-ids-2.true) in
    found (by_operation _) model_of t.len t.items c.size-n.ensures _ c.loop-i.invariant _ c.loop-i-test.true is

pub loop-i-preserved : goal.loop-i-preserved
loop-i-preserved c =
    let t = c.args.models in
    let is = or_neither (ne_eqb _ _ c.if-func-ids.false) (ne_eqb _ _ c.if-func-ids-2.false) in
    passed (by_operation _) model_of t.len t.items c.size-n.ensures _ c.loop-i.invariant _ c.loop-i-test.true is

pub returns : goal.returns
returns c =
    let t = c.args.models in
    ended (by_operation _) model_of t.len t.items c.size-n.ensures _ c.loop-i.invariant c.loop-i-test.false
