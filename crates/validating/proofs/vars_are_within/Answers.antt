-- `vars_are_within` meets its contract.
use mathlib.Core.Path.{refl}
use native.Mathlib.Omega.{arith}
use borrow.Author.Tests.{lt-ltb, le-ltb}
use Rattle.ids.proofs.Tests.{and_then}
use Rattle.semantics.specs.Structure.{variable, max_vars}
use Rattle.bindings.proofs.Slots.{none_slot}
use Rattle.validating.specs.View.{var_within}
use Rattle.validating.proofs.BySlot.{skipped, failed, passed, ended}
use Rattle.validating.proofs.vars_are_within.Goals as goal

pub loop-slot-init : goal.loop-slot-init
loop-slot-init c = refl

pub loop-slot-preserved-then-not-slot : goal.loop-slot-preserved-then-not-slot
loop-slot-preserved-then-not-slot c =
    let a = c.args in
    skipped variable a.slots.now _ (var_within a.els) c.loop-slot.invariant none_slot c.loop-slot-test.true c.if-not-slot.true

pub returns-then-els-slot : goal.returns-then-els-slot
returns-then-els-slot c =
    let a = c.args in
    failed variable a.slots.now _ (var_within a.els) c.loop-slot.invariant none_slot c.loop-slot-test.true c.if-not-slot.false
    (and_then (lt-ltb _ max_vars (omega (arith, c.loop-slot-test.true, c.requires))) (le-ltb _ a.els c.if-els-slot.true))

pub loop-slot-preserved : goal.loop-slot-preserved
loop-slot-preserved c =
    let a = c.args in
    passed variable a.slots.now _ (var_within a.els) c.loop-slot.invariant none_slot c.loop-slot-test.true c.if-not-slot.false
    (and_then (lt-ltb _ max_vars (omega (arith, c.loop-slot-test.true, c.requires))) (lt-ltb _ a.els c.if-els-slot.false))

pub returns : goal.returns
returns c = ended variable c.args.slots.now _ (var_within c.args.els) c.loop-slot.invariant c.loop-slot-test.false
