-- `ambients_are_allowed` meets its contract.
use mathlib.Core.Path.{refl}
use Rattle.ids.proofs.Tests.{told}
use Rattle.signature.specs.Model.{sig_of}
use Rattle.semantics.specs.Structure.{ambient}
use Rattle.bindings.proofs.Slots.{none_slot}
use Rattle.validating.specs.View.{ambient_allowed}
use Rattle.validating.proofs.BySlot.{skipped, failed, passed, ended}
use Rattle.validating.proofs.ambients_are_allowed.Goals as goal

pub loop-typ-init : goal.loop-typ-init
loop-typ-init c = refl

pub loop-typ-preserved-then-not-slot : goal.loop-typ-preserved-then-not-slot
loop-typ-preserved-then-not-slot c =
    let a = c.args in
    skipped ambient a.slots.now _ (ambient_allowed (sig_of a.signature) a.els) c.loop-typ.invariant none_slot c.loop-typ-test.true
    c.if-not-slot.true

pub returns-then-not-ambient_is_allowed : goal.returns-then-not-ambient_is_allowed
returns-then-not-ambient_is_allowed c =
    let a = c.args in
    failed ambient a.slots.now _ (ambient_allowed (sig_of a.signature) a.els) c.loop-typ.invariant none_slot c.loop-typ-test.true
    c.if-not-slot.false (told c.ambient_is_allowed.ensures c.if-not-ambient_is_allowed.true)

pub loop-typ-preserved : goal.loop-typ-preserved
loop-typ-preserved c =
    let a = c.args in
    passed ambient a.slots.now _ (ambient_allowed (sig_of a.signature) a.els) c.loop-typ.invariant none_slot c.loop-typ-test.true
    c.if-not-slot.false (told c.ambient_is_allowed.ensures c.if-not-ambient_is_allowed.false)

pub returns : goal.returns
returns c =
    let a = c.args in
    ended ambient a.slots.now _ (ambient_allowed (sig_of a.signature) a.els) c.loop-typ.invariant c.loop-typ-test.false
