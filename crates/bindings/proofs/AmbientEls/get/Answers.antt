-- `AmbientEls::get` meets its contract.
use mathlib.Core.Path.{sym, ap}
use Rattle.signature.specs.Model.{max_types}
use Rattle.semantics.specs.Structure.{ambient}
use Rattle.semantics.specs.Calls as calls
use Rattle.ids.proofs.Views.{long}
use Rattle.bindings.specs.View.{ambient_el_of}
use Rattle.bindings.proofs.Slots.{none_slot, ambients, found_past, found_given, found_empty}
use borrow.Author.Rules.{rules}
use Rattle.bindings.proofs.AmbientEls.get.Goals as goal

pub returns-then-at-ge-MAX_TYPES : goal.returns-then-at-ge-MAX_TYPES
unfolding calls.ambient_of
returns-then-at-ge-MAX_TYPES c =
    let a = c.args in
    sym (ap ambient_el_of (found_past ambients (ambient a.typ.0 0) max_types a.self.slots (search (rules, long)) c.if-at-ge-MAX_TYPES.true))

pub returns-then-slot : goal.returns-then-slot
unfolding calls.ambient_of
returns-then-slot c =
    let a = c.args in
    sym (ap ambient_el_of (found_given ambients (ambient a.typ.0 0) max_types a.self.slots (search (rules, long)) none_slot c.if-at-ge-MAX_TYPES.false
    c.if-slot.true))

pub returns : goal.returns
unfolding calls.ambient_of
returns c =
    let a = c.args in
    sym (ap ambient_el_of (found_empty ambients (ambient a.typ.0 0) max_types a.self.slots (search (rules, long)) none_slot c.if-at-ge-MAX_TYPES.false
    c.if-slot.false))
