-- `AmbientEls::insert` meets its contract.
use mathlib.Core.Path.{refl}
use Rattle.signature.specs.Model.{max_types}
use Rattle.ids.proofs.Views.{long}
use Rattle.bindings.specs.View.{ambient_of}
use Rattle.bindings.proofs.Slots.{none_slot, ambients, bound_past, bound_given, bound_empty}
use borrow.Author.Rules.{rules}
use Rattle.bindings.proofs.AmbientEls.insert.Goals as goal

pub returns-then-at-ge-MAX_TYPES : goal.returns-then-at-ge-MAX_TYPES
returns-then-at-ge-MAX_TYPES c =
    let a = c.args in
    bound_past ambients (ambient_of a.a) max_types a.self.slots (search (rules, long)) c.if-at-ge-MAX_TYPES.true

pub returns-then-slot : goal.returns-then-slot
returns-then-slot c =
    let a = c.args in
    bound_given ambients (ambient_of a.a) max_types a.self.slots (search (rules, long)) none_slot c.if-at-ge-MAX_TYPES.false c.if-slot.true

pub returns : goal.returns
returns c =
    let a = c.args in
    bound_empty ambients (ambient_of a.a) max_types a.self.slots (search (rules, long)) none_slot c.if-at-ge-MAX_TYPES.false _ refl refl c.if-slot.false
