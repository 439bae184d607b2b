-- `AmbientEls::contains` meets its contract.
use Rattle.signature.specs.Model.{max_types}
use Rattle.ids.proofs.Views.{long}
use Rattle.bindings.specs.View.{ambient_of}
use Rattle.bindings.proofs.Slots.{none_slot, ambients, past_absent, given_present}
use borrow.Author.Rules.{rules}
use Rattle.bindings.proofs.AmbientEls.contains.Goals as goal

pub returns-then-at-ge-MAX_TYPES : goal.returns-then-at-ge-MAX_TYPES
returns-then-at-ge-MAX_TYPES c =
    let a = c.args in
    past_absent ambients (ambient_of a.a) max_types a.self.slots (search (rules, long)) c.if-at-ge-MAX_TYPES.true

pub returns : goal.returns
returns c =
    let a = c.args in
    given_present ambients (ambient_of a.a) max_types a.self.slots (search (rules, long)) none_slot c.if-at-ge-MAX_TYPES.false
