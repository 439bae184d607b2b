-- `VarEls::insert` meets its contract.
use mathlib.Core.Path.{refl}
use Rattle.semantics.specs.Structure.{max_vars}
use Rattle.ids.proofs.Views.{long}
use Rattle.bindings.specs.View.{var_of}
use Rattle.bindings.proofs.Slots.{none_slot, vars, bound_past, bound_given, bound_empty}
use borrow.Author.Rules.{rules}
use Rattle.bindings.proofs.VarEls.insert.Goals as goal

pub returns-then-at-ge-MAX_LEN : goal.returns-then-at-ge-MAX_LEN
returns-then-at-ge-MAX_LEN c =
    let a = c.args in
    bound_past vars (var_of a.v) max_vars a.self.slots (search (rules, long)) c.if-at-ge-MAX_LEN.true

pub returns-then-slot : goal.returns-then-slot
returns-then-slot c =
    let a = c.args in
    bound_given vars (var_of a.v) max_vars a.self.slots (search (rules, long)) none_slot c.if-at-ge-MAX_LEN.false c.if-slot.true

pub returns : goal.returns
returns c =
    let a = c.args in
    bound_empty vars (var_of a.v) max_vars a.self.slots (search (rules, long)) none_slot c.if-at-ge-MAX_LEN.false _ refl refl c.if-slot.false
