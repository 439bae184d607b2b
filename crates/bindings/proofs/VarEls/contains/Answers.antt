-- `VarEls::contains` meets its contract.
use Rattle.semantics.specs.Structure.{max_vars}
use Rattle.ids.proofs.Views.{long}
use Rattle.bindings.specs.View.{var_of}
use Rattle.bindings.proofs.Slots.{none_slot, vars, past_absent, given_present}
use borrow.Author.Rules.{rules}
use Rattle.bindings.proofs.VarEls.contains.Goals as goal

pub returns-then-at-ge-MAX_LEN : goal.returns-then-at-ge-MAX_LEN
returns-then-at-ge-MAX_LEN c =
    let a = c.args in
    past_absent vars (var_of a.v) max_vars a.self.slots (search (rules, long)) c.if-at-ge-MAX_LEN.true

pub returns : goal.returns
returns c =
    let a = c.args in
    given_present vars (var_of a.v) max_vars a.self.slots (search (rules, long)) none_slot c.if-at-ge-MAX_LEN.false
