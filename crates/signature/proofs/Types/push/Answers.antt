-- `Types::push` meets its contract.
use Rattle.ids.proofs.Views.{long}
use Rattle.signature.specs.Model.{type_of}
use Rattle.ids.proofs.Counted.{counted_at, counted_past}
use borrow.Author.Rules.{rules}
use Rattle.signature.proofs.Types.push.Goals as goal

pub returns-then-at-ge-MAX_TYPES : goal.returns-then-at-ge-MAX_TYPES
returns-then-at-ge-MAX_TYPES c =
    let t = c.args.self in
    counted_past type_of t.len t.items c.size-n.ensures _ c.if-at-ge-MAX_TYPES.true

pub returns : goal.returns
returns c =
    let t = c.args.self in
    counted_at type_of t.len t.items c.size-n.ensures _ (search (rules, long)) c.if-at-ge-MAX_TYPES.false
