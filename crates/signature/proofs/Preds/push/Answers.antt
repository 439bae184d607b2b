-- `Preds::push` meets its contract.
use Rattle.ids.proofs.Views.{long}
use Rattle.signature.specs.Model.{pred_of}
use Rattle.ids.proofs.Counted.{counted_at, counted_past}
use borrow.Author.Rules.{rules}
use Rattle.signature.proofs.Preds.push.Goals as goal

pub returns-then-at-ge-MAX_PREDS : goal.returns-then-at-ge-MAX_PREDS
returns-then-at-ge-MAX_PREDS c =
    let t = c.args.self in
    counted_past pred_of t.len t.items c.size-n.ensures _ c.if-at-ge-MAX_PREDS.true

pub returns : goal.returns
returns c =
    let t = c.args.self in
    counted_at pred_of t.len t.items c.size-n.ensures _ (search (rules, long)) c.if-at-ge-MAX_PREDS.false
