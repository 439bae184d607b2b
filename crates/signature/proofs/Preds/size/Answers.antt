-- `Preds::size` meets its contract.
use Rattle.ids.proofs.Views.{long}
use Rattle.signature.specs.Model.{max_preds, pred_of}
use Rattle.ids.proofs.Counted.{size_below, size_over}
use borrow.Author.Rules.{rules}
use Rattle.signature.proofs.Preds.size.Goals as goal

pub returns-then-n-lt-MAX_PREDS : goal.returns-then-n-lt-MAX_PREDS
returns-then-n-lt-MAX_PREDS c =
    let t = c.args.self in
    size_below pred_of t.len t.items max_preds (search (rules, long)) c.if-n-lt-MAX_PREDS.true

pub returns-else-n-lt-MAX_PREDS : goal.returns-else-n-lt-MAX_PREDS
returns-else-n-lt-MAX_PREDS c =
    let t = c.args.self in
    size_over pred_of t.len t.items max_preds (search (rules, long)) c.if-n-lt-MAX_PREDS.false
