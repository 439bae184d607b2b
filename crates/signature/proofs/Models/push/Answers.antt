-- `Models::push` meets its contract.
use Rattle.ids.proofs.Views.{long}
use Rattle.signature.specs.Model.{model_of}
use Rattle.ids.proofs.Counted.{counted_at, counted_past}
use borrow.Author.Rules.{rules}
use Rattle.signature.proofs.Models.push.Goals as goal

pub returns-then-at-ge-MAX_MODELS : goal.returns-then-at-ge-MAX_MODELS
returns-then-at-ge-MAX_MODELS c =
    let t = c.args.self in
    counted_past model_of t.len t.items c.size-n.ensures _ c.if-at-ge-MAX_MODELS.true

pub returns : goal.returns
returns c =
    let t = c.args.self in
    counted_at model_of t.len t.items c.size-n.ensures _ (search (rules, long)) c.if-at-ge-MAX_MODELS.false
