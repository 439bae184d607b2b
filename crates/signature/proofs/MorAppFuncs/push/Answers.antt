-- `MorAppFuncs::push` meets its contract.
use Rattle.ids.proofs.Views.{long}
use Rattle.signature.specs.Model.{mor_app_of}
use Rattle.ids.proofs.Counted.{counted_at, counted_past}
use borrow.Author.Rules.{rules}
use Rattle.signature.proofs.MorAppFuncs.push.Goals as goal

pub returns-then-at-ge-MAX_MOR_APPS : goal.returns-then-at-ge-MAX_MOR_APPS
returns-then-at-ge-MAX_MOR_APPS c =
    let t = c.args.self in
    counted_past mor_app_of t.len t.items c.size-n.ensures _ c.if-at-ge-MAX_MOR_APPS.true

pub returns : goal.returns
returns c =
    let t = c.args.self in
    counted_at mor_app_of t.len t.items c.size-n.ensures _ (search (rules, long)) c.if-at-ge-MAX_MOR_APPS.false
