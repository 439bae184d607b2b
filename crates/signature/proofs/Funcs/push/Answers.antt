-- `Funcs::push` meets its contract.
use Rattle.ids.proofs.Views.{long}
use Rattle.signature.specs.Model.{func_of}
use Rattle.ids.proofs.Counted.{counted_at, counted_past}
use borrow.Author.Rules.{rules}
use Rattle.signature.proofs.Funcs.push.Goals as goal

pub returns-then-at-ge-MAX_FUNCS : goal.returns-then-at-ge-MAX_FUNCS
returns-then-at-ge-MAX_FUNCS c =
    let t = c.args.self in
    counted_past func_of t.len t.items c.size-n.ensures _ c.if-at-ge-MAX_FUNCS.true

pub returns : goal.returns
returns c =
    let t = c.args.self in
    counted_at func_of t.len t.items c.size-n.ensures _ (search (rules, long)) c.if-at-ge-MAX_FUNCS.false
