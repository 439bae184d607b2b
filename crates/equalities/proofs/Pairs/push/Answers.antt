-- `Pairs::push` meets its contract.
use Rattle.ids.proofs.Views.{long}
use Rattle.equalities.proofs.Queue.{counted_full, counted_room}
use borrow.Author.Rules.{rules}
use Rattle.equalities.proofs.Pairs.push.Goals as goal

pub returns-then-n-ge-MAX_LEN : goal.returns-then-n-ge-MAX_LEN
returns-then-n-ge-MAX_LEN c =
    let a = c.args in
    counted_full a.self a.pair c.size-n.ensures c.if-n-ge-MAX_LEN.true

pub returns : goal.returns
returns c =
    let a = c.args in
    counted_room a.self a.pair c.size-n.ensures (search (rules, long)) c.if-n-ge-MAX_LEN.false
