-- `Impositions::push` meets its contract.
use Rattle.ids.proofs.Views.{long}
use Rattle.ids.proofs.Counted.{counted_at, counted_past}
use Rattle.facts.specs.View.{fact_of}
use borrow.Author.Rules.{rules}
use Rattle.facts.proofs.Impositions.push.Goals as goal

pub returns-then-n-ge-MAX_LEN : goal.returns-then-n-ge-MAX_LEN
returns-then-n-ge-MAX_LEN c =
    let a = c.args in
    counted_past fact_of a.self.len a.self.items c.size-n.ensures (fact_of a.entry) c.if-n-ge-MAX_LEN.true

pub returns : goal.returns
returns c =
    let a = c.args in
    counted_at fact_of a.self.len a.self.items c.size-n.ensures a.entry (search (rules, long)) c.if-n-ge-MAX_LEN.false
