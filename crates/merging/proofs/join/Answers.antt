-- `join` meets its contract.
use Rattle.merging.proofs.Merged.{joined_less, joined_more, joined_same}
use Rattle.merging.proofs.join.Goals as goal

pub merge-requires : goal.merge-requires
merge-requires c =
    let p = c.requires in
    (p.0, (p.1.0, (p.1.1, c.if-a-b.true)))

pub returns-then-a-b : goal.returns-then-a-b
returns-then-a-b c =
    let a = c.args in
    joined_less a.els.now a.facts.now a.counts a.lhs.0 a.rhs.0 c.find-a.ensures c.find-b.ensures _ _ _ c.if-a-b.true
    c.merge.ensures

pub merge-requires-then-b-a : goal.merge-requires-then-b-a
merge-requires-then-b-a c =
    let p = c.requires in
    (p.0, (p.1.0, (p.1.1, c.if-b-a.true)))

pub returns-then-b-a : goal.returns-then-b-a
returns-then-b-a c =
    let a = c.args in
    joined_more a.els.now a.facts.now a.counts a.lhs.0 a.rhs.0 c.find-a.ensures c.find-b.ensures _ _ _ c.if-b-a.true
    c.merge-then-b-a.ensures

pub returns : goal.returns
returns c =
    let a = c.args in
    joined_same a.els.now a.facts.now a.counts a.lhs.0 a.rhs.0 c.find-a.ensures c.find-b.ensures c.if-b-a.false
    c.if-a-b.false c.requires.0 c.requires.1.0
