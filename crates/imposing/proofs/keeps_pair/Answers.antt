-- `keeps_pair` meets its contract.
use Rattle.el_rows.specs.View.{links_in, marks_in}
use Rattle.imposing.proofs.Kept.{pair_one, pair_two}
use Rattle.imposing.proofs.keeps_pair.Goals as goal

pub returns-then-a-b : goal.returns-then-a-b
returns-then-a-b c =
    let a = c.args in
    pair_one (links_in a.els.now) (marks_in a.els.now) a.p.0 a.q.0 c.find-a.ensures c.find-b.ensures c.if-a-b.true

pub returns : goal.returns
returns c =
    let a = c.args in
    pair_two (links_in a.els.now) (marks_in a.els.now) a.p.0 a.q.0 c.find-a.ensures c.find-b.ensures
    c.if-a-b.false c.either_marked.ensures
