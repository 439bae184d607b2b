-- `Line::put_fact` meets its contract.
use Rattle.facts.specs.View.{fact_of}
use Rattle.lines.proofs.Decimals.{add_more}
use Rattle.lines.proofs.Line.put_fact.Goals as goal

pub returns : goal.returns
returns c =
    let f = fact_of c.args.fact in
    add_more f.typ f.parents c.put_number.ensures c.put_els.ensures
