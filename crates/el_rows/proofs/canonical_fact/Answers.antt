-- `canonical_fact` meets its contract.
use Rattle.facts.specs.View.{fact_of}
use Rattle.el_rows.specs.View.{links_in}
use Rattle.el_rows.proofs.Laws.{fact_roots}
use Rattle.el_rows.proofs.canonical_fact.Goals as goal

pub returns : goal.returns
returns c =
    let a = c.args in
    fact_roots (links_in a.els.now) (fact_of a.fact) c.find-el.ensures c.roots-parents.ensures
