-- `canonical_fact` meets its contract.
use Rattle.facts.specs.View.{fact_of}
use Rattle.ids.proofs.Lists.{as_held}
use Rattle.canonical.proofs.Laws.{fact_roots}
use Rattle.canonical.proofs.canonical_fact.Goals as goal

pub returns : goal.returns
returns c =
    fact_roots _ (fact_of c.args.fact) c.find-found.ensures (as_held c.roots-parents.ensures)
