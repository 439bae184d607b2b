-- `fact_is_declared` meets its contract.
use mathlib.Core.Path.{◌∙◌}
use Rattle.facts.specs.View.{fact_of}
use Rattle.inserting.specs.View.{fact_within}
use Rattle.inserting.proofs.fact_is_declared.Goals as goal

pub returns : goal.returns
returns c =
    c.fact_is_within.ensures
    ∙ (λ i. fact_within (c.size.ensures.is i) (c.size-2.ensures.is i) (fact_of c.args.fact))
