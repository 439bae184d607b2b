-- `fact_is_within` meets its contract.
use mathlib.Core.Path.{◌∙◌}
use mathlib.Core.Bool.{◌&&◌}
use lib.Dec.{ltb}
use Rattle.inserting.proofs.fact_is_within.Goals as goal

pub returns : goal.returns
returns c =
    let a = c.args in
    let both = c.and-named.ensures ∙ (λ i. ltb a.fact.ct.typ.0 a.types && c.all_below.ensures i) in
    c.and.ensures ∙ (λ i. ltb a.fact.el.0 a.els && both i)
