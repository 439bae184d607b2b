-- `is_reserved` meets its contract.
use mathlib.Core.Path.{◌∙◌}
use mathlib.Core.Bool.{◌&&◌, ◌||◌}
use lib.Dec.{ltb}
use Rattle.semantics.specs.Calls.{is_reserved}
use Rattle.inserting.proofs.is_reserved.Goals as goal

pub returns : goal.returns
unfolding is_reserved
returns c =
    let many = c.size-stands.ensures.is in
    c.or.ensures
    ∙ (λ i. c.has_func.ensures i || (c.and-operation.ensures ∙ (λ j. c.is_id_or_comp.ensures j && ltb 0 (many j))) i)
