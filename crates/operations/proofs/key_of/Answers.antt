-- `key_of` meets its contract.
use mathlib.Core.Path.{◌∙◌}
use mathlib.Core.List.{[], ◌∷◌}
use Rattle.ids.specs.Ids.{els_of}
use Rattle.semantics.specs.Structure.{func_app}
use Rattle.semantics.specs.Close.{key_of}
use Rattle.operations.proofs.key_of.Goals as goal

pub returns : goal.returns
unfolding key_of
returns c =
    let a = c.args in
    c.unary.ensures ∙ (λ i. func_app a.side.func.0 (els_of a.parents) (c.find-root.ensures i ∷ []) 0)
