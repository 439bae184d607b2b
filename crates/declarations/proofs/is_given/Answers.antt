-- `is_given` meets its contract.
use mathlib.Core.Path.{◌∙◌}
use mathlib.Core.Bool.{◌||◌}
use Rattle.signature.specs.Calls.{function_given}
use Rattle.declarations.proofs.is_given.Goals as goal

pub returns : goal.returns
unfolding function_given
returns c = c.or.ensures ∙ (λ i. c.has_func.ensures i || c.has_func-2.ensures i)
