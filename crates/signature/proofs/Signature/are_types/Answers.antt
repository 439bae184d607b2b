-- `Signature::are_types` meets its contract.
use mathlib.Core.Path.{◌∙◌}
use Rattle.ids.specs.Ids.{types_of, all_below}
use Rattle.signature.proofs.Signature.are_types.Goals as goal

pub returns : goal.returns
returns c = c.all_below.ensures ∙ (λ k. all_below (c.size.ensures.is k) (types_of c.args.ts))
