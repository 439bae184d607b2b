-- `Structure::are_els` meets its contract.
use mathlib.Core.Path.{◌∙◌}
use Rattle.ids.specs.Ids.{els_of, all_below}
use Rattle.structure.proofs.Structure.are_els.Goals as goal

pub returns : goal.returns
returns c = c.all_below.ensures ∙ (λ k. all_below (c.size.ensures.is k) (els_of c.args.els))
