-- `Types::parent_count` meets its contract.
use mathlib.Core.Path.{ap, ◌∙◌}
use lib.ListN.{length}
use Rattle.signature.specs.Model.{TypeM}
use Rattle.signature.proofs.Types.parent_count.Goals as goal

pub returns : goal.returns
returns c = c.size.ensures.is ∙ ap (λ (t : TypeM). length t.parents) c.get-data.ensures
