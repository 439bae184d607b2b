-- `push_type` meets its contract.
use Rattle.signature.specs.Calls.{push_type}
use Rattle.semantics.specs.Calls.{rule, step}
use Rattle.declaring.proofs.Laws.{declares_step}
use Rattle.declaring.proofs.push_type.Goals as goal

pub returns : goal.returns
unfolding push_type rule step
returns c = declares_step _ _ _ _ _ c.push_type.ensures
