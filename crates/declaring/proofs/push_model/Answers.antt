-- `push_model` meets its contract.
use Rattle.signature.specs.Calls.{push_model}
use Rattle.semantics.specs.Calls.{rule, step}
use Rattle.declaring.proofs.Laws.{declares_step}
use Rattle.declaring.proofs.push_model.Goals as goal

pub returns : goal.returns
unfolding push_model rule step
returns c = declares_step _ _ _ _ _ c.push_model.ensures
