-- `push_pred` meets its contract.
use Rattle.signature.specs.Calls.{push_pred}
use Rattle.semantics.specs.Calls.{rule, step}
use Rattle.declaring.proofs.Laws.{declares_step}
use Rattle.declaring.proofs.push_pred.Goals as goal

pub returns : goal.returns
unfolding push_pred rule step
returns c = declares_step _ _ _ _ _ c.push_pred.ensures
