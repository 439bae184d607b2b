-- `push_mor_app_func` meets its contract.
use Rattle.signature.specs.Calls.{push_mor_app}
use Rattle.semantics.specs.Calls.{rule, step}
use Rattle.declaring.proofs.Laws.{declares_step}
use Rattle.declaring.proofs.push_mor_app_func.Goals as goal

pub returns : goal.returns
unfolding push_mor_app rule step
returns c = declares_step _ _ _ _ _ c.push_mor_app_func.ensures
