-- `push_func` meets its contract.
use Rattle.signature.specs.Calls.{push_func}
use Rattle.semantics.specs.Calls.{rule, step}
use Rattle.declaring.proofs.Laws.{declares_step}
use Rattle.declaring.proofs.push_func.Goals as goal

pub returns : goal.returns
unfolding push_func rule step
returns c = declares_step _ _ _ _ _ c.push_func.ensures
