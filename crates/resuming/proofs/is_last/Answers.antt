-- `is_last` meets its contract.
use Rattle.resuming.proofs.Laws.{last_in, last_not}
use Rattle.resuming.proofs.is_last.Goals as goal

pub returns-in-Ending : goal.returns-in-Ending
returns-in-Ending c = last_in _ c.in-Ending.is

pub returns-in_default : goal.returns-in_default
returns-in_default c = last_not _ c.in_default.not-Ending c.in_default.not-Ended
