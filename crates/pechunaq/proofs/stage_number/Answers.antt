-- `stage_number` meets its contract.
use borrow.Author.Rules.{rules}
use Rattle.pechunaq.specs.Session.{stage_at}
use Rattle.pechunaq.proofs.stage_number.Goals as goal

pub returns-in-Refusing : goal.returns-in-Refusing
unfolding stage_at
returns-in-Refusing c = search rules

pub returns-in-Visiting : goal.returns-in-Visiting
unfolding stage_at
returns-in-Visiting c = search rules

pub returns-in-Listing : goal.returns-in-Listing
unfolding stage_at
returns-in-Listing c = search rules

pub returns-in-Ending : goal.returns-in-Ending
unfolding stage_at
returns-in-Ending c = search rules

pub returns-in-Ended : goal.returns-in-Ended
unfolding stage_at
returns-in-Ended c = search rules
