-- `goes_on` meets its contract.
use Rattle.rounds.proofs.Laws.{none_met}
use Rattle.rounds.proofs.goes_on.Goals as goal

pub returns-then-worked : goal.returns-then-worked
returns-then-worked c = rw c.if-worked.true (none_met c.args.met c.is_none.result c.is_none.ensures)
