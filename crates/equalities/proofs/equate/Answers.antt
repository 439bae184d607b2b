-- `equate` meets its contract.
use Rattle.equalities.proofs.Queue.{equated}
use Rattle.equalities.proofs.equate.Goals as goal

pub returns : goal.returns
returns c =
    equated _ _ _ _ _ c.root_value-first.ensures c.root_value-second.ensures c.push-next.ensures.0
