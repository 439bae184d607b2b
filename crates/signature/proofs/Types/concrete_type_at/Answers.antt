-- `Types::concrete_type_at` meets its contract.
use Rattle.signature.proofs.Laws.{too_few, enough}
use Rattle.signature.proofs.Types.concrete_type_at.Goals as goal

pub returns-then-given-n : goal.returns-then-given-n
returns-then-given-n c = too_few _ _ _ _ c.parent_count-n.ensures c.if-given-n.true

pub returns : goal.returns
returns c = enough _ _ _ _ c.parent_count-n.ensures c.if-given-n.false
