-- `has_its_parents` meets its contract.
use lib.Dec.{eqb}
use Rattle.inserting.proofs.has_its_parents.Goals as goal

pub returns : goal.returns
returns c = λ i. eqb (c.size-given.ensures.is i) (c.parent_count.ensures i)
