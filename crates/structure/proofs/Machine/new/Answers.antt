-- `Machine::new` meets its contract.
use Rattle.semantics.specs.Calls.{machine, start}
use Rattle.structure.proofs.Machine.new.Goals as goal

pub returns : goal.returns
unfolding start
returns c = λ i. machine (c.new.ensures i) (c.new-2.ensures i)
