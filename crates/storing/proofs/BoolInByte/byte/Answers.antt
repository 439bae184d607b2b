-- `byte` of `bool` meets its contract.
use borrow.Author.Rules.{rules}
use Rattle.semantics.specs.Sheet.{bit}
use Rattle.storing.proofs.BoolInByte.byte.Goals as goal

pub returns : goal.returns
unfolding bit
returns c = search rules
