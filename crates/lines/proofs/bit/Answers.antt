-- `bit` meets its contract.
use Rattle.semantics.specs.Sheet.{bit}
use borrow.Author.Rules.{rules}
use Rattle.lines.proofs.bit.Goals as goal

pub returns : goal.returns
unfolding bit
returns c = search rules
