-- `is_declaring` meets its contract.
use Rattle.resuming.specs.Resuming.{declares}
use borrow.Author.Rules.{rules}
use Rattle.resuming.proofs.is_declaring.Goals as goal

pub returns : goal.returns
unfolding declares
returns c = search rules
