-- `Line::put_spaced` meets its contract.
use Rattle.lines.proofs.Decimals.{add_wide}
use borrow.Author.Rules.{rules}
use Rattle.lines.proofs.Line.put_spaced.Goals as goal

pub returns : goal.returns
returns c = add_wide _ c.args.x (search rules) c.put.ensures c.put_decimal.ensures
