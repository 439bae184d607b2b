-- `Line::put_number` meets its contract.
use Rattle.lines.proofs.Decimals.{add_number}
use borrow.Author.Rules.{rules}
use Rattle.lines.proofs.Line.put_number.Goals as goal

pub returns : goal.returns
returns c = add_number c.args.x (search rules) (rw c.from.ensures at c.put_spaced.ensures)
