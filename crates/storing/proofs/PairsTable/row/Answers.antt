-- `row` of `Pairs` meets its contract.
use Rattle.file.specs.Rows.{pair_row}
use Rattle.storing.proofs.PairsTable.row.Goals as goal

pub returns : goal.returns
unfolding pair_row
returns c = c.pair_row.ensures
