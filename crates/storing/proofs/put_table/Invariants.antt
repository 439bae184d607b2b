use lib.ListN.{length, take}
use Rattle.rows.proofs.Copying.{Copied}
use Rattle.storing.proofs.put_table.Given as goal

abbrev pub invariant-loop-i : goal.invariant-loop-i
invariant-loop-i g l = Copied g.T.Table.row_of (take g.T.Table.COLUMNS) (length l.entries) (length l.initial.rows) l.entries l.rows l.i
