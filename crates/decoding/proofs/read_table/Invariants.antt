use Rattle.decoding.specs.View.{Said}
use Rattle.decoding.proofs.read_table.Given as goal

abbrev pub invariant-loop-i : goal.invariant-loop-i
invariant-loop-i g l = Said g.T.Table.Says g.T.Table.COLUMNS l.n l.columns l.entries l.i
