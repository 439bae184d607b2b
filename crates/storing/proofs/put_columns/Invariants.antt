use Rattle.file.specs.Layout.{by_columns}
use Rattle.storing.specs.View.{Written}
use Rattle.storing.proofs.put_columns.Given as goal

abbrev pub invariant-loop-j : goal.invariant-loop-j
invariant-loop-j l = Written l.initial.buffer l.at (by_columns l.j l.rows) l.buffer l.end
