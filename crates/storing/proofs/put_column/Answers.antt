-- `put_column` meets its contract.
use mathlib.Core.Path.{ap, ◌∙◌}
use mathlib.Core.List.{List, []}
use Prim.Native.Nat.{ℕ}
use lib.ListN.{get_or}
use Rattle.file.specs.Layout.{byte, column}
use Rattle.storing.proofs.Writing.{written_nothing, written_room, written_next, written_all}
use Rattle.storing.proofs.put_column.Goals as goal

pub loop-row-init : goal.loop-row-init
loop-row-init c = written_nothing _ _

pub bounds-buffer-end : goal.bounds-buffer-end
bounds-buffer-end c = written_room _ c.args.rows.now c.loop-row.invariant c.loop-row-test.true c.requires

pub loop-row-preserved : goal.loop-row-preserved
loop-row-preserved c =
    written_next (λ (r : List ℕ). byte (get_or r c.args.j 0)) c.args.rows.now c.loop-row.invariant c.loop-row-test.true c.requires []
    (c.byte.ensures ∙ ap byte c.cell.ensures)

pub returns : goal.returns
unfolding column
returns c = written_all _ c.args.rows.now c.loop-row.invariant c.loop-row-test.false
