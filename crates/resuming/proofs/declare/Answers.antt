-- `declare` meets its contract, and ends: each piece leaves fewer.
use Rattle.ids.proofs.Tests.{told}
use Rattle.sheet.specs.View.{progress_of}
use Rattle.sheet.proofs.Laws.{both}
use Rattle.sheet.proofs.Pieces.{fewer}
use Rattle.resuming.proofs.Laws.{waits_start, waits_on}
use Rattle.resuming.proofs.declare.Goals as goal

pub loop-piece-init : goal.loop-piece-init
loop-piece-init c = waits_start _ c.args.length (both c.new.ensures c.start.ensures)

pub loop-piece-smaller : goal.loop-piece-smaller
loop-piece-smaller c =
    fewer _ (progress_of c.loop-piece.piece.progress) c.advance-piece.ensures (told c.is_ended.ensures c.loop-piece-test.true)

pub loop-piece-preserved : goal.loop-piece-preserved
loop-piece-preserved c =
    waits_on c.loop-piece.invariant c.advance-piece.ensures (told c.is_ended.ensures c.loop-piece-test.true) (told c.is_due.ensures c.if-not-is_due.true)
