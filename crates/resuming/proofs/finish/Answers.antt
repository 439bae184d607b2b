-- `finish` meets its contract, and ends: each piece leaves fewer.
use Rattle.ids.proofs.Tests.{told}
use Rattle.sheet.specs.View.{progress_of}
use Rattle.sheet.proofs.Pieces.{fewer}
use Rattle.resuming.proofs.Laws.{going_on, last_ended}
use Rattle.resuming.proofs.finish.Goals as goal

pub loop-piece-smaller : goal.loop-piece-smaller
loop-piece-smaller c =
    let p = progress_of c.loop-piece.piece.progress in
    fewer _ p c.advance-piece.ensures (last_ended p.stage (told c.is_last.ensures c.loop-piece-test.true))

pub loop-piece-preserved : goal.loop-piece-preserved
loop-piece-preserved c = going_on c.loop-piece.invariant c.advance-piece.ensures (told c.is_last.ensures c.loop-piece-test.true)
