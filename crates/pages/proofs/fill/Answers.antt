-- `fill` meets its contract.
use native.Mathlib.Omega.{arith}
use Rattle.ids.proofs.Tests.{told}
use Rattle.sheet.specs.View.{progress_of}
use Rattle.sheet.proofs.Pieces.{fewer}
use Rattle.pages.proofs.Laws.{empty_page, more, full, ended}
use Rattle.pages.proofs.fill.Goals as goal

pub loop-n-init : goal.loop-n-init
loop-n-init c = empty_page _ _ _

pub loop-n-smaller : goal.loop-n-smaller
loop-n-smaller c =
    fewer _ (progress_of c.loop-n.at) c.advance-piece.ensures (told c.is_ended.ensures c.if-not-is_ended.true)

pub loop-n-preserved : goal.loop-n-preserved
loop-n-preserved c =
    let put = c.put_line-n.ensures in
    more c.loop-n.invariant c.advance-piece.ensures put (omega (arith, put.most, put.same))

pub returns-after-loop-n : goal.returns-after-loop-n
returns-after-loop-n c = full c.loop-n.invariant (omega (arith, c.loop-n-test.false))

pub returns-else-not-is_ended : goal.returns-else-not-is_ended
returns-else-not-is_ended c =
    ended c.loop-n.invariant (told c.is_ended.ensures c.if-not-is_ended.false)
