-- `up_to_line` meets its contract, and ends: each piece leaves fewer.
use mathlib.Core.Path.{sym, ◌∙◌}
use Rattle.ids.proofs.Tests.{told}
use Rattle.lines.specs.View.{line_of}
use Rattle.sheet.specs.View.{progress_of, piece_of}
use Rattle.sheet.proofs.Pieces.{fewer}
use Rattle.pechunaq.proofs.Laws.{over_ended, whole_reads, taken_line, taken_none, taken_now, taken_on}
use Rattle.pechunaq.proofs.up_to_line.Goals as goal

pub loop-next-smaller : goal.loop-next-smaller
loop-next-smaller c =
    let p = progress_of c.loop-next.piece.progress in
    fewer _ p (whole_reads c.args.sheet.now p c.record_in-next.ensures c.step-piece.ensures)
    (over_ended p.stage p.count (told c.is_over.ensures c.if-not-is_over.true))

pub loop-next-preserved : goal.loop-next-preserved
loop-next-preserved c =
    let l = c.loop-next in
    let p = progress_of l.piece.progress in
    let over = told c.is_over.ensures c.if-not-is_over.true in
    taken_on _ (piece_of l.piece)
    (taken_none (line_of l.piece.line) p (sym c.size.ensures.is ∙ c.loop-next-test.true) over)
    (over_ended p.stage p.count over)
    (whole_reads c.args.sheet.now p c.record_in-next.ensures c.step-piece.ensures)
    ∙ l.invariant

pub returns-else-not-is_over : goal.returns-else-not-is_over
returns-else-not-is_over c =
    let l = c.loop-next in
    let over = told c.is_over.ensures c.if-not-is_over.false in
    sym (taken_now _ _ _ (taken_none (line_of l.piece.line) (progress_of l.piece.progress) (sym c.size.ensures.is ∙ c.loop-next-test.true) over)) ∙ l.invariant

pub returns-after-loop-next : goal.returns-after-loop-next
returns-after-loop-next c =
    let l = c.loop-next in
    sym (taken_now _ _ _ (taken_line (line_of l.piece.line) (progress_of l.piece.progress) (λ e. c.loop-next-test.false (c.size.ensures.is ∙ e)))) ∙ l.invariant
