-- `print` meets its contract, and ends: each page leaves fewer pieces.
use Prim.Native.Nat.{◌-◌, ◌≤◌, ◌<◌}
use mathlib.Core.Path.{ap}
use native.Mathlib.Omega.{arith}
use Rattle.ids.proofs.Tests.{told}
use Rattle.semantics.specs.Sheet.{Ran}
use Rattle.sheet.specs.Pieces.{pieces_of}
use Rattle.sheet.specs.View.{progress_of}
use Rattle.sheet.proofs.Pieces.{some_to_come}
use Rattle.printing.proofs.Laws.{page_written, page_begun, all_written, on_error}
use Rattle.printing.proofs.Ended.{ended_nothing}
use Rattle.printing.proofs.print.Goals as goal

pub returns-in_err-write_all-clause-err : goal.returns-in_err-write_all-clause-err
returns-in_err-write_all-clause-err g c =
    on_error c.from_residual.result (page_begun c.loop-text.invariant _ _ (ap (λ (r : Ran). r.printed) c.fill-page.ensures.rest) c.in_err-write_all.ensures.err)

pub loop-text-smaller : goal.loop-text-smaller
loop-text-smaller g c =
    let p = progress_of c.loop-text.progress in
    let bytes = c.args.bytes.now in
    let some : 0 < pieces_of bytes p = some_to_come bytes p (told c.is_ended.ensures c.loop-text-test.true) in
    let less : pieces_of bytes (progress_of c.fill-page.result.progress) ≤ pieces_of bytes p - 1 = c.fill-page.ensures.less in
    omega (arith, some, less)

pub loop-text-preserved : goal.loop-text-preserved
loop-text-preserved g c =
    page_written c.loop-text.invariant _ _ (ap (λ (r : Ran). r.printed) c.fill-page.ensures.rest) c.in_ok-write_all.ensures.ok

pub returns-clause-ok : goal.returns-clause-ok
returns-clause-ok g c =
    let l = c.loop-text in
    all_written l.invariant (ended_nothing c.args.bytes.now (progress_of l.progress) (told c.is_ended.ensures c.loop-text-test.false))
