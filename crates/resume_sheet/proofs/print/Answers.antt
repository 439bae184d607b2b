-- `print` meets its contract: what is printed is the line, and what comes after it.
use Prim.Native.Nat.{ℕ}
use mathlib.Core.Path.{◌≡◌, sym, ap, ◌∙◌}
use mathlib.Core.List.{List, [], append-nil}
use native.Mathlib.Omega.{arith}
use lib.ListN.{length, take}
use lib.Seq.{take_all}
use Rattle.std.specs.Prelude.{Result, Ok, Err, OnErr}
use Rattle.semantics.specs.Sheet.{Ran}
use Rattle.sheet.specs.Pieces.{ProgressM}
use Rattle.resuming.specs.Resuming.{waiting_of}
use Rattle.printing.proofs.Laws.{nothing_written, page_written, page_begun, on_error}
use Rattle.resume_sheet.proofs.print.Goals as goal

on_err : {T E P Q : Type 0} (r : Result T E) → (P → Q) → OnErr r P → OnErr r Q
on_err (Ok x) f h = tt
on_err (Err e) f h = f h

-- a file of all its bytes
printed_of : (file bytes : List ℕ) (p : ProgressM) (r : Ran) → waiting_of (take (length file) file) bytes p ≡ r → (waiting_of file bytes p).printed ≡ r.printed
printed_of file bytes p r h =
    ap (λ (f : List ℕ). (waiting_of f bytes p).printed) (sym (take_all (length file) file (omega arith))) ∙ ap (λ (q : Ran). q.printed) h

pub returns-in_err-write_line-clause-err : goal.returns-in_err-write_line-clause-err
returns-in_err-write_line-clause-err g c =
    on_error c.from_residual.result (page_begun (nothing_written _ _) _ _ (printed_of _ _ _ _ c.resume-piece.ensures.rest) c.in_err-write_line.ensures.err)

pub returns-clause-err : goal.returns-clause-err
returns-clause-err g c =
    let line = page_written (nothing_written _ _) _ _ (printed_of _ _ _ _ c.resume-piece.ensures.rest) c.in_ok-write_line.ensures.ok in
    on_err c.print.result (page_begun line _ [] (sym (append-nil _))) c.print.ensures.err
