-- `close_sheet` meets its contract.
use native.Mathlib.Omega.{arith}
use Rattle.std.proofs.Common.{List, ℕ, ◌≡◌, length}
use Rattle.std.specs.Io.KnownBytes.{Appends}
use Rattle.semantics.specs.Sheet.{max_sheet}
use Rattle.printing.specs.Printing.{AppendsFront}
use Rattle.reading.specs.Reading.{IsInput}
use Rattle.close_sheet.proofs.Program.{sheet_read, was_read, told, on_ok, on_err}
use Rattle.close_sheet.proofs.close_sheet.Goals as goal

pub returns-clause-ok : goal.returns-clause-ok
returns-clause-ok g c =
    let room : length c.read_all.new.bytes ≡ max_sheet = omega (arith, c.read_all.auto.bytes) in
    let input = was_read _ (IsInput _ _ c.read_all.new.bytes) _ _ _ c.map_err.ensures.cases c.map_err.ensures.variant c.in_ok-read.was c.read_all.ensures.input in
    let sheet = sheet_read _ _ _ _ _ _ room input c.unwrap_or-length.ensures c.start.ensures in
    on_ok c.print.result c.map_err-2.result c.map_err-2.ensures.variant (told (λ (l : List ℕ). Appends (g.W.Write.contents c.args.output.now) (g.W.Write.contents c.print.new.to) l) _ _ sheet) c.print.ensures.ok

pub returns-clause-err : goal.returns-clause-err
returns-clause-err g c =
    let room : length c.read_all.new.bytes ≡ max_sheet = omega (arith, c.read_all.auto.bytes) in
    let input = was_read _ (IsInput _ _ c.read_all.new.bytes) _ _ _ c.map_err.ensures.cases c.map_err.ensures.variant c.in_ok-read.was c.read_all.ensures.input in
    let sheet = sheet_read _ _ _ _ _ _ room input c.unwrap_or-length.ensures c.start.ensures in
    on_err c.print.result c.map_err-2.result c.map_err-2.ensures.variant (told (λ (l : List ℕ). AppendsFront (g.W.Write.contents c.args.output.now) (g.W.Write.contents c.print.new.to) l) _ _ sheet) c.print.ensures.err
