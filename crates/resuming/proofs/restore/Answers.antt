-- `restore` meets its contract.
use mathlib.Core.Path.{refl}
use native.Mathlib.Omega.{arith}
use Rattle.sheet.specs.View.{progress_of}
use Rattle.sheet.proofs.Laws.{both}
use Rattle.resuming.specs.Resuming.{loaded_piece}
use Rattle.resuming.proofs.Laws.{restores_long, restores}
use Rattle.resuming.proofs.restore.Goals as goal

pub returns-then-file-gt-MAX_BYTES : goal.returns-then-file-gt-MAX_BYTES
returns-then-file-gt-MAX_BYTES c =
    let a = c.args in
    restores_long a.file.now (progress_of a.progress) (omega (arith, c.if-file-gt-MAX_BYTES.true)) c.refuse.ensures

pub returns-in-Ok : goal.returns-in-Ok
unfolding loaded_piece
returns-in-Ok c =
    let a = c.args in
    restores a.file.now (progress_of a.progress) (omega (arith, c.if-file-gt-MAX_BYTES.false)) c.load-loading.result c.load-loading.ensures c.in-Ok.is
    (both c.new.ensures refl)

pub returns-in-Err : goal.returns-in-Err
unfolding loaded_piece
returns-in-Err c =
    let a = c.args in
    restores a.file.now (progress_of a.progress) (omega (arith, c.if-file-gt-MAX_BYTES.false)) c.load-loading.result c.load-loading.ensures c.in-Err.is
    c.refuse-in-Err.ensures
