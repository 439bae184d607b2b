-- `resume` meets its contract.
use native.Mathlib.Omega.{arith}
use lib.ListN.{take}
use Rattle.ids.proofs.Tests.{told}
use Rattle.ids.proofs.Views.{take_same}
use Rattle.resuming.proofs.Laws.{resumes_ended, resumes}
use Rattle.resuming.proofs.resume.Goals as goal

pub returns-then-is_ended : goal.returns-then-is_ended
returns-then-is_ended c =
    let a = c.args in
    resumes_ended c.declare-declared.ensures (take a.size a.file.now) (told c.is_ended.ensures c.if-is_ended.true)

pub returns : goal.returns
returns c =
    let a = c.args in
    resumes c.declare-declared.ensures (take a.size a.file.now) (told c.is_ended.ensures c.if-is_ended.false)
    (take_same c.min.result a.size a.file.now (omega (arith, c.min.ensures))) c.restore.ensures
