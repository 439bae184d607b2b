-- `leading` meets its contract.
use native.Mathlib.Omega.{arith}
use Rattle.typing.proofs.Laws.{cut, uncut}
use Rattle.typing.proofs.leading.Goals as goal

pub returns-then-n-parents : goal.returns-then-n-parents
returns-then-n-parents c =
    let a = c.args in
    cut a.parents a.n (omega (arith, c.if-n-parents.true))

pub returns-else-n-parents : goal.returns-else-n-parents
returns-else-n-parents c =
    let a = c.args in
    uncut a.parents a.n c.if-n-parents.false
