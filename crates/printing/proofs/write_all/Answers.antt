-- `write_all` meets its contract.
use Rattle.printing.proofs.Laws.{begun, none_begun, written_on, on_error}
use Rattle.printing.proofs.write_all.Goals as goal

pub returns-in_err-n-clause-err : goal.returns-in_err-n-clause-err
returns-in_err-n-clause-err g c =
    on_error c.from_residual.result (none_begun c.loop-rest.invariant c.in_err-n.ensures.bytes)

pub returns-then-n-eq0-clause-err : goal.returns-then-n-eq0-clause-err
returns-then-n-eq0-clause-err g c = begun c.loop-rest.invariant _ c.in_ok-n.ensures.bytes

pub loop-rest-preserved : goal.loop-rest-preserved
loop-rest-preserved g c = written_on c.loop-rest.invariant _ c.in_ok-n.ensures.bytes
