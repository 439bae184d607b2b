-- `Verdict::refuse_if` meets its contract.
use mathlib.Core.Path.{ap}
use Rattle.ids.specs.Judge.{verdict_of}
use Rattle.ids.proofs.Judging.{stays_refused, is_refused, stays_accepted}
use Rattle.ids.proofs.Verdict.refuse_if.Goals as goal

pub returns-then-applies : goal.returns-then-applies
returns-then-applies c = is_refused _ _ _ (ap verdict_of c.in-Accepted.is) c.if-applies.true

pub returns-in-Refused : goal.returns-in-Refused
returns-in-Refused c = stays_refused _ _ _ _ (ap verdict_of c.in-Refused.is)

pub returns-else-applies : goal.returns-else-applies
returns-else-applies c = stays_accepted _ _ _ (ap verdict_of c.in-Accepted.is) c.if-applies.false
