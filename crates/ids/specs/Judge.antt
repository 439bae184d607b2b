-- A verdict reached cause by cause, as the code judges a call.
use Rattle.std.specs.Prelude.{ℕ, true, false}
use Rattle.std.proofs.Math.Option.{Option, none, some}
use Rattle.ids.specs.declared.Verdict.{Verdict}
use Rattle.ids.specs.declared.Verdict.TheVariants as verdicts
use Rattle.ids.specs.Answers.{Cause}

-- the number that refuses, if one does
abbrev pub verdict_of : Verdict → Option ℕ
verdict_of verdicts.Accepted = none
verdict_of (verdicts.Refused n) = some n

-- one more cause judged: a number that was given stays
unfoldable pub or_if : Option ℕ → Cause → Option ℕ
or_if (some n) c = some n
or_if none c = elim c.applies [ true ↦ some c.number | false ↦ none ]
