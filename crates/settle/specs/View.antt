-- What a settle comes to, as the definitions speak of it.
use Rattle.std.specs.Prelude.{ℕ, ◌≡◌}
use Rattle.std.proofs.Math.Option.{Option, none, some}
use Rattle.ids.specs.Judge.{verdict_of}
use Rattle.signature.specs.Model.{Sig}
use Rattle.semantics.specs.Structure.{Structure}
use Rattle.semantics.specs.Calls.{settle_run, sums_of}
use Rattle.structure.specs.declared.Answer.{Answer}
use Rattle.structure.specs.declared.Answer.TheVariants.{Number, Says, Done, Closed, Conflicting, Summed, Refused}
use Rattle.structure.specs.View.{structure_of, totals_of}
use Rattle.settle.specs.declared.SettleRun.{SettleRun}

-- the number of a refusal
abbrev pub refused_by : Answer → Option ℕ
refused_by (Number n) = none
refused_by (Says b) = none
refused_by Done = none
refused_by (Closed c) = none
refused_by (Conflicting n) = none
refused_by (Summed t) = none
refused_by (Refused n) = some n

-- the run of the code is the definition's, whether a number refuses the settle or not
pub record SettleRunIs (g : Sig) (s : Structure) (r : SettleRun) : Type 0 where
  pub met : verdict_of r.verdict ≡ (settle_run g s).met
  pub totals : totals_of r.totals ≡ sums_of (settle_run g s).reports
  pub after : structure_of r.structure ≡ (settle_run g s).after
