-- What a record that is carried out answers, as the definitions speak of it.
use Rattle.std.specs.Prelude.{List, []}
use Rattle.std.proofs.Math.Option.{Option, none, some}
use Rattle.ids.specs.Ids.{Handed, whole}
use Rattle.semantics.specs.Conflicts.{Conflict}
use Rattle.semantics.specs.Calls as calls
use Rattle.semantics.specs.Calls.{answers}
use Rattle.semantics.specs.Sheet as sheet
use Rattle.semantics.specs.Sheet.{Form}
use Rattle.structure.specs.View.{machine_of, answer_of}
use Rattle.conflicts.specs.View.{conflicts_of, handed_conflicts}
use Rattle.carrying.specs.declared.Carried.{Carried}

abbrev pub carried_step : Carried → calls.Step
carried_step r = answers (answer_of (conflicts_of r.conflicts) r.answer) (machine_of r.machine)

-- the conflicts that an answer lists: none where it is another
abbrev pub conflicts_beside : calls.Answer → List Conflict
conflicts_beside (calls.number n) = []
conflicts_beside (calls.says b) = []
conflicts_beside calls.done = []
conflicts_beside (calls.closed c) = []
conflicts_beside (calls.conflicting cs n) = cs
conflicts_beside (calls.summed t) = []
conflicts_beside (calls.found f) = []
conflicts_beside (calls.typed t) = []
conflicts_beside (calls.els es) = []
conflicts_beside (calls.refuse n) = []

-- a step, and the conflicts that stand beside its answer
pub record CarriedM : Type 0 where
  pub step : calls.Step
  pub conflicts : Handed (List Conflict)

abbrev pub carried_of : Carried → CarriedM
carried_of r = record { step = carried_step r; conflicts = handed_conflicts r.conflicts }

-- a step with the conflicts that its answer lists
abbrev pub with_conflicts : calls.Step → CarriedM
with_conflicts s = record { step = s; conflicts = whole (conflicts_beside s.answer) }

-- what a record that fits its kind's form answers
unfoldable pub form_step : Option Form → sheet.Record → calls.Machine → calls.Step
form_step none r m = sheet.carry_out none m
form_step (some f) r m = calls.step (f.call r) m
