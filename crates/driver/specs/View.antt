-- What a call of a list answers, as the definitions speak of it.
use Rattle.std.specs.Prelude.{List}
use Rattle.std.proofs.Math.Option.{none, some}
use Rattle.ids.specs.Ids.{given_els}
use Rattle.unification.specs.Roots.{found}
use Rattle.semantics.specs.Conflicts.{Conflict}
use Rattle.semantics.specs.Calls as calls
use Rattle.semantics.specs.Calls.{answers, concrete_type}
use Rattle.structure.specs.View.{machine_of, answer_of}
use Rattle.conflicts.specs.View.{conflicts_of, handed_conflicts}
use Rattle.carrying.specs.View.{CarriedM}
use Rattle.driver.specs.declared.Response.{Response}
use Rattle.driver.specs.declared.Response.TheVariants as responses
use Rattle.driver.specs.declared.Responded.{Responded}

abbrev pub response_of : List Conflict → Response → calls.Answer
response_of cs (responses.Answered a) = answer_of cs a
response_of cs (responses.Found f) = calls.found (found f)
response_of cs (responses.Typed t es) = calls.typed (some (concrete_type t.0 (given_els es)))
response_of cs responses.Absent = calls.typed none
response_of cs (responses.Els es) = calls.els (given_els es)

abbrev pub responded_step : Responded → calls.Step
responded_step r = answers (response_of (conflicts_of r.conflicts) r.response) (machine_of r.machine)

-- a step, and the conflicts that stand beside its answer
abbrev pub responded_of : Responded → CarriedM
responded_of r = record { step = responded_step r; conflicts = handed_conflicts r.conflicts }
