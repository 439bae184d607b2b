-- What a call of kinds 1 to 5 makes of a machine.
use Rattle.std.specs.Prelude.{ℕ}
use Rattle.ids.specs.Answers.{Answered, accepted, refused, Outcome}
use Rattle.signature.specs.declared.Declared.{Declared}
use Rattle.signature.specs.declared.Declaring.{Declaring}
use Rattle.signature.specs.Model.{Sig}
use Rattle.signature.specs.Calls.{declared_answer, declared}
use Rattle.semantics.specs.Structure.{Structure}
use Rattle.semantics.specs.Calls.{Answer, number, refuse, Step, answers, machine}

abbrev pub number_of : Answered ℕ → Answer
number_of (accepted n) = number n
number_of (refused n) = refuse n

abbrev pub declared_of : Declared → Answer
declared_of d = number_of (declared_answer d)

-- an outcome on the signature, beside the structure s
abbrev pub on_signature : Structure → Outcome ℕ Sig → Step
on_signature s o = answers (number_of o.answer) (machine o.after s)

abbrev pub declaring_of : Structure → Declaring → Step
declaring_of s r = on_signature s (declared r)
