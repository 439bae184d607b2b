-- What loading answers, as the definitions speak of it.
use Rattle.std.specs.Prelude.{ℕ}
use Rattle.std.specs.declared.result.Result.{Result}
use Rattle.std.specs.declared.result.Result.TheVariants.{Ok, Err}
use Rattle.ids.specs.Answers.{Answered, accepted, refused}
use Rattle.structure.specs.declared.Structure.{Structure}
use Rattle.semantics.specs.Structure as model
use Rattle.semantics.specs.Structure.{empty}
use Rattle.structure.specs.View.{structure_of}
use Rattle.loading.specs.declared.Loading.{Loading}

-- what a load answers, and the structure that stands beside the answer
pub record LoadingM : Type 0 where
  pub answer : Answered model.Structure
  pub beside : model.Structure

-- beside an accepted load the structure that it gives, beside a refused one the empty one
unfoldable pub loading : Answered model.Structure → LoadingM
loading (accepted s) = record { answer = accepted s; beside = s }
loading (refused n) = record { answer = refused n; beside = empty }

abbrev pub answer_of : Result Unit ℕ → model.Structure → Answered model.Structure
answer_of (Ok u) s = accepted s
answer_of (Err n) s = refused n

-- the structure that is loaded, or a number
abbrev pub answered : Result Structure ℕ → Answered model.Structure
answered (Ok s) = accepted (structure_of s)
answered (Err n) = refused n

abbrev pub loading_of : Loading → LoadingM
loading_of r = record { answer = answer_of r.answer (structure_of r.structure); beside = structure_of r.structure }
