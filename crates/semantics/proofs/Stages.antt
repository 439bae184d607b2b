-- A round by its passes: what a list of passes does follows from a law of each. A stage is what holds of a turn, and the law of a pass leads from
-- one stage to the next, so that one more pass is one more entry in a list of laws.
use mathlib.Core.Path.{◌≡◌, subst}
use mathlib.Core.List.{List, [], ◌∷◌}
use Rattle.signature.specs.Model.{Sig}
use Rattle.semantics.specs.Structure.{PredApp}
use Rattle.semantics.specs.Close.{Turn, Pass, run_passes}

abbrev pub Stage : Type 1
Stage = Turn → Type 0

-- a law for each of the passes, from the stage before the first to the stage after the last
abbrev pub Along : (Pass → Stage → Stage → Type 1) → List Pass → Stage → Stage → Type 1
Along Law [] A B = A ≡ B
Along Law (p ∷ ps) A C = (B : Stage) × Law p A B × Along Law ps B C

-- where each pass keeps its law, the list leads from its first stage to its last
pub run_along : (Law : Pass → Stage → Stage → Type 1) (g : Sig) (preds : List PredApp)
    → ((p : Pass) (A B : Stage) → Law p A B → (t : Turn) → A t → B (p g preds t))
    → (ps : List Pass) (A B : Stage) → Along Law ps A B → (t : Turn) → A t → B (run_passes ps g preds t)
unfolding run_passes
run_along Law g preds leads [] A B l t h = subst (λ (C : Stage). C t) l h
run_along Law g preds leads (p ∷ ps) A C l t h = run_along Law g preds leads ps l.0 C l.2 (p g preds t) (leads p A l.0 l.1 t h)
