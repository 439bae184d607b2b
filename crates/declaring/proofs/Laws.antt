-- What a call of kinds 1 to 5 makes of the signature is its step on a machine: the structure stays.
use Prim.Native.Nat.{ℕ}
use mathlib.Core.Path.{◌≡◌, refl, ap, ◌∙◌}
use mathlib.Core.List.{List}
use mathlib.Core.Option.{Option, none, some}
use Rattle.ids.specs.Answers.{Cause, first_of, decided, Outcome, outcome, refusing, accepting}
use Rattle.signature.specs.Model.{Sig}
use Rattle.semantics.specs.Structure.{Structure}
use Rattle.semantics.specs.Calls.{declares, machine, leaves, settled_by, acceptance, refusal, step_by}
use Rattle.declaring.specs.View.{on_signature}

module _ (s : Structure) (cs : List Cause) (g g' : Sig) (n : ℕ) where
  pub declares_step : {o : Outcome ℕ Sig} → o ≡ outcome cs g n g' → on_signature s o ≡ step_by (declares cs n g' (machine g s)) (machine g s)
  unfolding outcome step_by
  declares_step e = ap (on_signature s) e ∙ go (first_of cs)
    where
      go : (v : Option ℕ) → on_signature s (decided v (refusing g) (accepting n g'))
          ≡ decided v (refusal (machine g s)) (acceptance (declares cs n g' (machine g s)))
      go none = unfold decided acceptance leaves settled_by in refl
      go (some m) = unfold decided in refl
