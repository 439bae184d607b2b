-- Whether two signatures are the same: a test on the numbers that they hold.
use Rattle.std.specs.Prelude.{ℕ, Bool, true, false, ◌&&◌, List, [], ◌∷◌, map, eqb}
use Rattle.signature.specs.Model.{Sig, Kind, plain, model, enum, mor, TypeM, PredM, FuncM, ModelM, MorAppM}

module _ {A : Type 0} where
  -- two lists are the same, by a test on their entries
  unfoldable pub same_by : (A → A → Bool) → List A → List A → Bool
  same_by test [] [] = true
  same_by test [] (y ∷ ys) = false
  same_by test (x ∷ xs) [] = false
  same_by test (x ∷ xs) (y ∷ ys) = test x y && same_by test xs ys

-- The numbers of each entry, list by list.

unfoldable pub kind_numbers : Kind → List ℕ
kind_numbers plain = 0 ∷ []
kind_numbers model = 1 ∷ []
kind_numbers enum = 2 ∷ []
kind_numbers (mor t) = 3 ∷ t ∷ []

unfoldable pub type_numbers : TypeM → List (List ℕ)
type_numbers t = kind_numbers t.kind ∷ t.parents ∷ []

unfoldable pub pred_numbers : PredM → List (List ℕ)
pred_numbers p = p.parents ∷ p.arity ∷ []

unfoldable pub func_numbers : FuncM → List (List ℕ)
func_numbers f = f.parents ∷ f.domain ∷ (f.codomain ∷ []) ∷ []

unfoldable pub model_numbers : ModelM → List (List ℕ)
model_numbers m = (m.typ ∷ m.mor ∷ m.dom ∷ m.cod ∷ m.id ∷ m.comp ∷ []) ∷ []

unfoldable pub mor_app_numbers : MorAppM → List (List ℕ)
mor_app_numbers x = (x.func ∷ x.morphism_type ∷ x.member_type ∷ []) ∷ []

-- those of the tables, one after the other
unfoldable pub sig_numbers : Sig → List (List (List (List ℕ)))
sig_numbers g =
    map type_numbers g.types
    ∷ map pred_numbers g.preds
    ∷ map func_numbers g.funcs
    ∷ map model_numbers g.models
    ∷ map mor_app_numbers g.mor_apps
    ∷ []

unfoldable pub same_sig : Sig → Sig → Bool
same_sig g h = same_by (same_by (same_by (same_by eqb))) (sig_numbers g) (sig_numbers h)
