-- The laws of identities and composites (02, M-102), as a set of applications keeps them.
use Rattle.std.specs.Prelude.{◌↔◌, List, [], ◌∷◌, ℕ}
use Rattle.signature.specs.Model.{ModelM}
use Rattle.semantics.specs.Structure.{FuncApp, func_app}

-- "closed under these laws" (02, M-102): what applications of a model's id and comp that are in S say of its dom and cod
pub record Obeys (S : FuncApp → Type 0) (m : ModelM) : Type 0 where
  -- id(P; a) = r gives dom(P; r) = a
  pub id_dom : (ps : List ℕ) (a r : ℕ) → S (func_app m.id ps (a ∷ []) r) → S (func_app m.dom ps (r ∷ []) a)
  -- and cod(P; r) = a
  pub id_cod : (ps : List ℕ) (a r : ℕ) → S (func_app m.id ps (a ∷ []) r) → S (func_app m.cod ps (r ∷ []) a)
  -- comp(P; f, g) = h: dom(P; f) = x exactly when dom(P; h) = x
  pub comp_dom : (ps : List ℕ) (f g h x : ℕ) → S (func_app m.comp ps (f ∷ g ∷ []) h)
      → S (func_app m.dom ps (f ∷ []) x) ↔ S (func_app m.dom ps (h ∷ []) x)
  -- cod(P; g) = x exactly when cod(P; h) = x
  pub comp_cod : (ps : List ℕ) (f g h x : ℕ) → S (func_app m.comp ps (f ∷ g ∷ []) h)
      → S (func_app m.cod ps (g ∷ []) x) ↔ S (func_app m.cod ps (h ∷ []) x)
  -- cod(P; f) = x exactly when dom(P; g) = x
  pub comp_middle : (ps : List ℕ) (f g h x : ℕ) → S (func_app m.comp ps (f ∷ g ∷ []) h)
      → S (func_app m.cod ps (f ∷ []) x) ↔ S (func_app m.dom ps (g ∷ []) x)
