-- The laws of identities and composites (02, M-102, `morphism_operation_constraints`): what the applications of a model's id and comp say of its dom
-- and cod.
use Rattle.std.specs.Prelude.{ℕ, true, false, List, [], ◌∷◌, ◌++◌, eqb}
use Rattle.signature.specs.Model.{ModelM}
use Rattle.semantics.specs.Structure.{FuncApp, func_app}

-- a side of an equation: a function, applied to one element
pub record Side : Type 0 where
  pub func : ℕ
  pub el : ℕ

abbrev pub side : ℕ → ℕ → Side
side f e = record { func = f; el = e }

-- what a law says
pub data MapLaw : Type 0 where
  -- an application holds
  application : FuncApp → MapLaw
  -- over these parents two sides are equal: the one has a value exactly when the other has it
  equation : List ℕ → Side → Side → MapLaw

-- id(P; a) = r gives dom(P; r) = a and cod(P; r) = a. With another number of arguments, which 12 refuses, it says nothing; so below.
unfoldable pub identity_laws : ModelM → List ℕ → List ℕ → ℕ → List MapLaw
identity_laws m ps [] r = []
identity_laws m ps (a ∷ []) r = application (func_app m.dom ps (r ∷ []) a) ∷ application (func_app m.cod ps (r ∷ []) a) ∷ []
identity_laws m ps (a ∷ b ∷ xs) r = []

-- comp(P; f, g) = h gives dom(P; f) = dom(P; h), cod(P; g) = cod(P; h) and cod(P; f) = dom(P; g)
unfoldable pub composition_laws : ModelM → List ℕ → List ℕ → ℕ → List MapLaw
composition_laws m ps [] h = []
composition_laws m ps (f ∷ []) h = []
composition_laws m ps (f ∷ g ∷ []) h =
    equation ps (side m.dom f) (side m.dom h)
    ∷ equation ps (side m.cod g) (side m.cod h)
    ∷ equation ps (side m.cod f) (side m.dom g)
    ∷ []
composition_laws m ps (f ∷ g ∷ k ∷ xs) h = []

-- of one application, in one model: as one of id, and as one of comp

abbrev pub identity_laws_in : ModelM → FuncApp → List MapLaw
identity_laws_in m x = elim (eqb x.func m.id) [ true ↦ identity_laws m x.parents x.args x.result | false ↦ [] ]

abbrev pub composition_laws_in : ModelM → FuncApp → List MapLaw
composition_laws_in m x = elim (eqb x.func m.comp) [ true ↦ composition_laws m x.parents x.args x.result | false ↦ [] ]

unfoldable pub map_laws_in : ModelM → FuncApp → List MapLaw
map_laws_in m x = identity_laws_in m x ++ composition_laws_in m x

-- in each model
unfoldable pub map_laws_of : List ModelM → FuncApp → List MapLaw
map_laws_of [] x = []
map_laws_of (m ∷ ms) x = map_laws_in m x ++ map_laws_of ms x

-- of all applications, in order
unfoldable pub map_laws : List ModelM → List FuncApp → List MapLaw
map_laws ms [] = []
map_laws ms (x ∷ xs) = map_laws_of ms x ++ map_laws ms xs
