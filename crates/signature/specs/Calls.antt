-- The calls of kinds 1 to 5 and the type lookup (01, "Types from the signature" and the table of refusals).
-- `started` is the structure's flag for number 4: some call of kinds 6 to 15 was accepted.
use Rattle.std.specs.Prelude.{ℕ, Bool, true, false, not, ◌&&◌, ◌||◌, List, [], ◌∷◌, ◌++◌, length, get_or, eqb, leb, ltb}
use Rattle.ids.specs.Answers.{Answered, accepted, refused, Cause, first_of, decided, Outcome, outcome, ◌if◌, malformed, too_late}
use Rattle.ids.specs.Answers.{undeclared, wrong_kind, given_again, no_room}
use Rattle.ids.specs.Ids.{too_long, all_below}
use Rattle.signature.specs.declared.Typed.{Typed}
use Rattle.signature.specs.declared.Typed.TheVariants.{At, Absent}
use Rattle.signature.specs.declared.TypeLookup.{TypeLookup}
use Rattle.signature.specs.declared.TypeLookup.TheVariants as lookup
use Rattle.signature.specs.declared.Declared.{Declared}
use Rattle.signature.specs.declared.Declared.TheVariants.{Number, Refused}
use Rattle.signature.specs.declared.Declaring.{Declaring}
use Rattle.signature.specs.Model.{Sig, Kind, plain, model, enum, mor, TypeM, PredM, FuncM, ModelM, MorAppM, max_types, max_preds}
use Rattle.signature.specs.Model.{max_funcs, max_models, max_mor_apps, no_type, type_at, with_types, with_preds, with_funcs, with_models}
use Rattle.signature.specs.Model.{with_mor_apps, sig_of}

-- "Numbers must have been declared earlier."

abbrev pub is_type : Sig → ℕ → Bool
is_type g t = ltb t (length g.types)

abbrev pub are_types : Sig → List ℕ → Bool
are_types g ts = all_below (length g.types) ts

abbrev pub is_func : Sig → ℕ → Bool
is_func g f = ltb f (length g.funcs)

-- the kind of a type

abbrev pub kind_is_model : Kind → Bool
kind_is_model plain = false
kind_is_model model = true
kind_is_model enum = false
kind_is_model (mor t) = false

abbrev pub kind_is_mor : Kind → Bool
kind_is_mor plain = false
kind_is_mor model = false
kind_is_mor enum = false
kind_is_mor (mor t) = true

abbrev pub kind_is_mor_of : ℕ → Kind → Bool
kind_is_mor_of a plain = false
kind_is_mor_of a model = false
kind_is_mor_of a enum = false
kind_is_mor_of a (mor t) = eqb t a

unfoldable pub is_model : Sig → ℕ → Bool
is_model g t = kind_is_model (type_at g t).kind

unfoldable pub is_mor : Sig → ℕ → Bool
is_mor g t = kind_is_mor (type_at g t).kind

unfoldable pub is_mor_of : Sig → ℕ → ℕ → Bool
is_mor_of g a t = kind_is_mor_of a (type_at g t).kind

-- "Mor's model": declared, and of kind Model; the other kinds name none
abbrev pub model_declared : Sig → Kind → Bool
model_declared g plain = true
model_declared g model = true
model_declared g enum = true
model_declared g (mor t) = is_type g t

abbrev pub model_is_model : Sig → Kind → Bool
model_is_model g plain = true
model_is_model g model = true
model_is_model g enum = true
model_is_model g (mor t) = is_model g t

-- "model type, function in records 4 and 5, morphism pair, .. given again"

unfoldable pub member : ℕ → List ℕ → Bool
member n [] = false
member n (x ∷ xs) = eqb n x || member n xs

-- a model of this type was given
unfoldable pub model_given : ℕ → List ModelM → Bool
model_given t [] = false
model_given t (m ∷ ms) = eqb m.typ t || model_given t ms

-- the functions that a model names
abbrev pub functions : ModelM → List ℕ
functions m = m.dom ∷ m.cod ∷ m.id ∷ m.comp ∷ []

-- a model that was given names this function
unfoldable pub in_models : ℕ → List ModelM → Bool
in_models f [] = false
in_models f (m ∷ ms) = member f (functions m) || in_models f ms

-- it is a morphism application function
unfoldable pub in_mor_apps : ℕ → List MorAppM → Bool
in_mor_apps f [] = false
in_mor_apps f (m ∷ ms) = eqb m.func f || in_mor_apps f ms

unfoldable pub function_given : Sig → ℕ → Bool
function_given g f = in_models f g.models || in_mor_apps f g.mor_apps

unfoldable pub any_given : Sig → List ℕ → Bool
any_given g [] = false
any_given g (f ∷ fs) = function_given g f || any_given g fs

-- a function that one record names twice is given again
unfoldable pub repeats : List ℕ → Bool
repeats [] = false
repeats (f ∷ fs) = member f fs || repeats fs

unfoldable pub pair_given : ℕ → ℕ → List MorAppM → Bool
pair_given mo me [] = false
pair_given mo me (m ∷ ms) = (eqb m.morphism_type mo && eqb m.member_type me) || pair_given mo me ms

-- Each call has its causes, in order, and its effect where none of them applies: an entry more in its table, whose number is the answer.

-- Kind 1, "type (A kind, B model of a Mor)".
unfoldable pub type_causes : Bool → Sig → TypeM → List Cause
type_causes started g t =
    malformed if too_long t.parents
    ∷ too_late if started
    ∷ undeclared if not (are_types g t.parents && model_declared g t.kind)
    ∷ wrong_kind if not (model_is_model g t.kind)
    ∷ no_room if leb max_types (length g.types)
    ∷ []

unfoldable pub with_type : Sig → TypeM → Sig
with_type g t = with_types g (g.types ++ (t ∷ []))

unfoldable pub push_type : Bool → Sig → TypeM → Outcome ℕ Sig
push_type started g t = outcome (type_causes started g t) g (length g.types) (with_type g t)

-- Kind 2, "predicate (arguments are its arity)".
unfoldable pub pred_causes : Bool → Sig → PredM → List Cause
pred_causes started g p =
    malformed if (too_long p.parents || too_long p.arity)
    ∷ too_late if started
    ∷ undeclared if not (are_types g p.parents && are_types g p.arity)
    ∷ no_room if leb max_preds (length g.preds)
    ∷ []

unfoldable pub with_pred : Sig → PredM → Sig
with_pred g p = with_preds g (g.preds ++ (p ∷ []))

unfoldable pub push_pred : Bool → Sig → PredM → Outcome ℕ Sig
push_pred started g p = outcome (pred_causes started g p) g (length g.preds) (with_pred g p)

-- Kind 3, "function (B codomain, arguments its domain)".
unfoldable pub func_causes : Bool → Sig → FuncM → List Cause
func_causes started g f =
    malformed if (too_long f.parents || too_long f.domain)
    ∷ too_late if started
    ∷ undeclared if not (are_types g f.parents && (are_types g f.domain && is_type g f.codomain))
    ∷ no_room if leb max_funcs (length g.funcs)
    ∷ []

unfoldable pub with_func : Sig → FuncM → Sig
with_func g f = with_funcs g (g.funcs ++ (f ∷ []))

unfoldable pub push_func : Bool → Sig → FuncM → Outcome ℕ Sig
push_func started g f = outcome (func_causes started g f) g (length g.funcs) (with_func g f)

-- "Numbers must have been declared earlier", of those that a model names
unfoldable pub model_ids_declared : Sig → ModelM → Bool
model_ids_declared g m = is_type g m.typ && (is_type g m.mor && all_below (length g.funcs) (functions m))

-- Kind 4, "model (A type, B mor, four arguments dom, cod, id, comp)".
unfoldable pub model_causes : Bool → Sig → ModelM → List Cause
model_causes started g m =
    too_late if started
    ∷ undeclared if not (model_ids_declared g m)
    ∷ wrong_kind if not (is_model g m.typ && is_mor_of g m.typ m.mor)
    ∷ given_again if (model_given m.typ g.models || (repeats (functions m) || any_given g (functions m)))
    ∷ no_room if leb max_models (length g.models)
    ∷ []

unfoldable pub with_model : Sig → ModelM → Sig
with_model g m = with_models g (g.models ++ (m ∷ []))

unfoldable pub push_model : Bool → Sig → ModelM → Outcome ℕ Sig
push_model started g m = outcome (model_causes started g m) g (length g.models) (with_model g m)

-- Kind 5, "morphism application function (A function; arguments morphism type, member type)".
unfoldable pub mor_app_causes : Bool → Sig → MorAppM → List Cause
mor_app_causes started g m =
    too_late if started
    ∷ undeclared if not (is_func g m.func && (is_type g m.morphism_type && is_type g m.member_type))
    ∷ wrong_kind if not (is_mor g m.morphism_type)
    ∷ given_again if (function_given g m.func || pair_given m.morphism_type m.member_type g.mor_apps)
    ∷ no_room if leb max_mor_apps (length g.mor_apps)
    ∷ []

unfoldable pub with_mor_app : Sig → MorAppM → Sig
with_mor_app g m = with_mor_apps g (g.mor_apps ++ (m ∷ []))

unfoldable pub push_mor_app : Bool → Sig → MorAppM → Outcome ℕ Sig
push_mor_app started g m = outcome (mor_app_causes started g m) g (length g.mor_apps) (with_mor_app g m)

-- how many parents a type has
abbrev pub parent_count : List TypeM → ℕ → ℕ
parent_count ts t = length (get_or ts t no_type).parents

-- "an own answer of type and parent count, the parents beside it"
pub data TypedM : Type 0 where
  at : ℕ → ℕ → TypedM
  absent : TypedM

-- `concrete_type_at`: "absent exactly when the type has more parents than were given, else the type with that many leading parents"
unfoldable pub concrete_type_at : List TypeM → ℕ → ℕ → TypedM
concrete_type_at ts t given = elim (ltb given (parent_count ts t)) [ true ↦ absent | false ↦ at t (parent_count ts t) ]

-- The type lookup: "3 for over four entries, 5 for an undeclared type".
unfoldable pub lookup_type_causes : Sig → ℕ → List ℕ → List Cause
lookup_type_causes g t ps = malformed if too_long ps ∷ undeclared if not (is_type g t) ∷ []

unfoldable pub lookup_type_of : Sig → ℕ → List ℕ → Answered TypedM
lookup_type_of g t ps = decided (first_of (lookup_type_causes g t ps)) (λ n. refused n) (accepted (concrete_type_at g.types t (length ps)))

-- The code's answers, as the definitions give them.

abbrev pub typed_of : Typed → TypedM
typed_of (At t n) = at t.0 n
typed_of Absent = absent

abbrev pub type_looked_of : TypeLookup → Answered TypedM
type_looked_of (lookup.Looked t) = accepted (typed_of t)
type_looked_of (lookup.Refused n) = refused n

abbrev pub declared_answer : Declared → Answered ℕ
declared_answer (Number n) = accepted n
declared_answer (Refused n) = refused n

abbrev pub declared : Declaring → Outcome ℕ Sig
declared r = record { answer = declared_answer r.answer; after = sig_of r.signature }
