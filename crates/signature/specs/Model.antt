-- The signature (01, "Types from the signature") as the definitions speak of it, and the view of the code's tables.
use Rattle.std.specs.Prelude.{ℕ, List, [], map, take, get_or}
use Rattle.ids.specs.Ids.{types_of, given_types}
use Rattle.signature.specs.declared.TypeKind.{TypeKind}
use Rattle.signature.specs.declared.TypeKind.TheVariants.{Plain, Model, Enum, Mor}
use Rattle.signature.specs.declared.Type as code-type
use Rattle.signature.specs.declared.Pred.{Pred}
use Rattle.signature.specs.declared.Func.{Func}
use Rattle.signature.specs.declared.ModelIds.{ModelIds}
use Rattle.signature.specs.declared.MorAppFunc.{MorAppFunc}
use Rattle.signature.specs.declared.Types.{Types}
use Rattle.signature.specs.declared.Preds.{Preds}
use Rattle.signature.specs.declared.Funcs.{Funcs}
use Rattle.signature.specs.declared.Models.{Models}
use Rattle.signature.specs.declared.MorAppFuncs.{MorAppFuncs}
use Rattle.signature.specs.declared.Signature.{Signature}

-- "Types (at most 32)"
abbrev pub max_types : ℕ
max_types = 32

-- "Predicates (32)"
abbrev pub max_preds : ℕ
max_preds = 32

-- "Functions (64)"
abbrev pub max_funcs : ℕ
max_funcs = 64

-- "Models (8)"
abbrev pub max_models : ℕ
max_models = 8

-- "Up to 32 morphism application functions"
abbrev pub max_mor_apps : ℕ
max_mor_apps = 32

-- "a kind, 0 Plain, 1 Model, 2 Enum, 3 Mor with its model type"
pub data Kind : Type 0 where
  plain : Kind
  model : Kind
  enum : Kind
  mor : ℕ → Kind

-- "Types (at most 32) have a kind, .. and enclosing model types, outermost first."
pub record TypeM : Type 0 where
  pub kind : Kind
  pub parents : List ℕ

abbrev pub type_entry : Kind → List ℕ → TypeM
type_entry k ps = record { kind = k; parents = ps }

-- "Predicates (32) have parents and arity."
pub record PredM : Type 0 where
  pub parents : List ℕ
  pub arity : List ℕ

abbrev pub pred_entry : List ℕ → List ℕ → PredM
pred_entry ps arity = record { parents = ps; arity = arity }

-- "Functions (64) have parents, domain and codomain."
pub record FuncM : Type 0 where
  pub parents : List ℕ
  pub domain : List ℕ
  pub codomain : ℕ

abbrev pub func_entry : List ℕ → List ℕ → ℕ → FuncM
func_entry ps domain codomain = record { parents = ps; domain = domain; codomain = codomain }

-- "Models (8) name type, mor, dom, cod, id, comp."
pub record ModelM : Type 0 where
  pub typ : ℕ
  pub mor : ℕ
  pub dom : ℕ
  pub cod : ℕ
  pub id : ℕ
  pub comp : ℕ

abbrev pub model_entry : ℕ → ℕ → ℕ → ℕ → ℕ → ℕ → ModelM
model_entry t m d c i p = record { typ = t; mor = m; dom = d; cod = c; id = i; comp = p }

-- "morphism application functions have a morphism and a member type"
pub record MorAppM : Type 0 where
  pub func : ℕ
  pub morphism_type : ℕ
  pub member_type : ℕ

abbrev pub mor_app_entry : ℕ → ℕ → ℕ → MorAppM
mor_app_entry f morphism member = record { func = f; morphism_type = morphism; member_type = member }

pub record Sig : Type 0 where
  pub types : List TypeM
  pub preds : List PredM
  pub funcs : List FuncM
  pub models : List ModelM
  pub mor_apps : List MorAppM

abbrev pub sig : List TypeM → List PredM → List FuncM → List ModelM → List MorAppM → Sig
sig ts ps fs ms xs = record { types = ts; preds = ps; funcs = fs; models = ms; mor_apps = xs }

unfoldable pub empty : Sig
empty = sig [] [] [] [] []

-- each table replaced, the others as they were
unfoldable pub with_types : Sig → List TypeM → Sig
with_types g ts = sig ts g.preds g.funcs g.models g.mor_apps

unfoldable pub with_preds : Sig → List PredM → Sig
with_preds g ps = sig g.types ps g.funcs g.models g.mor_apps

unfoldable pub with_funcs : Sig → List FuncM → Sig
with_funcs g fs = sig g.types g.preds fs g.models g.mor_apps

unfoldable pub with_models : Sig → List ModelM → Sig
with_models g ms = sig g.types g.preds g.funcs ms g.mor_apps

unfoldable pub with_mor_apps : Sig → List MorAppM → Sig
with_mor_apps g xs = sig g.types g.preds g.funcs g.models xs

-- what stands for a type, a predicate or a function that is not declared
abbrev pub no_type : TypeM
no_type = type_entry plain []

abbrev pub no_pred : PredM
no_pred = pred_entry [] []

abbrev pub no_func : FuncM
no_func = func_entry [] [] 0

abbrev pub type_at : Sig → ℕ → TypeM
type_at g t = get_or g.types t no_type

abbrev pub pred_at : Sig → ℕ → PredM
pred_at g p = get_or g.preds p no_pred

abbrev pub func_at : Sig → ℕ → FuncM
func_at g f = get_or g.funcs f no_func

-- The view of the code's tables.

abbrev pub kind_of : TypeKind → Kind
kind_of Plain = plain
kind_of Model = model
kind_of Enum = enum
kind_of (Mor t) = mor t.0

abbrev pub type_of : code-type.Type → TypeM
type_of t = type_entry (kind_of t.kind) (types_of t.parents)

abbrev pub pred_of : Pred → PredM
pred_of p = pred_entry (types_of p.parents) (types_of p.arity)

abbrev pub func_of : Func → FuncM
func_of f = func_entry (types_of f.parents) (types_of f.domain) f.codomain.0

abbrev pub model_of : ModelIds → ModelM
model_of m = model_entry m.type_.0 m.mor.0 m.dom.0 m.cod.0 m.id.0 m.comp.0

abbrev pub mor_app_of : MorAppFunc → MorAppM
mor_app_of m = mor_app_entry m.func.0 m.types.morphism_type.0 m.types.member_type.0

abbrev pub view_types : Types → List TypeM
view_types t = map type_of (take t.len t.items)

abbrev pub view_preds : Preds → List PredM
view_preds t = map pred_of (take t.len t.items)

abbrev pub view_funcs : Funcs → List FuncM
view_funcs t = map func_of (take t.len t.items)

abbrev pub view_models : Models → List ModelM
view_models t = map model_of (take t.len t.items)

abbrev pub view_mor_apps : MorAppFuncs → List MorAppM
view_mor_apps t = map mor_app_of (take t.len t.items)

abbrev pub sig_of : Signature → Sig
sig_of s = record {
  types = view_types s.types;
  preds = view_preds s.preds;
  funcs = view_funcs s.funcs;
  models = view_models s.models;
  mor_apps = view_mor_apps s.mor_app_funcs;
}

-- A type, a predicate and a function as they are given to a call: a list of over four entries is seen as such.

abbrev pub given_type : code-type.Type → TypeM
given_type t = type_entry (kind_of t.kind) (given_types t.parents)

abbrev pub given_pred : Pred → PredM
given_pred p = pred_entry (given_types p.parents) (given_types p.arity)

abbrev pub given_func : Func → FuncM
given_func f = func_entry (given_types f.parents) (given_types f.domain) f.codomain.0
