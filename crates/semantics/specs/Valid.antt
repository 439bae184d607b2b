-- What holds of every signature and structure that calls can make (`calls_valid`, crate validity): numbers, orders and limits, and, as far as
-- theorems need it, what the numbers 4, 6, 15, 7, 8 and 12 keep out.
use Rattle.std.specs.Prelude.{ℕ, ◌≤◌, ◌<◌, ◌≡◌, true, false, List, [], ◌∷◌, ◌++◌, length}
use Rattle.ids.specs.declared.Ordering.{Ordering}
use Rattle.ids.specs.Limits.{max_list}
use Rattle.ids.specs.Sorted.{All, Sorted}
use Rattle.unification.specs.Roots.{max_els, root_of, Formed}
use Rattle.signature.specs.Model.{Sig, Kind, plain, model, enum, mor, TypeM, PredM, FuncM, ModelM, MorAppM, max_types, max_preds, max_funcs}
use Rattle.signature.specs.Model.{max_models, max_mor_apps}
use Rattle.signature.specs.Calls.{functions, repeats, is_model, parent_count}
use Rattle.semantics.specs.Structure.{Fact, FuncApp, PredApp, Pair, Var, Ambient, Structure, max_pairs, max_impositions, max_func_apps}
use Rattle.semantics.specs.Structure.{max_pred_apps, max_facts, max_vars, compare_fact, compare_func_app, compare_pred_app, compare_var}
use Rattle.semantics.specs.Structure.{compare_ambient, empty}
use Rattle.semantics.specs.Calls.{is_reserved, is_misapplied}

-- every number of a list is below n
abbrev pub Below : ℕ → List ℕ → Type 0
Below n l = All (λ e. e < n) l

-- a list of parents or arguments, or of types, of which there are n
pub record Listed (n : ℕ) (l : List ℕ) : Type 0 where
  -- "Every list has at most 4 entries."
  pub short : length l ≤ max_list
  -- "Numbers must have been declared earlier."
  pub below : Below n l

-- a queue, or a table that is never searched by order
pub record Queue {A : Type 0} (P : A → Type 0) (limit : ℕ) (l : List A) : Type 0 where
  -- each entry's numbers are declared
  pub each : All P l
  -- there is room for its entries
  pub most : length l ≤ limit

-- an ordered table
pub record Table {A : Type 0} (P : A → Type 0) (cmp : A → A → Ordering) (limit : ℕ) (l : List A) : Type 0 where
  -- each entry's numbers are declared
  pub each : All P l
  -- each entry comes before all later ones, so that each key stands once
  pub sorted : Sorted cmp l
  -- there is room for its entries
  pub most : length l ≤ limit

-- The signature.

-- the model that a Mor names is a type; the other kinds name none
abbrev pub KindDeclared : ℕ → Kind → Type 0
KindDeclared n plain = Unit {0}
KindDeclared n model = Unit {0}
KindDeclared n enum = Unit {0}
KindDeclared n (mor t) = t < n

-- a type, where there are n types
pub record TypeValid (n : ℕ) (t : TypeM) : Type 0 where
  -- the model of a Mor is a type
  pub kind : KindDeclared n t.kind
  -- its enclosing model types are types
  pub parents : Listed n t.parents

-- a predicate, where there are n types
pub record PredValid (n : ℕ) (p : PredM) : Type 0 where
  -- its parents are types
  pub parents : Listed n p.parents
  -- its arguments have types
  pub arity : Listed n p.arity

-- a function, where there are n types
pub record FuncValid (n : ℕ) (f : FuncM) : Type 0 where
  -- its parents are types
  pub parents : Listed n f.parents
  -- its arguments have types
  pub domain : Listed n f.domain
  -- its result has a type
  pub codomain : f.codomain < n

-- a model, where there are n types and k functions
pub record ModelValid (n k : ℕ) (m : ModelM) : Type 0 where
  -- it is of a type
  pub typ : m.typ < n
  -- its morphisms are of a type
  pub mor : m.mor < n
  -- dom, cod, id and comp are functions
  pub funcs : Below k (functions m)

-- a morphism application function, where there are n types and k functions
pub record MorAppValid (n k : ℕ) (m : MorAppM) : Type 0 where
  -- it is a function
  pub func : m.func < k
  -- its morphisms are of a type
  pub morphism_type : m.morphism_type < n
  -- its members are of a type
  pub member_type : m.member_type < n

-- the functions that the models name
unfoldable pub functions_in : List ModelM → List ℕ
functions_in [] = []
functions_in (m ∷ ms) = functions m ++ functions_in ms

-- the signature
pub record ValidSig (g : Sig) : Type 0 where
  -- the types, which name each other
  pub types : Queue (TypeValid (length g.types)) max_types g.types
  -- the predicates, which name types
  pub preds : Queue (PredValid (length g.types)) max_preds g.preds
  -- the functions, which name types
  pub funcs : Queue (FuncValid (length g.types)) max_funcs g.funcs
  -- the models, which name types and functions
  pub models : Queue (ModelValid (length g.types) (length g.funcs)) max_models g.models
  -- the morphism application functions, which name types and functions
  pub mor_apps : Queue (MorAppValid (length g.types) (length g.funcs)) max_mor_apps g.mor_apps
  -- no function stands twice in the models: number 8, "function in records 4 and 5 .. given again"
  pub once : repeats (functions_in g.models) ≡ false

-- The structure.

-- how many elements, types, predicates and functions are declared, and how many parents each type has
pub record Counts : Type 0 where
  pub els : ℕ
  pub types : ℕ
  pub parents : ℕ → ℕ
  pub preds : ℕ
  pub funcs : ℕ

-- of a signature, and of n elements
abbrev pub counts_at : Sig → ℕ → Counts
counts_at g n = record { els = n; types = length g.types; parents = parent_count g.types; preds = length g.preds; funcs = length g.funcs }

abbrev pub counts_of : Sig → Structure → Counts
counts_of g s = counts_at g (length s.links)

-- a queued equality
pub record PairValid (c : Counts) (p : Pair) : Type 0 where
  -- both are elements
  pub lhs : p.lhs < c.els
  pub rhs : p.rhs < c.els

-- a fact, or an imposition
pub record FactValid (c : Counts) (f : Fact) : Type 0 where
  -- it is of an element
  pub el : f.el < c.els
  -- it gives a type
  pub typ : f.typ < c.types
  -- its parents are elements
  pub parents : Listed c.els f.parents
  -- it has as many parents as its type: number 15 refuses any other (02, M-105)
  pub parent_count : length f.parents ≡ c.parents f.typ

-- a function application
pub record FuncAppValid (c : Counts) (x : FuncApp) : Type 0 where
  -- it is of a function
  pub func : x.func < c.funcs
  -- its parents are elements
  pub parents : Listed c.els x.parents
  -- its arguments are elements
  pub args : Listed c.els x.args
  -- its result is an element
  pub result : x.result < c.els

-- a predicate application
pub record PredAppValid (c : Counts) (x : PredApp) : Type 0 where
  -- it is of a predicate
  pub pred : x.pred < c.preds
  -- its parents are elements
  pub parents : Listed c.els x.parents
  -- its arguments are elements
  pub args : Listed c.els x.args

-- a variable
pub record VarValid (c : Counts) (v : Var) : Type 0 where
  -- "key 0 to 63"
  pub key : v.key < max_vars
  -- it stands for an element
  pub el : v.el < c.els

-- an ambient
pub record AmbientValid (c : Counts) (a : Ambient) : Type 0 where
  -- it is of a type
  pub typ : a.typ < c.types
  -- it is an element
  pub el : a.el < c.els

-- the fact stands at a root
abbrev pub OnRoot : List ℕ → Fact → Type 0
OnRoot ls f = root_of ls f.el ≡ f.el

-- the structure, whose numbers are below the counts c
pub record ValidStructure (c : Counts) (s : Structure) : Type 0 where
  -- there are so many elements
  pub els : length s.links ≡ c.els
  -- "Elements .., at most 256."
  pub els_most : c.els ≤ max_els
  -- no link rises
  pub links : Formed s.links
  -- each element has a mark, set or not
  pub marks : length s.marks ≡ c.els
  -- the facts of all elements, in order of element, type, parents
  pub facts : Table (FactValid c) compare_fact max_facts s.facts
  -- facts are stored at roots; their parents need not be roots
  pub facts_rooted : All (OnRoot s.links) s.facts
  -- the function applications, in order of function, parents, arguments
  pub func_apps : Table (FuncAppValid c) compare_func_app max_func_apps s.func_apps
  -- the predicate applications, in order of predicate, parents, arguments
  pub pred_apps : Table (PredAppValid c) compare_pred_app max_pred_apps s.pred_apps
  -- the variables, in order of key
  pub vars : Table (VarValid c) compare_var max_vars s.vars
  -- the ambients, in order of type, at most one for each
  pub ambients : Table (AmbientValid c) compare_ambient c.types s.ambients
  -- the pairs that wait to be drained
  pub pairs : Queue (PairValid c) max_pairs s.pairs
  -- the impositions, in the order in which they were queued
  pub impositions : Queue (FactValid c) max_impositions s.impositions

-- it is no application of a morphism application function, nor of id or comp where a record 5 stands, which number 7 refuses
abbrev pub Unreserved : Sig → FuncApp → Type 0
Unreserved g x = is_reserved g x.func ≡ false

-- an application of id has one argument, one of comp two: number 12 refuses any other
abbrev pub WellApplied : Sig → FuncApp → Type 0
WellApplied g x = is_misapplied x g.models ≡ false

-- its type is a Model: number 6 refuses any other
abbrev pub OfModel : Sig → Ambient → Type 0
OfModel g a = is_model g a.typ ≡ true

-- both
pub record Valid (g : Sig) (s : Structure) : Type 0 where
  pub sig : ValidSig g
  pub structure : ValidStructure (counts_of g s) s
  -- no application names a morphism application function, nor a model's id or comp where a record 5 stands
  pub unreserved : All (Unreserved g) s.func_apps
  -- id is applied to one argument, comp to two
  pub well_applied : All (WellApplied g) s.func_apps
  -- an ambient's type is a Model
  pub of_models : All (OfModel g) s.ambients
  -- number 4, "kinds 1 to 5 after any accepted of 6 to 14" (and 15: 02, M-100): while the signature may still grow nothing is stored, so that no later record makes
  -- a stored application one of id, comp or a morphism application function
  pub unstarted : s.started ≡ false → s ≡ empty
