-- What the structure holds (01, "Element types"), its limits and the orders of its tables.
use Rattle.std.specs.Prelude.{ℕ, Bool, false, List, [], map}
use Rattle.std.proofs.Math.Option.{Option, none, some}
use Rattle.ids.specs.declared.Ordering.{Ordering}
use Rattle.ids.specs.Order.{order_of, then_of, lex_of}
use Rattle.unification.specs.Roots.{root_of}

-- "Queue limits: 256 pairs, 64 impositions, 256 applications of each kind."
abbrev pub max_pairs : ℕ
max_pairs = 256

abbrev pub max_impositions : ℕ
max_impositions = 64

abbrev pub max_func_apps : ℕ
max_func_apps = 256

abbrev pub max_pred_apps : ℕ
max_pred_apps = 256

-- "the close would at some moment hold 1,025 facts"
abbrev pub max_facts : ℕ
max_facts = 1024

-- "variable (A key 0 to 63, B element)"
abbrev pub max_vars : ℕ
max_vars = 64

-- Entries. An order reads an entry's key and nothing else, so that an entry may carry more. Each is built by one function.

-- "A fact is a type and its parents", at the element that has it
pub record Fact : Type 0 where
  pub el : ℕ
  pub typ : ℕ
  pub parents : List ℕ

abbrev pub fact : ℕ → ℕ → List ℕ → Fact
fact e t ps = record { el = e; typ = t; parents = ps }

-- a function application: its key is the function, the parents and the arguments
pub record FuncApp : Type 0 where
  pub func : ℕ
  pub parents : List ℕ
  pub args : List ℕ
  pub result : ℕ

abbrev pub func_app : ℕ → List ℕ → List ℕ → ℕ → FuncApp
func_app f ps xs r = record { func = f; parents = ps; args = xs; result = r }

pub record PredApp : Type 0 where
  pub pred : ℕ
  pub parents : List ℕ
  pub args : List ℕ

abbrev pub pred_app : ℕ → List ℕ → List ℕ → PredApp
pred_app p ps xs = record { pred = p; parents = ps; args = xs }

-- an equality that is queued
pub record Pair : Type 0 where
  pub lhs : ℕ
  pub rhs : ℕ

abbrev pub pair : ℕ → ℕ → Pair
pair a b = record { lhs = a; rhs = b }

pub record Var : Type 0 where
  pub key : ℕ
  pub el : ℕ

abbrev pub variable : ℕ → ℕ → Var
variable k e = record { key = k; el = e }

pub record Ambient : Type 0 where
  pub typ : ℕ
  pub el : ℕ

abbrev pub ambient : ℕ → ℕ → Ambient
ambient t e = record { typ = t; el = e }

-- "ordered by type, then parents, a shorter list before its extension", element by element
unfoldable pub compare_fact : Fact → Fact → Ordering
compare_fact f g = then_of (order_of f.el g.el) (then_of (order_of f.typ g.typ) (lex_of f.parents g.parents))

-- "in order of function, parents, arguments"
unfoldable pub compare_func_app : FuncApp → FuncApp → Ordering
compare_func_app x y = then_of (order_of x.func y.func) (then_of (lex_of x.parents y.parents) (lex_of x.args y.args))

unfoldable pub compare_pred_app : PredApp → PredApp → Ordering
compare_pred_app x y = then_of (order_of x.pred y.pred) (then_of (lex_of x.parents y.parents) (lex_of x.args y.args))

unfoldable pub compare_var : Var → Var → Ordering
compare_var v w = order_of v.key w.key

unfoldable pub compare_ambient : Ambient → Ambient → Ordering
compare_ambient a b = order_of a.typ b.typ

-- a fact at another element
abbrev pub fact_at : ℕ → Fact → Fact
fact_at e f = fact e f.typ f.parents

-- the result of an application, if there is one
abbrev pub result_of : Option FuncApp → Option ℕ
result_of none = none
result_of (some x) = some x.result

-- The roots of what an entry names.

unfoldable pub canonical_fact : List ℕ → Fact → Fact
canonical_fact ls f = fact (root_of ls f.el) f.typ (map (root_of ls) f.parents)

unfoldable pub canonical_func_app : List ℕ → FuncApp → FuncApp
canonical_func_app ls x = func_app x.func (map (root_of ls) x.parents) (map (root_of ls) x.args) (root_of ls x.result)

unfoldable pub canonical_pred_app : List ℕ → PredApp → PredApp
canonical_pred_app ls x = pred_app x.pred (map (root_of ls) x.parents) (map (root_of ls) x.args)

unfoldable pub canonical_var : List ℕ → Var → Var
canonical_var ls v = variable v.key (root_of ls v.el)

-- The structure.
pub record Structure : Type 0 where
  -- entry e is the link of element e
  pub links : List ℕ
  -- `inferred_parent_els`: entry e says whether element e is marked
  pub marks : List Bool
  -- the facts of all elements, ordered
  pub facts : List Fact
  -- ordered, each key once
  pub func_apps : List FuncApp
  -- ordered, each once
  pub pred_apps : List PredApp
  -- by key
  pub vars : List Var
  -- by type
  pub ambients : List Ambient
  -- the pair that was queued last stands first
  pub pairs : List Pair
  -- in queue order
  pub impositions : List Fact
  -- some call of kinds 6 to 15 was accepted: number 4 reads this
  pub started : Bool
  -- "a structure counts as settled when its latest accepted close reported no change", and nothing accepted since was answered with yes
  pub settled : Bool

-- The one place that builds a structure: the fields in their order.
abbrev pub structure : List ℕ → List Bool → List Fact → List FuncApp → List PredApp → List Var → List Ambient → List Pair → List Fact → Bool → Bool
    → Structure
structure ls ms fs xs ps vs bs qs is started settled = record {
  links = ls;
  marks = ms;
  facts = fs;
  func_apps = xs;
  pred_apps = ps;
  vars = vs;
  ambients = bs;
  pairs = qs;
  impositions = is;
  started = started;
  settled = settled;
}

-- "a fresh one does not" count as settled
unfoldable pub empty : Structure
empty = structure [] [] [] [] [] [] [] [] [] false false

-- A field replaced, the others as they were.

abbrev pub with_links : List ℕ → Structure → Structure
with_links x s = structure x s.marks s.facts s.func_apps s.pred_apps s.vars s.ambients s.pairs s.impositions s.started s.settled

abbrev pub with_marks : List Bool → Structure → Structure
with_marks x s = structure s.links x s.facts s.func_apps s.pred_apps s.vars s.ambients s.pairs s.impositions s.started s.settled

abbrev pub with_facts : List Fact → Structure → Structure
with_facts x s = structure s.links s.marks x s.func_apps s.pred_apps s.vars s.ambients s.pairs s.impositions s.started s.settled

abbrev pub with_func_apps : List FuncApp → Structure → Structure
with_func_apps x s = structure s.links s.marks s.facts x s.pred_apps s.vars s.ambients s.pairs s.impositions s.started s.settled

abbrev pub with_pred_apps : List PredApp → Structure → Structure
with_pred_apps x s = structure s.links s.marks s.facts s.func_apps x s.vars s.ambients s.pairs s.impositions s.started s.settled

abbrev pub with_vars : List Var → Structure → Structure
with_vars x s = structure s.links s.marks s.facts s.func_apps s.pred_apps x s.ambients s.pairs s.impositions s.started s.settled

abbrev pub with_ambients : List Ambient → Structure → Structure
with_ambients x s = structure s.links s.marks s.facts s.func_apps s.pred_apps s.vars x s.pairs s.impositions s.started s.settled

abbrev pub with_pairs : List Pair → Structure → Structure
with_pairs x s = structure s.links s.marks s.facts s.func_apps s.pred_apps s.vars s.ambients x s.impositions s.started s.settled

abbrev pub with_impositions : List Fact → Structure → Structure
with_impositions x s = structure s.links s.marks s.facts s.func_apps s.pred_apps s.vars s.ambients s.pairs x s.started s.settled

-- the flag for number 4, and whether the structure is settled
abbrev pub with_flags : Bool → Bool → Structure → Structure
with_flags x y s = structure s.links s.marks s.facts s.func_apps s.pred_apps s.vars s.ambients s.pairs s.impositions x y
