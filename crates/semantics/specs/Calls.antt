-- The calls of the conservation rule (01, and 02, M-100): kinds 1 to 15, both finds, and the type and ambient lookups.
-- For each call its causes, in order, and its effect stand apart (`rule`), and one `step` carries out every call: the first cause that applies
-- refuses and leaves everything as it was; where none applies the effect is there, with what every accepted call leaves behind (`leaves`).
use Rattle.std.specs.Prelude.{ℕ, zero, suc, ◌+◌, Bool, true, false, not, ◌&&◌, ◌||◌, List, [], ◌∷◌, ◌++◌, length, take, eqb, leb, ltb}
use Rattle.std.proofs.Math.Option.{Option, none, some}
use Rattle.ids.specs.declared.Ordering.TheVariants.{Less, Equal, Greater}
use Rattle.ids.specs.Answers.{Cause, Answered, accepted, refused, Outcome, first_of, decided, ◌if◌, malformed, undeclared, wrong_kind, wrong_parent_count, reserved, wrong_arg_count, given_again, no_room, no_ambient}
use Rattle.ids.specs.Ids.{too_long, all_below}
use Rattle.ids.specs.Table.{present, placed, lookup_of}
use Rattle.unification.specs.Roots.{max_els, short_of, added_of, FindM, find_of, find_causes}
use Rattle.signature.specs.Model as signature
use Rattle.signature.specs.Model.{Sig, TypeM, PredM, FuncM, ModelM, MorAppM}
use Rattle.signature.specs.Calls.{is_type, are_types, is_func, is_model, in_mor_apps, TypedM, at, absent, parent_count, concrete_type_at, lookup_type_causes}
use Rattle.signature.specs.Calls.{type_causes, with_type, pred_causes, with_pred, func_causes, with_func, model_causes, with_model}
use Rattle.signature.specs.Calls.{mor_app_causes, with_mor_app}
use Rattle.semantics.specs.Structure.{Fact, FuncApp, PredApp, Var, Ambient, ambient, Structure, empty, max_pairs}
use Rattle.semantics.specs.Structure.{max_impositions, max_pred_apps, max_vars, compare_fact, compare_pred_app}
use Rattle.semantics.specs.Structure.{compare_var, compare_ambient, canonical_fact, with_links, with_marks}
use Rattle.semantics.specs.Structure.{with_func_apps, with_pred_apps, with_vars, with_ambients, with_pairs, with_impositions, with_flags}
use Rattle.semantics.specs.Applying.{Equated, equate, Applied, insert_func_app_or_equate}
use Rattle.semantics.specs.Close as closing
use Rattle.semantics.specs.Close.{Closed, CloseRun, close_run, met_causes, close_causes, report_of, after_close}
use Rattle.semantics.specs.Conflicts.{Conflict, type_conflicts_of, conflict_finds}

-- "Numbers must have been declared earlier."

abbrev pub is_el : Structure → ℕ → Bool
is_el s e = ltb e (length s.links)

abbrev pub are_els : Structure → List ℕ → Bool
are_els s es = all_below (length s.links) es

abbrev pub is_pred : Sig → ℕ → Bool
is_pred g p = ltb p (length g.preds)

-- The causes and the effect of each kind; those of kinds 1 to 5 and of the type lookup are in crate signature, those of the close in `Close`.

-- Kind 6, "element (A mark, 0 or 1)": "A mark (`inferred_parent_els`) is set when an element is added".
unfoldable pub el_causes : Structure → List Cause
el_causes s = no_room if leb max_els (length s.links) ∷ []

unfoldable pub with_el : Bool → Structure → Structure
with_el mark s = with_links (added_of s.links) (with_marks (s.marks ++ (mark ∷ [])) s)

-- Kind 7, "equality (A, B)". "`equate` finds both roots by `root`, so paths shorten, queues the pair as given even where the roots are equal, and says whether they differ."

unfoldable pub equality_causes : Structure → ℕ → ℕ → List Cause
equality_causes s a b =
    undeclared if not (is_el s a && is_el s b)
    ∷ no_room if leb max_pairs (length s.pairs)
    ∷ []

unfoldable pub with_equality : Equated → Structure → Structure
with_equality e s = with_links e.links (with_pairs e.pairs s)

-- Kind 8, "imposition (A element, B type, parents)". "`impose_type` takes roots, queues unless that entry is present, and says whether it queued."

-- the entry is queued
unfoldable pub is_imposed : Fact → List Fact → Bool
is_imposed f [] = false
is_imposed f (g ∷ gs) = elim (compare_fact f g) [ Less ↦ is_imposed f gs | Equal ↦ true | Greater ↦ is_imposed f gs ]

-- "exactly as many parents as its type has" (02, M-105)
abbrev pub has_its_parents : List TypeM → Fact → Bool
has_its_parents ts f = eqb (length f.parents) (parent_count ts f.typ)

-- "with 15, after 6 and before 7" (02, M-105)
unfoldable pub imposition_causes : Sig → Structure → Fact → List Cause
imposition_causes g s f =
    malformed if too_long f.parents
    ∷ undeclared if not (is_el s f.el && (is_type g f.typ && are_els s f.parents))
    ∷ wrong_parent_count if not (has_its_parents g.types f)
    ∷ no_room if (not (is_imposed (canonical_fact s.links f) s.impositions) && leb max_impositions (length s.impositions))
    ∷ []

-- the entry f, which is queued already or not
unfoldable pub with_imposition : Bool → Fact → Structure → Structure
with_imposition queued f s = elim queued [ true ↦ s | false ↦ with_impositions (s.impositions ++ (f ∷ [])) s ]

-- Kind 9, "function application (A function, B result)", as `insert_func_app_or_equate`.

-- the function is a model's id or comp
unfoldable pub is_id_or_comp : ℕ → List ModelM → Bool
is_id_or_comp f [] = false
is_id_or_comp f (m ∷ ms) = (eqb f m.id || eqb f m.comp) || is_id_or_comp f ms

-- "Number 7 remains for record 5 functions, and for id and comp where a record 5 stands." (02, M-102)
unfoldable pub is_reserved : Sig → ℕ → Bool
is_reserved g f = in_mor_apps f g.mor_apps || (is_id_or_comp f g.models && ltb 0 (length g.mor_apps))

-- "an id application without exactly one argument, or a comp without exactly two"
unfoldable pub misapplies : ModelM → FuncApp → Bool
misapplies m x =
    (eqb x.func m.id && not (eqb (length x.args) 1)) || (eqb x.func m.comp && not (eqb (length x.args) 2))

unfoldable pub is_misapplied : FuncApp → List ModelM → Bool
is_misapplied x [] = false
is_misapplied x (m ∷ ms) = misapplies m x || is_misapplied x ms

-- the application on the structure's own tables
abbrev pub applied_to : Structure → FuncApp → Applied
applied_to s x = insert_func_app_or_equate x s.links s.pairs s.func_apps

-- "with 12, directly after 7" (02, M-102)
unfoldable pub application_causes : Sig → Structure → FuncApp → List Cause
application_causes g s x =
    malformed if (too_long x.parents || too_long x.args)
    ∷ undeclared if not (is_func g x.func && (are_els s x.parents && (are_els s x.args && is_el s x.result)))
    ∷ reserved if is_reserved g x.func
    ∷ wrong_arg_count if is_misapplied x g.models
    ∷ no_room if (applied_to s x).full
    ∷ []

unfoldable pub with_applied : Applied → Structure → Structure
with_applied a s = with_links a.links (with_pairs a.pairs (with_func_apps a.apps s))

-- Kind 10, "predicate application (A predicate)". "A predicate application is stored as given, once; it says whether it was new."
unfoldable pub predication_causes : Sig → Structure → PredApp → List Cause
predication_causes g s x =
    malformed if (too_long x.parents || too_long x.args)
    ∷ undeclared if not (is_pred g x.pred && (are_els s x.parents && are_els s x.args))
    ∷ no_room if (not (present compare_pred_app x s.pred_apps) && leb max_pred_apps (length s.pred_apps))
    ∷ []

unfoldable pub with_pred_app : PredApp → Structure → Structure
with_pred_app x s = with_pred_apps (placed compare_pred_app x s.pred_apps) s

-- Kind 11, "variable (A key 0 to 63, B element)".
unfoldable pub variable_causes : Structure → Var → List Cause
variable_causes s v =
    malformed if leb max_vars v.key
    ∷ undeclared if not (is_el s v.el)
    ∷ given_again if present compare_var v s.vars
    ∷ []

unfoldable pub with_var : Var → Structure → Structure
with_var v s = with_vars (placed compare_var v s.vars) s

-- Kind 12, "ambient (A type, B element)".
unfoldable pub ambient_causes : Sig → Structure → Ambient → List Cause
ambient_causes g s a =
    undeclared if not (is_type g a.typ && is_el s a.el)
    ∷ wrong_kind if not (is_model g a.typ)
    ∷ given_again if present compare_ambient a s.ambients
    ∷ []

unfoldable pub with_ambient : Ambient → Structure → Structure
with_ambient a s = with_ambients (placed compare_ambient a s.ambients) s

-- The ambient lookup: "`ambient_parents` gives the stored ambient element for each of at most four types, in the order asked."

unfoldable pub ambient_of : ℕ → List Ambient → Option Ambient
ambient_of t l = lookup_of compare_ambient (ambient t 0) l

unfoldable pub have_ambients : List ℕ → List Ambient → Bool
have_ambients [] l = true
have_ambients (t ∷ ts) l = elim (ambient_of t l) [ none ↦ false | some a ↦ have_ambients ts l ]

unfoldable pub ambient_els : List ℕ → List Ambient → List ℕ
ambient_els [] l = []
ambient_els (t ∷ ts) l = elim (ambient_of t l) [ none ↦ ambient_els ts l | some a ↦ a.el ∷ ambient_els ts l ]

unfoldable pub ambient_parents_causes : Sig → Structure → List ℕ → List Cause
ambient_parents_causes g s ts =
    malformed if too_long ts
    ∷ undeclared if not (are_types g ts)
    ∷ no_ambient if not (have_ambients ts s.ambients)
    ∷ []

-- The type lookup: a type and its parents, where there is one.
pub record ConcreteType : Type 0 where
  pub typ : ℕ
  pub parents : List ℕ

abbrev pub concrete_type : ℕ → List ℕ → ConcreteType
concrete_type t ps = record { typ = t; parents = ps }

-- the type with that many leading parents
unfoldable pub leading : List ℕ → TypedM → Option ConcreteType
leading ps (at t n) = some (concrete_type t (take n ps))
leading ps absent = none

-- The calls as one.

pub data Call : Type 0 where
  push_type : TypeM → Call
  push_pred : PredM → Call
  push_func : FuncM → Call
  push_model : ModelM → Call
  push_mor_app : MorAppM → Call
  push_el : Bool → Call
  equate_els : ℕ → ℕ → Call
  impose_type : Fact → Call
  apply_func : FuncApp → Call
  apply_pred : PredApp → Call
  bind_var : Var → Call
  bind_ambient : Ambient → Call
  close : Call
  type_conflicts : Call
  settle : Call
  root : ℕ → Call
  root_const : ℕ → Call
  lookup_type : ℕ → List ℕ → Call
  ambient_parents : List ℕ → Call

-- a settle's answer: "the closes run and the merges summed"
pub record Totals : Type 0 where
  pub closes : ℕ
  pub merges : ℕ

abbrev pub totals : ℕ → ℕ → Totals
totals closes merges = record { closes = closes; merges = merges }

-- what a call answers, with the number of a refusal
pub data Answer : Type 0 where
  number : ℕ → Answer
  -- yes or no: of an equality, an imposition and an application
  says : Bool → Answer
  done : Answer
  closed : Closed → Answer
  -- the conflicts, and how many finds the roots of first facts' parents took (02, M-103)
  conflicting : List Conflict → ℕ → Answer
  summed : Totals → Answer
  found : FindM → Answer
  -- the type with its leading parents, or none
  typed : Option ConcreteType → Answer
  els : List ℕ → Answer
  refuse : ℕ → Answer

-- "whether it was accepted"
unfoldable pub is_accepted : Answer → Bool
is_accepted (number n) = true
is_accepted (says b) = true
is_accepted done = true
is_accepted (closed c) = true
is_accepted (conflicting l n) = true
is_accepted (summed t) = true
is_accepted (found f) = true
is_accepted (typed t) = true
is_accepted (els l) = true
is_accepted (refuse n) = false

-- "a close's merges", and those of a settle
unfoldable pub merges_of : Answer → ℕ
merges_of (number n) = 0
merges_of (says b) = 0
merges_of done = 0
merges_of (closed c) = c.merges
merges_of (conflicting l n) = 0
merges_of (summed t) = t.merges
merges_of (found f) = 0
merges_of (typed t) = 0
merges_of (els l) = 0
merges_of (refuse n) = 0

pub record Machine : Type 0 where
  pub sig : Sig
  pub structure : Structure

abbrev pub machine : Sig → Structure → Machine
machine g s = record { sig = g; structure = s }

pub record Step : Type 0 where
  pub answer : Answer
  pub after : Machine

abbrev pub answers : Answer → Machine → Step
answers a m = record { answer = a; after = m }

-- "A list begins at the empty signature and structure"
unfoldable pub start : Machine
start = machine signature.empty empty

-- What an accepted call leaves behind.

-- "a structure counts as settled when its latest accepted close reported no change" and, as M-101 of 02 has it, "no equality, imposition or application
-- accepted since was answered with yes"; the closes of a settle have set it
unfoldable pub settled_by : Answer → Bool → Bool
settled_by (closed c) was = not c.changed
settled_by (says b) was = not b && was
settled_by (number n) was = was
settled_by done was = was
settled_by (conflicting cs n) was = was
settled_by (summed t) was = was
settled_by (found f) was = was
settled_by (typed t) was = was
settled_by (els es) was = was
settled_by (refuse n) was = was

-- the flag for number 4, and settled
unfoldable pub leaves : Bool → Answer → Structure → Structure
leaves starts a s = with_flags (starts || s.started) (settled_by a s.settled) s

-- Kind 15, settle (02, M-100): "repeats close until one reports no change".

-- what a settle comes to
pub record SettleRun : Type 0 where
  -- the answers of the closes that were accepted, in order
  pub reports : List Closed
  -- the number that refused a close
  pub met : Option ℕ
  -- what the closes leave
  pub after : Structure

abbrev pub as_settle_run : List Closed → Option ℕ → Structure → SettleRun
as_settle_run cs met s = record { reports = cs; met = met; after = s }

-- a close that answered c, before others
unfoldable pub reported_first : Closed → SettleRun → SettleRun
reported_first c r = as_settle_run (c ∷ r.reports) r.met r.after

-- after a close that answered so and left s: the rest follows where it was accepted and reported a change
unfoldable pub settle_after : Answered Closed → Structure → (Structure → SettleRun) → SettleRun
settle_after (refused n) s rest = as_settle_run [] (some n) s
settle_after (accepted c) s rest =
    reported_first c (elim c.changed [
      | true ↦ rest (leaves true (closed c) s)
      | false ↦ as_settle_run [] none (leaves true (closed c) s)
    ])

unfoldable pub settle_by : Outcome Closed Structure → (Structure → SettleRun) → SettleRun
settle_by o rest = settle_after o.answer o.after rest

-- at most so many closes
unfoldable pub settle_from : ℕ → Sig → Structure → SettleRun
settle_from zero g s = as_settle_run [] none s
settle_from (suc k) g s = settle_by (closing.close g s) (settle_from k g)

-- "at most the element count plus one closes"
unfoldable pub settle_run : Sig → Structure → SettleRun
settle_run g s = settle_from (suc (length s.links)) g s

unfoldable pub merges_in : List Closed → ℕ
merges_in [] = 0
merges_in (c ∷ cs) = c.merges + merges_in cs

unfoldable pub sums_of : List Closed → Totals
sums_of cs = totals (length cs) (merges_in cs)

-- how a call is carried out
pub record Rule : Type 0 where
  -- what refuses it, in order
  pub causes : List Cause
  -- what it answers and leaves where nothing does
  pub answer : Answer
  pub after : Machine
  -- whether number 4 is given after it
  pub starts : Bool

-- kinds 1 to 5, which leave another signature
abbrev pub declares : List Cause → ℕ → Sig → Machine → Rule
declares cs n g m = record { causes = cs; answer = number n; after = machine g m.structure; starts = false }

-- kinds 6 to 15, which leave another structure: "kinds 1 to 5 after any accepted of 6 to 14" are refused with 4, and "Number 4 treats kind 15 as it does 14"
abbrev pub states : List Cause → Answer → Structure → Machine → Rule
states cs a s m = record { causes = cs; answer = a; after = machine m.sig s; starts = true }

-- finds and lookups; a find may leave other links
abbrev pub asks : List Cause → Answer → Structure → Machine → Rule
asks cs a s m = record { causes = cs; answer = a; after = machine m.sig s; starts = false }

-- the rules of calls whose effect has several parts

unfoldable pub equality_rule : Equated → List Cause → Machine → Rule
equality_rule e cs m = states cs (says e.differ) (with_equality e m.structure) m

unfoldable pub imposition_rule : Bool → Fact → List Cause → Machine → Rule
imposition_rule queued f cs m = states cs (says (not queued)) (with_imposition queued f m.structure) m

unfoldable pub application_rule : Applied → List Cause → Machine → Rule
application_rule a cs m = states cs (says a.yes) (with_applied a m.structure) m

unfoldable pub close_rule : CloseRun → Machine → Rule
close_rule c m = states (close_causes c) (closed (report_of c)) (after_close c m.structure) m

-- "If a close meets number 11, settle returns 11 and the structure before the settle."; 02, M-102: "close and settle may now meet number 9, with the
-- structure as before the call"
unfoldable pub settle_rule : SettleRun → Machine → Rule
settle_rule r m = states (met_causes r.met) (summed (sums_of r.reports)) r.after m

unfoldable pub rule : Call → Machine → Rule
rule (push_type t) m = declares (type_causes m.structure.started m.sig t) (length m.sig.types) (with_type m.sig t) m
rule (push_pred p) m = declares (pred_causes m.structure.started m.sig p) (length m.sig.preds) (with_pred m.sig p) m
rule (push_func f) m = declares (func_causes m.structure.started m.sig f) (length m.sig.funcs) (with_func m.sig f) m
rule (push_model x) m = declares (model_causes m.structure.started m.sig x) (length m.sig.models) (with_model m.sig x) m
rule (push_mor_app x) m = declares (mor_app_causes m.structure.started m.sig x) (length m.sig.mor_apps) (with_mor_app m.sig x) m
rule (push_el mark) m = states (el_causes m.structure) (number (length m.structure.links)) (with_el mark m.structure) m
rule (equate_els a b) m = equality_rule (equate m.structure.links m.structure.pairs a b) (equality_causes m.structure a b) m
rule (impose_type f) m =
    imposition_rule (is_imposed (canonical_fact m.structure.links f) m.structure.impositions) (canonical_fact m.structure.links f)
    (imposition_causes m.sig m.structure f) m
rule (apply_func x) m = application_rule (applied_to m.structure x) (application_causes m.sig m.structure x) m
rule (apply_pred x) m =
    states (predication_causes m.sig m.structure x) (says (not (present compare_pred_app x m.structure.pred_apps)))
    (with_pred_app x m.structure) m
rule (bind_var v) m = states (variable_causes m.structure v) done (with_var v m.structure) m
rule (bind_ambient a) m = states (ambient_causes m.sig m.structure a) done (with_ambient a m.structure) m
rule close m = close_rule (close_run m.sig m.structure) m
rule type_conflicts m = states [] (conflicting (type_conflicts_of m.structure) (conflict_finds m.structure)) m.structure m
rule settle m = settle_rule (settle_run m.sig m.structure) m
rule (root e) m =
    asks (find_causes m.structure.links e) (found (find_of m.structure.links e)) (with_links (short_of m.structure.links e) m.structure) m
rule (root_const e) m = asks (find_causes m.structure.links e) (found (find_of m.structure.links e)) m.structure m
rule (lookup_type t ps) m =
    asks (lookup_type_causes m.sig t ps) (typed (leading ps (concrete_type_at m.sig.types t (length ps)))) m.structure m
rule (ambient_parents ts) m =
    asks (ambient_parents_causes m.sig m.structure ts) (els (ambient_els ts m.structure.ambients)) m.structure m

-- an accepted call
unfoldable pub acceptance : Rule → Step
acceptance r = answers r.answer (machine r.after.sig (leaves r.starts r.answer r.after.structure))

-- a refused one: "left as it was"
abbrev pub refusal : Machine → ℕ → Step
refusal m n = answers (refuse n) m

unfoldable pub step_by : Rule → Machine → Step
step_by r m = decided (first_of r.causes) (refusal m) (acceptance r)

unfoldable pub step : Call → Machine → Step
step k m = step_by (rule k m) m

-- what some calls leave, one after the other
unfoldable pub after_calls : List Call → Machine → Machine
after_calls [] m = m
after_calls (k ∷ ks) m = after_calls ks (step k m).after
