-- The close (01, "The close line").
use Rattle.std.specs.Prelude.{ℕ, zero, suc, ◌+◌, ◌-◌, ◌*◌, Bool, true, false, ◌&&◌, ◌||◌, List, [], ◌∷◌, ◌++◌, map, length, take, eqb, ltb}
use Rattle.std.proofs.Math.Option.{Option, none, some}
use Rattle.ids.specs.Answers.{Cause, Outcome, outcome, ◌if◌, no_room}
use Rattle.ids.specs.Table.{lookup_of, placed, rewrite_into}
use Rattle.unification.specs.Roots.{max_els, root_of}
use Rattle.signature.specs.Model.{Sig, pred_at, func_at}
use Rattle.signature.specs.Calls.{TypedM, at, absent, concrete_type_at}
use Rattle.semantics.specs.Structure.{Fact, fact, FuncApp, func_app, PredApp, Pair, pair, Structure, max_facts, max_func_apps, compare_fact}
use Rattle.semantics.specs.Structure.{compare_func_app, compare_pred_app, canonical_fact, canonical_func_app, canonical_pred_app, canonical_var, with_links}
use Rattle.semantics.specs.Structure.{with_marks, with_facts, with_func_apps, with_pred_apps, with_vars, with_pairs}
use Rattle.semantics.specs.Structure.{with_impositions}
use Rattle.semantics.specs.Types as types
use Rattle.semantics.specs.Types.{Core, core, drain, impose_all, grew}
use Rattle.semantics.specs.Applying.{Applied, insert_func_app_or_equate}
use Rattle.semantics.specs.MapLaws.{Side, MapLaw, application, equation, map_laws}

-- `functionality`: "rewrites keys and results in order of function, parents, arguments; the first result stays, a different one is queued".

-- the table as it is rewritten, the pairs, and whether one was queued
pub record Rewritten : Type 0 where
  pub apps : List FuncApp
  pub pairs : List Pair
  pub queued : Bool

abbrev pub rewriting : List FuncApp → List Pair → Bool → Rewritten
rewriting apps ps queued = record { apps = apps; pairs = ps; queued = queued }

-- an application, already rewritten, meets the entry with its key
unfoldable pub enter_at : Option FuncApp → FuncApp → Rewritten → Rewritten
enter_at none x t = rewriting (placed compare_func_app x t.apps) t.pairs t.queued
enter_at (some y) x t =
    elim (eqb y.result x.result) [
      | true ↦ t
      | false ↦ rewriting t.apps (pair y.result x.result ∷ t.pairs) true
    ]

unfoldable pub enter : FuncApp → Rewritten → Rewritten
enter x t = enter_at (lookup_of compare_func_app x t.apps) x t

unfoldable pub enter_all : List ℕ → List FuncApp → Rewritten → Rewritten
enter_all ls [] t = t
enter_all ls (x ∷ xs) t = enter_all ls xs (enter (canonical_func_app ls x) t)

-- `typing`: "does function arguments, predicate arguments, function results".

-- the fact that a type demands at an element, for the parents that are given; "absent" demands none
unfoldable pub demanded : TypedM → List ℕ → ℕ → List Fact
demanded absent ps e = []
demanded (at t n) ps e = fact e t (take n ps) ∷ []

unfoldable pub demanded_at : Sig → ℕ → List ℕ → ℕ → List Fact
demanded_at g t ps e = demanded (concrete_type_at g.types t (length ps)) ps e

-- "An argument past the domain or arity gets no type."
unfoldable pub demanded_args : Sig → List ℕ → List ℕ → List ℕ → List Fact
demanded_args g [] ps xs = []
demanded_args g (t ∷ ts) ps [] = []
demanded_args g (t ∷ ts) ps (x ∷ xs) = demanded_at g t ps x ++ demanded_args g ts ps xs

unfoldable pub func_args : Sig → List FuncApp → List Fact
func_args g [] = []
func_args g (x ∷ xs) = demanded_args g (func_at g x.func).domain x.parents x.args ++ func_args g xs

unfoldable pub pred_args : Sig → List PredApp → List Fact
pred_args g [] = []
pred_args g (x ∷ xs) = demanded_args g (pred_at g x.pred).arity x.parents x.args ++ pred_args g xs

unfoldable pub func_results : Sig → List FuncApp → List Fact
func_results g [] = []
func_results g (x ∷ xs) = demanded_at g (func_at g x.func).codomain x.parents x.result ++ func_results g xs

unfoldable pub demands : Sig → List FuncApp → List PredApp → List Fact
demands g apps preds = func_args g apps ++ (pred_args g preds ++ func_results g apps)

-- A round: "drain (last pair first), `functionality`, `typing`", and the laws of identities and composites: "The pass runs after typing in each round"
-- (02, M-102).

-- what the passes of a round work on, and whether one of them reported work
pub record Turn : Type 0 where
  pub core : Core
  pub apps : List FuncApp
  pub worked : Bool

abbrev pub turn : Core → List FuncApp → Bool → Turn
turn w apps worked = record { core = w; apps = apps; worked = worked }

-- what a pass leaves, and whether it reports work
abbrev pub reports : Core → List FuncApp → Bool → Turn → Turn
reports w apps work t = turn w apps (t.worked || work)

-- a drain reports a merge
unfoldable pub drained : Core → Turn → Turn
drained w t = reports w t.apps (ltb t.core.merges w.merges) t

unfoldable pub drain_pass : Sig → List PredApp → Turn → Turn
drain_pass g preds t = drained (drain t.core) t

-- `functionality` reports a pair that it queued
unfoldable pub rewrote : Rewritten → Turn → Turn
rewrote r t = reports (types.with_pairs r.pairs t.core) r.apps r.queued t

unfoldable pub functionality_pass : Sig → List PredApp → Turn → Turn
functionality_pass g preds t =
    rewrote (enter_all t.core.links t.apps (rewriting [] t.core.pairs false)) t

-- `typing` reports a fact that was answered with yes
unfoldable pub typed : Core → Turn → Turn
typed w t = reports w t.apps (grew t.core w) t

unfoldable pub typing_pass : Sig → List PredApp → Turn → Turn
typing_pass g preds t = typed (impose_all (demands g t.apps preds) t.core) t

-- `morphism_operation_constraints`, for id and comp (02, M-102): each law of the applications that the pass begins with, in order, is carried out on the
-- table as it is then. It reports an application that was inserted, or two results with different roots. Where a record 5 stands no application of id
-- or comp is accepted (7), and the pass does nothing.

-- "may add applications, so close and settle may now meet number 9": where an entry is needed and its table is at its limit, the number is met
unfoldable pub applied_turn : Applied → Turn → Turn
applied_turn a t =
    elim a.full [
      | true ↦ turn (types.with_met no_room t.core) t.apps t.worked
      | false ↦ reports (types.with_links a.links (types.with_pairs a.pairs t.core)) a.apps a.yes t
    ]

unfoldable pub apply_turn : FuncApp → Turn → Turn
apply_turn x t = applied_turn (insert_func_app_or_equate x t.core.links t.core.pairs t.apps) t

-- what a side is looked up under: the parents as they are stored, the element's root (the result 0 is not read)
unfoldable pub key_of : List ℕ → List ℕ → Side → FuncApp
key_of ls ps x = func_app x.func ps (root_of ls x.el ∷ []) 0

-- the value that was found, if there is one, is the value at the key y too
unfoldable pub give_to : FuncApp → Option FuncApp → Turn → Turn
give_to y none t = t
give_to y (some x) t = apply_turn (func_app y.func y.parents y.args x.result) t

unfoldable pub give : FuncApp → FuncApp → Turn → Turn
give x y t = give_to y (lookup_of compare_func_app x t.apps) t

-- from the left key to the right one, then from the right to the left
unfoldable pub equalize : FuncApp → FuncApp → Turn → Turn
equalize l r t = give r l (give l r t)

unfoldable pub obey : MapLaw → Turn → Turn
obey (application x) t = apply_turn x t
obey (equation ps l r) t = equalize (key_of t.core.links ps l) (key_of t.core.links ps r) t

unfoldable pub obey_all : List MapLaw → Turn → Turn
obey_all [] t = t
obey_all (x ∷ xs) t = obey_all xs (obey x t)

unfoldable pub operation_pass : Sig → List PredApp → Turn → Turn
operation_pass g preds t = obey_all (map_laws g.models t.apps) t

abbrev pub Pass : Type 0
Pass = Sig → List PredApp → Turn → Turn

unfoldable pub passes : List Pass
passes = drain_pass ∷ functionality_pass ∷ typing_pass ∷ operation_pass ∷ []

unfoldable pub run_passes : List Pass → Sig → List PredApp → Turn → Turn
run_passes [] g preds t = t
run_passes (p ∷ ps) g preds t = run_passes ps g preds (p g preds t)

unfoldable pub round : Sig → List PredApp → List FuncApp → Core → Turn
round g preds apps w = run_passes passes g preds (turn w apps false)

-- "Rounds repeat until one in which none reports work"; a number that is met ends them too.

-- what the rounds leave, and how many ran: "all that ran, the idle last included"
pub record Rounds : Type 0 where
  pub core : Core
  pub apps : List FuncApp
  pub count : ℕ

abbrev pub rounds_made : Core → List FuncApp → ℕ → Rounds
rounds_made w apps n = record { core = w; apps = apps; count = n }

unfoldable pub is_none : Option ℕ → Bool
is_none none = true
is_none (some n) = false

unfoldable pub last_round : Turn → Rounds
last_round t = rounds_made t.core t.apps 1

unfoldable pub one_more : Rounds → Rounds
one_more r = rounds_made r.core r.apps (suc r.count)

-- another round follows
abbrev pub goes_on : Turn → Bool
goes_on t = t.worked && is_none t.core.met

-- from a round that left t on, at most so many more
unfoldable pub rounds_from : ℕ → Sig → List PredApp → Turn → Rounds
rounds_from zero g preds t = last_round t
rounds_from (suc k) g preds t =
    elim (goes_on t) [ true ↦ one_more (rounds_from k g preds (round g preds t.apps t.core)) | false ↦ last_round t ]

-- more rounds than a close of a valid structure can take
unfoldable pub fuel : ℕ
fuel = 2 * ((max_facts + max_func_apps + 2) * (max_els + 1))

unfoldable pub rounds : Sig → List PredApp → List FuncApp → Core → Rounds
rounds g preds apps w = rounds_from fuel g preds (round g preds apps w)

-- How many applications the laws of maps inserted in these rounds. No other pass makes the table longer, and theirs never makes it shorter (`up_most`,
-- `laws_lengthen`, history/proofs/NoChange), so that in one round its length tells. From the first round to the last it does not: `functionality` makes one of
-- two entries whose keys come to be the same.

-- a round up to the laws
unfoldable pub up_to_laws : Sig → List PredApp → List FuncApp → Core → Turn
up_to_laws g preds apps w = run_passes (drain_pass ∷ functionality_pass ∷ typing_pass ∷ []) g preds (turn w apps false)

unfoldable pub inserted_in : Sig → List PredApp → List FuncApp → Core → ℕ
inserted_in g preds apps w = length (round g preds apps w).apps - length (up_to_laws g preds apps w).apps

-- in the rounds that follow one that left t, at most so many
unfoldable pub inserted_from : ℕ → Sig → List PredApp → Turn → ℕ
inserted_from zero g preds t = 0
inserted_from (suc k) g preds t =
    elim (goes_on t) [
      | true ↦ inserted_in g preds t.apps t.core + inserted_from k g preds (round g preds t.apps t.core)
      | false ↦ 0
    ]

unfoldable pub inserted : Sig → List PredApp → List FuncApp → Core → ℕ
inserted g preds apps w = inserted_in g preds apps w + inserted_from fuel g preds (round g preds apps w)

-- The close.

-- "The answer is changed (the Rust's), merges (queued pairs whose roots differed when drained) and rounds", and facts added: "F counts the insertions so
-- made, and no others, that enlarged a set" (02, M-106)
pub record Closed : Type 0 where
  pub changed : Bool
  pub merges : ℕ
  pub rounds : ℕ
  pub added : ℕ

abbrev pub report : Bool → ℕ → ℕ → ℕ → Closed
report changed merges rounds added = record { changed = changed; merges = merges; rounds = rounds; added = added }

unfoldable pub core_at_start : Structure → Core
core_at_start s = core s.links s.marks s.facts s.pairs 0 0 none

-- "`canonicalise_refs` rewrites predicate applications, variables, facts and impositions; function applications and ambient elements it leaves untouched."
unfoldable pub canonicalise_refs : List ℕ → Structure → Structure
canonicalise_refs ls s =
    with_pred_apps (rewrite_into compare_pred_app (canonical_pred_app ls) s.pred_apps [])
    (with_vars (map (canonical_var ls) s.vars)
    (with_facts (rewrite_into compare_fact (canonical_fact ls) s.facts [])
    (with_impositions (map (canonical_fact ls) s.impositions) s)))

-- the structure with what the close worked on
unfoldable pub with_core : Core → List FuncApp → Structure → Structure
with_core w apps s = with_links w.links (with_marks w.marks (with_facts w.facts (with_pairs w.pairs (with_func_apps apps s))))

-- how many applications the laws inserted in a close
unfoldable pub inserted_apps : Sig → Structure → ℕ
inserted_apps g s = inserted g s.pred_apps s.func_apps (core_at_start s)

-- what a close comes to: its rounds, and the core that the impositions leave
pub record CloseRun : Type 0 where
  pub rounds : Rounds
  pub core : Core

abbrev pub as_close_run : Rounds → Core → CloseRun
as_close_run r w = record { rounds = r; core = w }

-- "Then each imposition is imposed in queue order"
unfoldable pub imposed_after : Rounds → Structure → CloseRun
imposed_after r s = as_close_run r (impose_all s.impositions r.core)

unfoldable pub close_run : Sig → Structure → CloseRun
close_run g s = imposed_after (rounds g s.pred_apps s.func_apps (core_at_start s)) s

-- "changed (the Rust's)": a round before the last worked, or an imposition did
unfoldable pub report_of : CloseRun → Closed
report_of c = report (ltb 1 c.rounds.count || grew c.rounds.core c.core) c.core.merges c.rounds.count c.core.added

-- "then `canonicalise_refs`. Impositions stay queued."
unfoldable pub after_close : CloseRun → Structure → Structure
after_close c s = canonicalise_refs c.core.links (with_core c.core c.rounds.apps s)

-- the number first met refuses: "Of 9 and 11 in one close, the one met first is given." (02, M-102)
unfoldable pub met_causes : Option ℕ → List Cause
met_causes none = []
met_causes (some n) = n if true ∷ []

-- "structure before the close"
abbrev pub close_causes : CloseRun → List Cause
close_causes c = met_causes c.core.met

unfoldable pub close_by : CloseRun → Structure → Outcome Closed Structure
close_by c s = outcome (close_causes c) s (report_of c) (after_close c s)

unfoldable pub close : Sig → Structure → Outcome Closed Structure
close g s = close_by (close_run g s) s
