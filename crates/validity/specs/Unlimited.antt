-- The close over any insertions, and the close without limits (01: "the close would at some moment hold 1,025 facts"; 02, M-102: "close and settle may
-- now meet number 9 .. Of 9 and 11 in one close, the one met first is given").
-- The layers above the insertions are those of `Types` and `Close`, said again with the insertions, the test for one more round and the most
-- rounds as parameters: the proofs of the code are about the definitions there. With the parameters of the close they are the close, which
-- proofs/Limit.antt shows (`is_close`).
use Rattle.std.specs.Prelude.{ℕ, zero, suc, Bool, true, false, ◌&&◌, ◌||◌, List, [], ◌∷◌, length, ltb}
use Rattle.std.proofs.Math.Option.{Option, none, some}
use Rattle.ids.specs.Answers.{Outcome, decided, refusing, accepting, no_room, too_many_facts}
use Rattle.ids.specs.Table.{present, placed, lookup_of}
use Rattle.signature.specs.Model.{Sig}
use Rattle.semantics.specs.Structure.{Fact, FuncApp, func_app, PredApp, Structure, compare_fact, compare_func_app, canonical_fact, max_facts, max_func_apps, max_pairs}
use Rattle.semantics.specs.Types.{Core, with_links, with_pairs, with_added, with_met, concrete_types_of, refine_all, insert_fact}
use Rattle.semantics.specs.Applying.{Applied, insert_func_app_or_equate}
use Rattle.semantics.specs.MapLaws.{MapLaw, application, equation, map_laws}
use Rattle.semantics.specs.Close.{Turn, turn, reports, Pass, drain_pass, functionality_pass, typed, demands, apply_turn, key_of, Rounds, last_round, one_more}
use Rattle.semantics.specs.Close.{goes_on, Closed, core_at_start, CloseRun, as_close_run, close_by, report_of, after_close}

-- The insertions that a close makes: of a fact that is demanded or imposed, and of an application that a law of identities and composites gives.
pub record Insertions : Type 0 where
  pub fact : Fact → Core → Core
  pub app : FuncApp → Turn → Turn

abbrev pub insertions : (Fact → Core → Core) → (FuncApp → Turn → Turn) → Insertions
insertions fact app = record { fact = fact; app = app }

module _ (insert : Insertions) where
  -- `impose`
  unfoldable pub impose_by : Fact → Core → Core
  impose_by f w =
      let refined = refine_all (concrete_types_of w.links w.facts f.el) f w in
      insert.fact (canonical_fact refined.links f) refined

  -- `impose_all`
  unfoldable pub impose_all_by : List Fact → Core → Core
  impose_all_by [] w = w
  impose_all_by (f ∷ fs) w = impose_all_by fs (impose_by f w)

  -- `imposed_after`
  unfoldable pub imposed_by : Rounds → Structure → CloseRun
  imposed_by r s = as_close_run r (impose_all_by s.impositions r.core)

  -- `typing_pass`
  unfoldable pub typing_by : Pass
  typing_by g preds t = typed (impose_all_by (demands g t.apps preds) t.core) t

  -- `give_to`
  unfoldable pub give_to_by : FuncApp → Option FuncApp → Turn → Turn
  give_to_by y none t = t
  give_to_by y (some x) t = insert.app (func_app y.func y.parents y.args x.result) t

  -- `give`
  unfoldable pub give_by : FuncApp → FuncApp → Turn → Turn
  give_by x y t = give_to_by y (lookup_of compare_func_app x t.apps) t

  -- `equalize`
  unfoldable pub equalize_by : FuncApp → FuncApp → Turn → Turn
  equalize_by l r t = give_by r l (give_by l r t)

  -- `obey`
  unfoldable pub obey_by : MapLaw → Turn → Turn
  obey_by (application x) t = insert.app x t
  obey_by (equation ps l r) t = equalize_by (key_of t.core.links ps l) (key_of t.core.links ps r) t

  -- `obey_all`
  unfoldable pub obey_all_by : List MapLaw → Turn → Turn
  obey_all_by [] t = t
  obey_all_by (x ∷ xs) t = obey_all_by xs (obey_by x t)

  -- `operation_pass`
  unfoldable pub operation_by : Pass
  operation_by g preds t = obey_all_by (map_laws g.models t.apps) t

-- a pass with the insertions that it makes
abbrev pub PassBy : Type 0
PassBy = Insertions → Pass

-- `passes`
unfoldable pub passes_by : List PassBy
passes_by = (λ insert. drain_pass) ∷ (λ insert. functionality_pass) ∷ typing_by ∷ operation_by ∷ []

-- `run_passes`
unfoldable pub run_passes_by : List PassBy → PassBy
run_passes_by [] insert g preds t = t
run_passes_by (p ∷ ps) insert g preds t = run_passes_by ps insert g preds (p insert g preds t)

module _ (insert : Insertions) where
  -- `round`
  unfoldable pub round_by : Sig → List PredApp → List FuncApp → Core → Turn
  round_by g preds apps w = run_passes_by passes_by insert g preds (turn w apps false)

  module _ (more : Turn → Bool) where
    -- `rounds_from`
    unfoldable pub rounds_from_by : ℕ → Sig → List PredApp → Turn → Rounds
    rounds_from_by zero g preds t = last_round t
    rounds_from_by (suc k) g preds t =
        elim (more t) [ true ↦ one_more (rounds_from_by k g preds (round_by g preds t.apps t.core)) | false ↦ last_round t ]

    unfoldable pub rounds_by : ℕ → Sig → Structure → Rounds
    rounds_by n g s = rounds_from_by n g s.pred_apps (round_by g s.pred_apps s.func_apps (core_at_start s))

    -- `close_run`
    unfoldable pub ran_by : ℕ → Sig → Structure → CloseRun
    ran_by n g s = imposed_by insert (rounds_by n g s) s

-- The close with limits, by its insertions: a number that is met ends the rounds, and refuses.

-- the insertions of the close
abbrev pub with_limits : Insertions
with_limits = insertions insert_fact apply_turn

unfoldable pub limited : Insertions → ℕ → Sig → Structure → Outcome Closed Structure
limited insert n g s = close_by (ran_by insert goes_on n g s) s

-- The close without limits: every fact that is not stored is inserted, every application that a law gives is inserted or queues its pair, rounds repeat
-- until one in which none reports work, at most n after the first (of a valid structure any number from `fuel` on gives the same, `numbers_valid`), and
-- nothing is refused. That a table is over its limit is only noted, and the number first noted stays (`with_met`). The note is taken where an entry
-- is inserted: drains and `functionality` make no fact and no application more, and the pairs that `functionality` and imposing queue have room until a
-- number is noted (`close_fits`).

unfoldable pub noted_if : Bool → ℕ → Core → Core
noted_if over n w = elim over [ true ↦ with_met n w | false ↦ w ]

-- "the close would at some moment hold 1,025 facts": the first insertion that leaves more than `max_facts` leaves exactly one more (`first_over`)
unfoldable pub insert_always : Fact → Core → Core
insert_always f w =
    let fs = placed compare_fact f w.facts in
    elim (present compare_fact f w.facts) [ true ↦ w | false ↦ noted_if (ltb max_facts (length fs)) too_many_facts (with_added fs w) ]

-- a table that grew holds more entries than its limit
unfoldable pub grew_over : ℕ → ℕ → ℕ → Bool
grew_over limit before after = ltb before after && ltb limit after

-- an application on the tables of a round
abbrev pub applied_during : Turn → FuncApp → Applied
applied_during t x = insert_func_app_or_equate x t.core.links t.core.pairs t.apps

-- it leaves more applications, or more pairs, than these limits
unfoldable pub over_limits : ℕ → ℕ → Applied → Turn → Bool
over_limits apps pairs a t =
    grew_over apps (length t.apps) (length a.apps) || grew_over pairs (length t.core.pairs) (length a.pairs)

-- "an entry needed, its table at its limit": an application, or a pair of two results. The first of them past its limit is exactly one more too
-- (`first_app_over`, `first_pair_over`).
unfoldable pub apply_always : FuncApp → Turn → Turn
apply_always x t =
    let a = applied_during t x in
    let w = with_links a.links (with_pairs a.pairs t.core) in
    reports (noted_if (over_limits max_func_apps max_pairs a t) no_room w) a.apps a.yes t

abbrev pub without_limits : Insertions
without_limits = insertions insert_always apply_always

abbrev pub works : Turn → Bool
works t = t.worked

abbrev pub ran_free : ℕ → Sig → Structure → CloseRun
ran_free = ran_by without_limits works

unfoldable pub unlimited : ℕ → Sig → Structure → Outcome Closed Structure
unlimited n g s = accepting (report_of (ran_free n g s)) (after_close (ran_free n g s) s)

-- the number first noted. A structure that begins with a table over its limit, as no call leaves one, has its moment at the first insertion into it.
unfoldable pub first_noted : ℕ → Sig → Structure → Option ℕ
first_noted n g s = (ran_free n g s).core.met

-- "Of 9 and 11 in one close, the one met first is given", "with the structure as before the call"
abbrev pub close_or_number : ℕ → Sig → Structure → Outcome Closed Structure
close_or_number n g s = decided (first_noted n g s) (refusing s) (unlimited n g s)
