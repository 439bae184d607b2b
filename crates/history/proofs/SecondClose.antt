-- What it is that the next close is accepted and reports no change, marks or not; and that a close which merges nothing leaves it so.
use mathlib.Core.Path.{◌≡◌, refl, sym, subst, ap, ap₂, ◌∙◌}
use mathlib.Core.Bool.{Bool, true, false}
use mathlib.Core.List.{List, [], ◌∷◌, ◌++◌, map, map-append}
use mathlib.Core.Option.{none}
use Prim.Native.Nat.{ℕ, zero, suc, ◌≤◌, ◌<◌}
use native.Mathlib.Omega.{arith}
use lib.ListN.{length, length-map}
use lib.Dec.{ltb}
use borrow.Author.Tests.{ltb-false}
use Rattle.ids.specs.Answers.{Answered, Outcome, outcome, accepted, refusing, accepting}
use Rattle.ids.specs.Table.{rewrite_into}
use Rattle.ids.proofs.Sorted.{All, all_map, all_join, all_left, all_right, all_image, rewrite_all}
use Rattle.ids.proofs.Judging.{decided_accepts}
use Rattle.ids.proofs.Views.{map_take}
use Rattle.unification.specs.Roots.{root_of}
use Rattle.signature.specs.Model.{Sig, pred_at}
use Rattle.signature.specs.Calls.{TypedM, at, absent, concrete_type_at}
use Rattle.semantics.specs.Structure.{Fact, FuncApp, PredApp, Structure, compare_pred_app, canonical_fact, canonical_pred_app, fact}
use Rattle.semantics.specs.Structure.{with_flags}
use Rattle.semantics.specs.Types as types
use Rattle.semantics.specs.Types.{Core, impose_all, grew}
use Rattle.semantics.specs.Close.{demanded, demanded_at, demanded_args, func_args, pred_args, func_results, demands, Turn, round, Rounds, goes_on, as_close_run}
use Rattle.semantics.specs.Close.{last_round, one_more, rounds_from, rounds, fuel, Closed, core_at_start, canonicalise_refs, with_core, imposed_after, close_run}
use Rattle.semantics.specs.Close.{report_of, after_close, close_by, close, turn, report}
use Rattle.semantics.specs.MapLaws.{map_laws}
use Rattle.semantics.specs.Valid.{Valid}
use Rattle.semantics.specs.Calls as calls
use Rattle.semantics.specs.Calls.{closed, summed, totals, Machine, Step, leaves, SettleRun, as_settle_run, reported_first, settle_after, settle_by, settle_from}
use Rattle.semantics.specs.Calls.{settle_run, merges_in, sums_of, rule, close_rule, acceptance, refusal, step_by, step}
use Rattle.semantics.proofs.Judged.{close_first}
use Rattle.semantics.proofs.Settling.{settle_by_lem}
use Rattle.semantics.proofs.Cases.{or_first, or_second, none_some}
use Rattle.validity.proofs.Fuel.{LastRoundOf}
use Rattle.validity.proofs.Closing.{close_ends, close_within}
use Rattle.history.proofs.Drain.{WithinClass}
use Rattle.history.proofs.Operations.{Held}
use Rattle.semantics.proofs.Canonical.{Canon}
use Rattle.history.proofs.Imposing.{impose_inserts, impose_all_counts, impose_all_same, plain_grown}
use Rattle.history.proofs.Passes.{NoWork, canonical_no_work, OnlyTidied, round_idle, round_was_idle}
use Rattle.history.proofs.Rounds.{stop, last_unworked, rounds_ended}
use Rattle.history.proofs.Closing.{AcceptedClose, accepted_close, closed_machine, closed_step}
use Rattle.history.proofs.Unjoined.{Safe, OnRoots, imposed_safe, safe_idle, same_safe, rewritten_facts, safe_rewritten, safe_image, safe_moved}
use Rattle.history.proofs.Unjoined.{insert_all_roots}

-- What `typing` demands of rewritten predicate applications are the images of what it demanded.

module _ (g : Sig) (ls : List ℕ) where
  demanded_image : (r : TypedM) (ps : List ℕ) (e : ℕ) → demanded r (map (root_of ls) ps) (root_of ls e) ≡ map (canonical_fact ls) (demanded r ps e)
  unfolding demanded canonical_fact
  demanded_image absent ps e = refl
  demanded_image (at t n) ps e = let p = sym (map_take (root_of ls) n ps) in λ i. fact (root_of ls e) t (p i) ∷ []

  demanded_at_image : (t : ℕ) (ps : List ℕ) (e : ℕ) → demanded_at g t (map (root_of ls) ps) (root_of ls e) ≡ map (canonical_fact ls) (demanded_at g t ps e)
  unfolding demanded_at
  demanded_at_image t ps e = rw length-map (demanded_image (concrete_type_at g.types t (length ps)) ps e)

  demanded_args_image : (ts ps xs : List ℕ)
      → demanded_args g ts (map (root_of ls) ps) (map (root_of ls) xs) ≡ map (canonical_fact ls) (demanded_args g ts ps xs)
  unfolding demanded_args
  demanded_args_image [] ps xs = refl
  demanded_args_image (t ∷ ts) ps [] = refl
  demanded_args_image (t ∷ ts) ps (x ∷ xs) =
      ap₂ ◌++◌ (demanded_at_image t ps x) (demanded_args_image ts ps xs)
      ∙ sym (map-append (canonical_fact ls) (demanded_at g t ps x) (demanded_args g ts ps xs))

-- what one predicate application demands
abbrev pred_facts : Sig → PredApp → List Fact
pred_facts g x = demanded_args g (pred_at g x.pred).arity x.parents x.args

module _ (P : Fact → Type 0) (g : Sig) where
  preds_each : (l : List PredApp) → All P (pred_args g l) → All (λ x. All P (pred_facts g x)) l
  unfolding pred_args
  preds_each [] h = tt
  preds_each (x ∷ xs) h = (all_left P (pred_facts g x) (pred_args g xs) h, preds_each xs (all_right P (pred_facts g x) (pred_args g xs) h))

  preds_all : (l : List PredApp) → All (λ x. All P (pred_facts g x)) l → All P (pred_args g l)
  unfolding pred_args
  preds_all [] h = tt
  preds_all (x ∷ xs) h = all_join P (pred_facts g x) (pred_args g xs) h.0 (preds_all xs h.1)

  -- a claim that a fact shares with its image holds of all demands once the predicate applications are rewritten
  demands_rewritten : (ls : List ℕ) → ((d : Fact) → P d → P (canonical_fact ls d)) → (apps : List FuncApp) (preds : List PredApp)
      → All P (demands g apps preds) → All P (demands g apps (rewrite_into compare_pred_app (canonical_pred_app ls) preds []))
  unfolding demands canonical_pred_app
  demands_rewritten ls image apps preds h =
      let now = pred_args g (rewrite_into compare_pred_app (canonical_pred_app ls) preds []) in
      let rest = all_right P (func_args g apps) (pred_args g preds ++ func_results g apps) h in
      all_join P (func_args g apps) (now ++ func_results g apps) (all_left P (func_args g apps) (pred_args g preds ++ func_results g apps) h)
      (all_join P now (func_results g apps)
      (preds_all (rewrite_into compare_pred_app (canonical_pred_app ls) preds [])
      (rewrite_all compare_pred_app (canonical_pred_app ls) (λ x. All P (pred_facts g x)) preds []
      (all_map (λ x k. subst (All P) (sym (demanded_args_image g ls (pred_at g x.pred).arity x.parents x.args))
      (all_image P (canonical_fact ls) (pred_facts g x) (all_map image (pred_facts g x) k))) preds
      (preds_each preds (all_left P (pred_args g preds) (func_results g apps) rest))) tt))
      (all_right P (pred_args g preds) (func_results g apps) rest))

-- Rounds that are one.

module _ (g : Sig) (preds : List PredApp) where
  rounds_some : (k : ℕ) (t : Turn) → 1 ≤ (rounds_from k g preds t).count
  unfolding rounds_from last_round one_more
  rounds_some zero t = omega arith
  rounds_some (suc k) t = go (goes_on t)
    where
      go : (b : Bool)
          → 1 ≤ (elim b as (λ _. Rounds) [ true ↦ one_more (rounds_from k g preds (round g preds t.apps t.core)) | false ↦ last_round t ]).count
      go true = omega arith
      go false = omega arith

  -- the round that left t reported no work, provided that none followed and none was stopped
  abbrev IfOnly : Turn → Rounds → Type 0
  IfOnly t r = r.count ≤ 1 → r.core.met ≡ none → t.worked ≡ false

  only_unworked : (k : ℕ) → 0 < k → (t : Turn) → IfOnly t (rounds_from k g preds t)
  unfolding rounds_from last_round one_more
  only_unworked zero l t = absurd (omega arith)
  only_unworked (suc k) l t = go (goes_on t) refl
    where
      go : (b : Bool) → goes_on t ≡ b
          → IfOnly t (elim b [ true ↦ one_more (rounds_from k g preds (round g preds t.apps t.core)) | false ↦ last_round t ])
      go true q n m = absurd (omega (arith, n, rounds_some k (round g preds t.apps t.core)))
      go false q n m = last_unworked t q m

-- A close that does nothing.

-- "close 0 0 1 0"
abbrev pub no_change : Closed
no_change = report false 0 1 0

-- what the first round of a close begins with
abbrev begun : Structure → Turn
begun s = turn (core_at_start s) s.func_apps false

-- a structure in which nothing remains to do: exactly one whose close is accepted and reports no change (`idle_next`, `next_idle`)
pub record Idle (g : Sig) (s : Structure) : Type 0 where
  pub rounds : NoWork g s.pred_apps (begun s)
  pub imposed : All (Safe s.links s.marks s.facts) s.impositions

-- flags do not bear on it
pub idle_flags : (g : Sig) (s : Structure) (x y : Bool) → Idle g s → Idle g (with_flags x y s)
unfolding core_at_start
idle_flags g s x y i = record { rounds = i.rounds; imposed = i.imposed }

module _ (g : Sig) (s : Structure) where
  -- the first round, all of them, and what the impositions make of it
  abbrev first : Turn
  first = round g s.pred_apps s.func_apps (core_at_start s)

  abbrev r : Rounds
  r = rounds g s.pred_apps s.func_apps (core_at_start s)

  abbrev w : Core
  w = impose_all s.impositions r.core

  -- where a round has nothing to do
  module _ (n : NoWork g s.pred_apps (begun s)) where
    abbrev rest : OnlyTidied g s.pred_apps (begun s) first
    rest = round_idle g s.pred_apps s.func_apps (core_at_start s) n

    -- it leaves this
    abbrev tidied : Turn
    tidied = turn (types.with_pairs rest.pairs (core_at_start s)) rest.apps false

    -- what is safe after it was so before
    safe_before : (fs : List Fact) → All (Safe first.core.links first.core.marks first.core.facts) fs
        → All (Safe s.links s.marks s.facts) fs
    unfolding core_at_start
    safe_before fs = subst (λ (t : Turn). All (Safe t.core.links t.core.marks t.core.facts) fs) rest.is

  module _ (i : Idle g s) where
    -- what its one round leaves
    abbrev idle_turn : Turn
    idle_turn = tidied i.rounds

    idle_run : close_run g s ≡ as_close_run (last_round idle_turn) idle_turn.core
    unfolding close_run rounds imposed_after last_round core_at_start
    idle_run =
        ap (λ (x : Rounds). imposed_after x s) (ap (rounds_from fuel g s.pred_apps) (rest i.rounds).is ∙ stop g s.pred_apps fuel idle_turn refl)
        ∙ ap (as_close_run (last_round idle_turn)) (safe_idle s.impositions idle_turn.core i.imposed)

    pub idle_met : (close_run g s).core.met ≡ none
    idle_met = rw idle_run (unfold core_at_start in refl)

    pub idle_report : report_of (close_run g s) ≡ no_change
    idle_report = rw idle_run (unfold report_of last_round grew core_at_start in refl)

    idle_close : (close g s).answer ≡ accepted no_change
    unfolding close close_by outcome
    idle_close =
        let c = close_run g s in
        ap (λ (o : Outcome Closed Structure). o.answer)
        (decided_accepts (refusing s) (accepting (report_of c) (after_close c s)) (close_first c ∙ idle_met))
        ∙ ap (λ (c : Closed). accepted c) idle_report

  -- a close that reports no change is one round, which reports no work ..
  pub first_unworked : (close_run g s).core.met ≡ none → (report_of (close_run g s)).changed ≡ false → first.worked ≡ false
  unfolding close_run imposed_after report_of rounds fuel
  first_unworked m e =
      let more = ltb 1 r.count in
      let same = impose_all_same s.impositions r.core (or_second more (grew r.core w) e) m in
      only_unworked g s.pred_apps fuel (omega arith) first (ltb-false 1 r.count (or_first more (grew r.core w) e)) (ap (λ (v : Core). v.met) (sym same) ∙ m)

  -- .. and impositions that are all answered with no
  was_idle : (close_run g s).core.met ≡ none → (report_of (close_run g s)).changed ≡ false → Idle g s
  unfolding close_run imposed_after report_of core_at_start rounds fuel last_round
  was_idle m e =
      let more = ltb 1 r.count in
      let same = impose_all_same s.impositions r.core (or_second more (grew r.core w) e) m in
      let met = ap (λ (v : Core). v.met) (sym same) ∙ m in
      let unworked = first_unworked m e in
      let one : r.core ≡ first.core = ap (λ (x : Rounds). x.core) (stop g s.pred_apps fuel first unworked) in
      let no_work = round_was_idle g s.pred_apps s.func_apps (core_at_start s) unworked (ap (λ (v : Core). v.met) (sym one) ∙ met) in
      let safe = subst (λ (v : Core). All (Safe v.links v.marks v.facts) s.impositions) one (same_safe s.impositions r.core same m) in
      record { rounds = no_work; imposed = safe_before no_work s.impositions safe }

  -- What a close leaves whose impositions merged nothing, of every valid structure: after the last round nothing remained to do, and they added facts only.
  module _ (v : Valid g s) where
    abbrev last : LastRoundOf g s.pred_apps r
    last = close_ends g s v

    rounds_rooted : OnRoots r.core.links r.core.facts
    rounds_rooted =
        subst (λ (x : Core). OnRoots x.links x.facts) (sym last.core) (close_within g s v).after.begins.valid.rooted

    after_imposing : (close_run g s).core.met ≡ none → (close_run g s).core.merges ≡ r.core.merges → Idle g (after_close (close_run g s) s)
    unfolding close_run imposed_after after_close canonicalise_refs with_core core_at_start
    after_imposing m still =
        let plain = impose_inserts s.impositions r.core still in
        let grown = plain_grown s.impositions r.core plain in
        let ended = rounds_ended g s.pred_apps r last (grown.met m) in
        let ls = w.links in
        let ms = w.marks in
        let fs = rewritten_facts ls ms w.facts in
        let ds = demands g r.apps s.pred_apps in
        let imposed = imposed_safe s.impositions r.core still m ds ended.safe in
        let on-now : OnRoots ls w.facts =
        subst (λ (x : Core). OnRoots x.links x.facts) (sym plain) (insert_all_roots s.impositions r.core rounds_rooted) in
        let now : (l : List Fact) → All (Safe r.core.links r.core.marks w.facts) l → All (Safe ls ms fs) l =
        λ l h. all_map (safe_rewritten ls ms w.facts on-now) l (safe_moved (sym grown.links) (sym grown.marks) w.facts l h) in
        let image = safe_image ls ms fs in
        record {
          rounds = canonical_no_work g _ (core_at_start (after_close (close_run g s) s)) r.apps refl
              (subst (All (WithinClass ls)) (sym (grown.pairs ∙ ended.pairs)) tt) ended.sorted
              (subst (λ k. All (Canon k) r.apps) (sym grown.links) ended.canon)
              (demands_rewritten (Safe ls ms fs) g ls image r.apps s.pred_apps (now ds imposed.0))
              (subst (λ k. All (Held k r.apps) (map_laws g.models r.apps)) (sym grown.links) ended.held);
          imposed = all_image (Safe ls ms fs) (canonical_fact ls) s.impositions
              (all_map image s.impositions (now s.impositions imposed.1));
        }

    -- so a close that merged nothing
    pub after_idle : (close_run g s).core.met ≡ none → (report_of (close_run g s)).merges ≡ 0 → Idle g (after_close (close_run g s) s)
    after_idle m z =
        after_imposing m (unfold close_run imposed_after report_of in omega (arith, impose_all_counts s.impositions r.core, z))

    pub closed_idle : (c : Closed) → (close g s).answer ≡ accepted c → c.merges ≡ 0 → Idle g (close g s).after
    closed_idle c e z =
        let a = accepted_close g s c e in
        rw a.after (after_idle a.met (sym (ap (λ (x : Closed). x.merges) a.answer) ∙ z))

-- The call.

-- the next close is accepted and reports no change
abbrev pub NextUnchanged : Machine → Type 0
NextUnchanged m = (step calls.close m).answer ≡ closed no_change

pub idle_next : (m : Machine) → Idle m.sig m.structure → NextUnchanged m
unfolding step step_by rule close_rule acceptance
idle_next m i =
    let c = close_run m.sig m.structure in
    ap (λ (t : Step). t.answer) (decided_accepts (refusal m) (acceptance (close_rule c m)) (close_first c ∙ idle_met m.sig m.structure i))
    ∙ ap closed (idle_report m.sig m.structure i)

module _ (m : Machine) (c : Closed) (e : (step calls.close m).answer ≡ closed c) (unchanged : c.changed ≡ false) where
  abbrev a : AcceptedClose (close_run m.sig m.structure) c (closed_machine m c) (step calls.close m).after
  a = closed_step m c e

  idle_before : Idle m.sig m.structure
  idle_before = was_idle m.sig m.structure a.met (sym (ap (λ (x : Closed). x.changed) a.answer) ∙ unchanged)

  -- a close that reports no change merges nothing, in one round
  pub unchanged_report : c ≡ no_change
  unchanged_report = a.answer ∙ idle_report m.sig m.structure idle_before

pub next_idle : (m : Machine) → NextUnchanged m → Idle m.sig m.structure
next_idle m u = idle_before m no_change u refl

-- and a settle is one close

settle_run_one : (g : Sig) (s : Structure) → Idle g s → settle_run g s ≡ as_settle_run (no_change ∷ []) none (leaves true (closed no_change) (close g s).after)
unfolding settle_run settle_from settle_by settle_after reported_first
settle_run_one g s i = ap (λ (a : Answered Closed). settle_after a (close g s).after (settle_from (length s.links) g)) (idle_close g s i)

pub next_settles : (m : Machine) → NextUnchanged m → (step calls.settle m).answer ≡ summed (totals 1 0)
unfolding sums_of merges_in
next_settles m u =
    let one = settle_run_one m.sig m.structure (next_idle m u) in
    settle_by_lem m (λ (t : Step). t.answer ≡ summed (totals 1 0)) (λ e. ap (λ (r : SettleRun). summed (sums_of r.reports)) one)
    (λ n e. none_some (sym (ap (λ (r : SettleRun). r.met) one) ∙ e))

-- of a valid structure, "close C 0 R F" is followed by "close 0 0 1 0"
pub second_close : (m : Machine) (c : Closed) → Valid m.sig m.structure → (step calls.close m).answer ≡ closed c → c.merges ≡ 0
    → NextUnchanged (step calls.close m).after
unfolding leaves
second_close m c v e z =
    let a = closed_step m c e in
    subst NextUnchanged (sym a.after)
    (idle_next (closed_machine m c)
    (idle_flags m.sig (after_close (close_run m.sig m.structure) m.structure) true _
    (after_idle m.sig m.structure v a.met (sym (ap (λ (x : Closed). x.merges) a.answer) ∙ z))))
