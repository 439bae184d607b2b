-- A close of a valid structure: it is refused with a number of `close_numbers` or accepted, leaves no pair that waits where it is accepted, and
-- leaves a valid structure, with one root fewer for each merge.
use mathlib.Core.Path.{◌≡◌, refl, sym, ap, subst, ◌∙◌}
use mathlib.Core.Logic.{◌⊎◌, inl, inr}
use mathlib.Core.Bool.{Bool, true, false, ◌&&◌}
use mathlib.Core.List.{List, [], map, Memᴰ}
use mathlib.Core.Option.{Option, none, some}
use Prim.Native.Nat.{ℕ, ◌+◌, ◌≤◌}
use native.Mathlib.Omega.{arith}
use lib.ListN.{length, length-map}
use Rattle.ids.specs.Answers.{Answered, Outcome, outcome, accepted, refused, refusing, accepting}
use Rattle.ids.specs.Table.{rewrite_into}
use Rattle.ids.proofs.Judging.{decided_refuses, decided_accepts, decided_by}
use Rattle.ids.proofs.Sorted.{All, all_map, all_image, rewrite_all, rewrite_sorted, rewrite_length, sorted_image}
use Rattle.unification.proofs.Laws.{root_le}
use Rattle.signature.specs.Model.{Sig}
use Rattle.semantics.specs.Structure.{Fact, PredApp, Var, Structure, compare_fact, compare_pred_app, compare_var, compare_func_app, max_func_apps, max_pairs}
use Rattle.semantics.specs.Structure.{canonical_fact, canonical_pred_app, canonical_var, empty}
use Rattle.semantics.specs.Types.{Core}
use Rattle.semantics.specs.Close.{Turn, CloseRun, Closed, round, rounds, rounds_from, is_none, fuel, core_at_start, canonicalise_refs, with_core, imposed_after}
use Rattle.semantics.specs.Close.{close_run, close_causes, report_of, after_close, close_by, close}
use Rattle.semantics.specs.Valid.{Counts, counts_of, FactValid, PredAppValid, VarValid, FuncAppValid, OnRoot, Queue, Table, ValidStructure, Unreserved}
use Rattle.semantics.specs.Valid.{WellApplied, Valid}
use Rattle.semantics.proofs.Orders.{fact_ordered, pred_app_ordered}
use Rattle.semantics.proofs.Counts.{roots}
use Rattle.semantics.proofs.Computes.{everything}
use Rattle.semantics.specs.Calls as calls
use Rattle.semantics.specs.Calls.{Machine, Step, closed, refusal, step}
use Rattle.semantics.proofs.Judged.{close_first, closed_answer, close_steps}
use Rattle.semantics.proofs.Pairs.{Imposes, imposes, RoundFits, rounds_fit}
use Rattle.validity.specs.Numbers.{close_numbers, MayMeet}
use Rattle.validity.proofs.Drain.{ValidCore, Advances}
use Rattle.validity.proofs.Imposing.{Imposed, impose_all_advances, roots_listed, canonical_valid, canonical_rooted}
use Rattle.validity.proofs.Turns.{Begins, AfterRound, Within, round_within}
use Rattle.validity.proofs.Fuel.{LastRoundOf, more_fuel, rounds_end, rounds_begin, rounds_advance}
use Rattle.validity.proofs.Growing.{counted}

pub core_valid : (c : Counts) (s : Structure) → ValidStructure c s → ValidCore c (core_at_start s)
unfolding core_at_start
core_valid c s v = record {
  els = v.els;
  links = v.links;
  marks = v.marks;
  facts = v.facts;
  rooted = v.facts_rooted;
  pairs = v.pairs.each;
  met = tt;
}

-- What `canonicalise_refs` leaves.

module _ (c : Counts) (ls : List ℕ) where
  pred_valid : (x : PredApp) → PredAppValid c x → PredAppValid c (canonical_pred_app ls x)
  unfolding canonical_pred_app
  pred_valid x v = record {
    pred = v.pred;
    parents = roots_listed c.els ls x.parents v.parents;
    args = roots_listed c.els ls x.args v.args;
  }

  var_valid : (x : Var) → VarValid c x → VarValid c (canonical_var ls x)
  unfolding canonical_var
  var_valid x v = record { key = v.key; el = omega (arith, root_le ls x.el, v.el) }

  var_alike : (x y : Var) → compare_var (canonical_var ls x) (canonical_var ls y) ≡ compare_var x y
  unfolding canonical_var compare_var
  var_alike x y = refl

  facts_table : (limit : ℕ) (l : List Fact) → Table (FactValid c) compare_fact limit l
      → Table (FactValid c) compare_fact limit (rewrite_into compare_fact (canonical_fact ls) l [])
  facts_table limit l t = record {
    each = rewrite_all compare_fact (canonical_fact ls) (FactValid c) l [] (all_map (λ f k. canonical_valid c ls f k) l t.each) tt;
    sorted = rewrite_sorted fact_ordered (canonical_fact ls) l [] tt;
    most = omega (arith, rewrite_length compare_fact (canonical_fact ls) l [], t.most);
  }

  facts_rooted : (l : List Fact) → All (FactValid c) l → All (OnRoot ls) (rewrite_into compare_fact (canonical_fact ls) l [])
  facts_rooted l h = rewrite_all compare_fact (canonical_fact ls) (OnRoot ls) l [] (all_map (λ f k. canonical_rooted ls f) l h) tt

  preds_table : (limit : ℕ) (l : List PredApp) → Table (PredAppValid c) compare_pred_app limit l
      → Table (PredAppValid c) compare_pred_app limit (rewrite_into compare_pred_app (canonical_pred_app ls) l [])
  preds_table limit l t = record {
    each = rewrite_all compare_pred_app (canonical_pred_app ls) (PredAppValid c) l [] (all_map pred_valid l t.each) tt;
    sorted = rewrite_sorted pred_app_ordered (canonical_pred_app ls) l [] tt;
    most = omega (arith, rewrite_length compare_pred_app (canonical_pred_app ls) l [], t.most);
  }

  vars_table : (limit : ℕ) (l : List Var) → Table (VarValid c) compare_var limit l → Table (VarValid c) compare_var limit (map (canonical_var ls) l)
  vars_table limit l t = record {
    each = all_image (VarValid c) (canonical_var ls) l (all_map var_valid l t.each);
    sorted = sorted_image compare_var (canonical_var ls) var_alike l t.sorted;
    most = omega (arith, length-map l (canonical_var ls), t.most);
  }

  impositions_queue : (limit : ℕ) (l : List Fact) → Queue (FactValid c) limit l → Queue (FactValid c) limit (map (canonical_fact ls) l)
  impositions_queue limit l q = record {
    each = all_image (FactValid c) (canonical_fact ls) l (all_map (λ f k. canonical_valid c ls f k) l q.each);
    most = omega (arith, length-map l (canonical_fact ls), q.most);
  }

-- no round follows though no number is met: the last one did not work
idle_if : (b : Bool) (o : Option ℕ) → o ≡ none → (b && is_none o) ≡ false → b ≡ false
unfolding is_none
idle_if false o q e = refl
idle_if true none q e = e
idle_if true (some m) q e = let z : ◌≡◌ {A = ℕ} 0 1 = cc in absurd (omega arith)

-- of the empty structure a close leaves the empty structure
close_nothing : (g : Sig) (s : Structure) → s ≡ empty → after_close (close_run g s) s ≡ empty
close_nothing g s e = ap (λ (x : Structure). after_close (close_run g x) x) e ∙ (unfold everything in refl)

module _ (g : Sig) (s : Structure) (v : Valid g s) where
  abbrev c : Counts
  c = counts_of g s

  abbrev vs : ValidStructure c s
  vs = v.structure

  -- The rounds.

  pub begins : Begins g c (core_at_start s) s.func_apps
  begins = record {
    valid = core_valid c s vs;
    most = (unfold core_at_start in vs.pairs.most);
    apps = vs.func_apps;
    unreserved = v.unreserved;
    well_applied = v.well_applied;
  }

  pub close_fuel : (j : ℕ)
      → rounds_from (fuel + j) g s.pred_apps (round g s.pred_apps s.func_apps (core_at_start s))
      ≡ rounds g s.pred_apps s.func_apps (core_at_start s)
  unfolding rounds
  close_fuel =
      more_fuel g v.sig c.els s.pred_apps vs.pred_apps.each vs.els_most (core_at_start s) s.func_apps begins

  pub close_ends : LastRoundOf g s.pred_apps (rounds g s.pred_apps s.func_apps (core_at_start s))
  close_ends =
      rounds_end g v.sig c.els s.pred_apps vs.pred_apps.each vs.els_most (core_at_start s) s.func_apps begins

  -- what the last round began with is valid, and so is what it left
  pub close_begins : Begins g c close_ends.before.1 close_ends.before.0
  unfolding close_ends
  close_begins =
      rounds_begin g v.sig c.els s.pred_apps vs.pred_apps.each vs.els_most (core_at_start s) s.func_apps begins

  pub close_within : Within g c close_ends.before.1 close_ends.before.0 close_ends.turn
  close_within =
      subst (Within g c close_ends.before.1 close_ends.before.0) (sym close_ends.is)
      (round_within g v.sig c.els s.pred_apps vs.pred_apps.each close_ends.before.1 close_ends.before.0 close_begins)

  last : Turn
  last = close_ends.turn

  last_advances : Advances c (core_at_start s) last.core
  unfolding last close_ends
  last_advances =
      rounds_advance g v.sig c.els s.pred_apps vs.pred_apps.each vs.els_most (core_at_start s) s.func_apps begins

  last_after : AfterRound g c last
  unfolding last
  last_after = close_within.after

  -- the whole run: the rounds, and what the impositions leave
  ran : CloseRun
  ran = close_run g s

  ran_core : ran.rounds.core ≡ last.core
  unfolding ran last close_run imposed_after
  ran_core = close_ends.core

  ran_apps : ran.rounds.apps ≡ last.apps
  unfolding ran last close_run imposed_after
  ran_apps = close_ends.apps

  to_end : Imposed c ran.rounds.core ran.core
  unfolding ran close_run imposed_after
  to_end =
      impose_all_advances c s.impositions ran.rounds.core vs.impositions.each (subst (ValidCore c) (sym ran_core) last_after.begins.valid)

  -- a number that the rounds met is met to the end
  pub rounds_met : (close_run g s).core.met ≡ none → (close_run g s).rounds.core.met ≡ none
  unfolding ran
  rounds_met q = to_end.advances.met q

  -- no number met in the rounds: the last one did not work, so that no pair waits
  pub close_idle : (close_run g s).rounds.core.met ≡ none → close_ends.turn.worked ≡ false
  unfolding ran last
  close_idle q = idle_if last.worked last.core.met (sym (ap (λ (w : Core). w.met) ran_core) ∙ q) close_ends.ends

  rounds_empty : ran.rounds.core.met ≡ none → ran.rounds.core.pairs ≡ []
  unfolding ran last
  rounds_empty q = ap (λ (w : Core). w.pairs) ran_core ∙ last_after.idle (close_idle q)

  end_empty : ran.core.met ≡ none → ran.core.pairs ≡ []
  end_empty q =
      let p = rounds_empty (to_end.advances.met q) in
      elim to_end.place [ inl z ↦ z.1 ∙ p | inr z ↦ z.0 ]

  end_most : length ran.core.pairs ≤ max_pairs
  end_most =
      let few = ap (λ (w : Core). length w.pairs) ran_core in
      elim to_end.place [
        | inl z ↦ omega (arith, ap length z.1, few, last_after.begins.most)
        | inr z ↦ omega (arith, ap length z.0)
      ]

  after_valid : ValidStructure c (after_close ran s)
  unfolding after_close canonicalise_refs with_core
  after_valid =
      let w = to_end.advances.valid in
      let ls = ran.core.links in
      record {
        els = w.els;
        els_most = vs.els_most;
        links = w.links;
        marks = w.marks;
        facts = facts_table c ls _ ran.core.facts w.facts;
        facts_rooted = facts_rooted c ls ran.core.facts w.facts.each;
        func_apps = subst (Table (FuncAppValid c) compare_func_app max_func_apps) (sym ran_apps) last_after.begins.apps;
        pred_apps = preds_table c ls _ s.pred_apps vs.pred_apps;
        vars = vars_table c ls _ s.vars vs.vars;
        ambients = vs.ambients;
        pairs = record { each = w.pairs; most = end_most };
        impositions = impositions_queue c ls _ s.impositions vs.impositions;
      }

  -- what a close leaves where it is accepted
  pub after_close_lem : Valid g (after_close (close_run g s) s)
  unfolding ran
  after_close_lem = record {
    sig = v.sig;
    structure = counted g c.els (after_close ran s) after_valid;
    unreserved = (unfold after_close canonicalise_refs with_core in subst (All (Unreserved g)) (sym ran_apps) last_after.begins.unreserved);
    well_applied = (unfold after_close canonicalise_refs with_core in subst (All (WellApplied g)) (sym ran_apps) last_after.begins.well_applied);
    of_models = (unfold after_close canonicalise_refs with_core in v.of_models);
    unstarted = λ q. close_nothing g s (v.unstarted (unfold after_close canonicalise_refs with_core in q));
  }

  accepts : ran.core.met ≡ none → close g s ≡ accepting (report_of ran) (after_close ran s)
  unfolding close close_by outcome ran
  accepts q = decided_accepts (refusing s) (accepting (report_of ran) (after_close ran s)) (close_first ran ∙ q)

  refuses : (n : ℕ) → ran.core.met ≡ some n → close g s ≡ refusing s n
  unfolding close close_by outcome ran
  refuses n q = decided_refuses (refusing s) (accepting (report_of ran) (after_close ran s)) (close_first ran ∙ q)

  -- each merge makes one root fewer, with a number met or not
  pub close_roots : roots (after_close (close_run g s) s).links + (report_of (close_run g s)).merges ≡ roots s.links
  unfolding ran after_close canonicalise_refs with_core report_of core_at_start
  close_roots =
      let rounds-roots = ap (λ (w : Core). roots w.links + w.merges) ran_core ∙ last_advances.sum in
      omega (arith, to_end.advances.sum, rounds-roots)

  -- one of the numbers that refuse a close, "structure before the close"
  pub record Refused : Type 0 where
    pub number : ℕ
    pub listed : Memᴰ number close_numbers
    pub answer : (close g s).answer ≡ refused number
    pub after : (close g s).after ≡ s

  pub record Accepted : Type 0 where
    pub closed : Closed
    pub answer : (close g s).answer ≡ accepted closed
    -- no pair waits afterwards
    pub drained : (close g s).after.pairs ≡ []

  -- a close is refused with one of those numbers or not at all
  pub close_answers : Refused ⊎ Accepted
  close_answers = go ran.core.met refl to_end.advances.valid.met
    where
      pairs : (after_close ran s).pairs ≡ ran.core.pairs
      pairs = (unfold after_close canonicalise_refs with_core in refl)

      go : (o : Option ℕ) → ran.core.met ≡ o → MayMeet o → Refused ⊎ Accepted
      go none q m = inr (record {
        closed = report_of ran;
        answer = ap (λ (o : Outcome Closed Structure). o.answer) (accepts q);
        drained = ap (λ (o : Outcome Closed Structure). o.after.pairs) (accepts q) ∙ pairs ∙ end_empty q;
      })
      go (some n) q m = inl (record {
        number = n;
        listed = m;
        answer = ap (λ (o : Outcome Closed Structure). o.answer) (refuses n q);
        after = ap (λ (o : Outcome Closed Structure). o.after) (refuses n q);
      })

  -- what holds before the close, and where it is accepted, holds after it
  by_close : (P : Structure → Type 0) → P s → P (after_close (close_run g s) s) → P (close g s).after
  unfolding close close_by outcome
  by_close P before after =
      decided_by (λ (o : Outcome Closed Structure). P o.after) (close_causes (close_run g s)) (refusing s)
      (accepting (report_of (close_run g s)) (after_close (close_run g s) s)) (λ n m. before) (λ none-applies. after)

  -- a close adds no element

  pub after_els : length (after_close (close_run g s) s).links ≡ c.els
  unfolding ran
  after_els = after_valid.els

  pub close_els : length (close g s).after.links ≡ c.els
  close_els = by_close (λ x. length x.links ≡ c.els) refl after_els

  pub close_valid : Valid g (close g s).after
  close_valid = by_close (Valid g) v after_close_lem

  -- at every moment of the close at most `max_pairs` pairs wait: in each round, and, where the rounds met no number, while the impositions are imposed,
  -- also those of a close that 11 refuses then
  pub close_fits : ((k : ℕ) → RoundFits g s vs.func_apps.most vs.pairs.most k)
      × ((close_run g s).rounds.core.met ≡ none → Imposes (close_run g s).rounds.core)
  unfolding ran
  close_fits = (
    rounds_fit g s vs.func_apps.most vs.pairs.most,
    λ q. imposes ran.rounds.core (omega (arith, ap length (rounds_empty q))),
  )

-- The call: refused with one of those numbers, and everything as it was, or accepted.
pub close_step_answers : (m : Machine) → Valid m.sig m.structure
    → ((n : ℕ) × Memᴰ n close_numbers × (step calls.close m ≡ refusal m n)) ⊎ ((c : Closed) × ((step calls.close m).answer ≡ closed c))
unfolding closed_answer
close_step_answers m v =
    let o = close m.sig m.structure in
    elim (close_answers m.sig m.structure v) [
      | inl r ↦ inl (r.number, r.listed, sym (close_steps m) ∙ ap (closed_answer m o.after) r.answer)
      | inr a ↦ inr (a.closed, sym (ap (λ (s : Step). s.answer) (close_steps m)) ∙ ap (λ (x : Answered Closed). (closed_answer m o.after x).answer) a.answer)
    ]
