-- The facts held at the return of an accepted close, by the facts before it and the count F of its answer (02, M-106): of every structure they are at
-- most the facts before and F (`facts_most`), and of a valid one exactly these where nothing merged and no stored fact was stale (`facts_exactly`). No
-- call leaves a stale fact (`none_stale`); a file may hold one (02, M-104).
use mathlib.Core.Path.{◌≡◌, refl, sym, ap, subst, ◌∙◌}
use mathlib.Core.Logic.{inl, inr}
use mathlib.Core.Bool.{Bool, true, false, not, ◌&&◌, ◌||◌}
use mathlib.Core.List.{List, [], ◌∷◌, ◌++◌}
use mathlib.Core.Option.{Option, none, some}
use Prim.Native.Nat.{ℕ, zero, suc, ◌+◌, ◌≤◌, ◌<◌, min, max}
use native.Mathlib.Omega.{arith}
use lib.ListN.{length}
use lib.Dec.{eqb, ltb}
use borrow.Author.Tests.{leb-false}
use Rattle.ids.specs.Answers.{too_many_facts, no_room}
use Rattle.ids.specs.Table.{present, placed, lookup_of, rewrite_into}
use Rattle.ids.proofs.Judging.{NoneApplies}
use Rattle.ids.proofs.Sorted.{All, all_of, all_map, no_test, Sorted, placed_all, placed_sorted, placed_absent, map_same, rewrite_all, rewrite_same, rewrite_length}
use Rattle.unification.specs.Roots.{max_els, root_of, short_of, Formed}
use Rattle.unification.proofs.Numbers.{less_or}
use Rattle.unification.proofs.Laws.{short_stop}
use Rattle.unification.proofs.Arrays.{link_past}
use Rattle.unification.proofs.Theorems.{short_formed, short_root, merged_formed}
use Rattle.signature.specs.Model.{Sig}
use Rattle.semantics.specs.Structure.{Fact, fact, FuncApp, PredApp, Pair, pair, Structure, empty, compare_fact, compare_func_app, canonical_fact, canonical_func_app, max_facts}
use Rattle.semantics.specs.Types.{Core, with_links, with_pairs, with_added, with_met, marked, merge, join_roots, join, drain_pairs, drain}
use Rattle.semantics.specs.Types.{concrete_types_of, refine_roots, refine, refine_parents, refine_all, insert_fact, insert_canonical, impose, impose_all}
use Rattle.semantics.specs.Applying.{equate, Applied, applied, applied_equal, apply_at, insert_func_app_or_equate}
use Rattle.semantics.specs.MapLaws.{map_laws}
use Rattle.semantics.specs.Close.{Closed, Rounds, Turn, turn, demands, drained, drain_pass, rewrote, functionality_pass, typed, typing_pass, apply_turn, operation_pass}
use Rattle.semantics.specs.Close.{Pass, passes, round, goes_on, last_round, one_more, rounds_from, fuel, rounds, core_at_start, canonicalise_refs, with_core}
use Rattle.semantics.specs.Close.{imposed_after, close_run, report, report_of, after_close}
use Rattle.semantics.specs.Calls.{el_causes, with_el, with_equality, with_imposition, applied_to, with_applied, with_pred_app, with_var, with_ambient}
use Rattle.semantics.specs.Calls.{Call, push_type, push_pred, push_func, push_model, push_mor_app, push_el, equate_els, impose_type, apply_func, apply_pred}
use Rattle.semantics.specs.Calls.{bind_var, bind_ambient, close, type_conflicts, settle, root, root_const, lookup_type, ambient_parents}
use Rattle.semantics.specs.Calls.{closed, Machine, start, leaves, equality_rule, imposition_rule, application_rule, close_rule, settle_rule, rule, acceptance}
use Rattle.semantics.specs.Calls.{step, after_calls}
use Rattle.semantics.specs.Valid.{counts_of, FactValid}
use Rattle.semantics.proofs.Canonical.{CanonFact, canon_fact, fact_alike}
use Rattle.semantics.proofs.Orders.{fact_ordered}
use Rattle.semantics.proofs.Computes.{everything}
use Rattle.semantics.proofs.ProvedCases.{imposed4, reported, merged103, set_facts}
use Rattle.semantics.proofs.Links.{added_is, root_push}
use Rattle.semantics.proofs.Judged.{step_by_lem}
use Rattle.semantics.proofs.Settling.{run_keeps}
use Rattle.semantics.proofs.Stages.{Stage, Along, run_along}
use Rattle.semantics.proofs.Operations.{apply_cases, obey_all_keeps}
use Rattle.validity.proofs.Drain.{moved_few}
use Rattle.validity.proofs.Replacing.{facts_valid}
use Rattle.validity.proofs.Calls.{ValidMachine, start_valid, step_valid, calls_valid}
use Rattle.validity.proofs.Settling.{close_reports, close_leaves}

-- What each change that a close makes to its core keeps, the close keeps: of every signature and structure, valid or not.

pub record Kept (P : Core → Type 0) : Type 0 where
  -- other pairs
  pub pairs : (ps : List Pair) (w : Core) → P w → P (with_pairs ps w)
  pub merges : (a b : ℕ) (w : Core) → P w → P (merge a b w)
  -- a fact that is absent, as roots
  pub inserts : (f : Fact) (w : Core) → present compare_fact (canonical_fact w.links f) w.facts ≡ false → P w
      → P (with_added (placed compare_fact (canonical_fact w.links f) w.facts) w)
  -- a number met
  pub meets : (n : ℕ) (w : Core) → P w → P (with_met n w)
  -- a path shortened
  pub shortens : (e : ℕ) (w : Core) → P w → P (with_links (short_of w.links e) w)

module _ (P : Core → Type 0) (k : Kept P) where
  -- Pairs drained.

  join_keeps : (p : Pair) (w : Core) → P w → P (join p w)
  unfolding join join_roots
  join_keeps p w h = go (eqb (root_of w.links p.lhs) (root_of w.links p.rhs)) _ _
    where
      go : (t : Bool) (a b : ℕ) → P (elim t [ true ↦ w | false ↦ merge (min a b) (max a b) w ])
      go true a b = h
      go false a b = k.merges (min a b) (max a b) w h

  drain_pairs_keeps : (ps : List Pair) (w : Core) → P w → P (drain_pairs ps w)
  unfolding drain_pairs
  drain_pairs_keeps [] w h = h
  drain_pairs_keeps (p ∷ ps) w h = drain_pairs_keeps ps (join p w) (join_keeps p w h)

  drain_keeps : (w : Core) → P w → P (drain w)
  unfolding drain
  drain_keeps w h = drain_pairs_keeps w.pairs (with_pairs [] w) (k.pairs [] w h)

  -- Facts imposed.

  refine_keeps : (a b : ℕ) (w : Core) → P w → P (refine a b w)
  unfolding refine refine_roots
  refine_keeps a b w h = go (root_of w.links a) (root_of w.links b)
    where
      go : (a b : ℕ) → P (refine_roots a b w)
      go a b = by (not (eqb a b) && (marked w.marks a || marked w.marks b))
        where
          by : (t : Bool) → P (elim t [ true ↦ drain (with_pairs (pair a b ∷ w.pairs) w) | false ↦ w ])
          by true = drain_keeps (with_pairs (pair a b ∷ w.pairs) w) (k.pairs (pair a b ∷ w.pairs) w h)
          by false = h

  refine_parents_keeps : (ps qs : List ℕ) (w : Core) → P w → P (refine_parents ps qs w)
  unfolding refine_parents
  refine_parents_keeps [] qs w h = h
  refine_parents_keeps (p ∷ ps) [] w h = h
  refine_parents_keeps (p ∷ ps) (q ∷ qs) w h = refine_parents_keeps ps qs (refine p q w) (refine_keeps p q w h)

  refine_all_keeps : (gs : List Fact) (f : Fact) (w : Core) → P w → P (refine_all gs f w)
  unfolding refine_all
  refine_all_keeps [] f w h = h
  refine_all_keeps (g ∷ gs) f w h = refine_all_keeps gs f _ (go (eqb g.typ f.typ))
    where
      go : (t : Bool) → P (elim t [ true ↦ refine_parents g.parents f.parents w | false ↦ w ])
      go true = refine_parents_keeps g.parents f.parents w h
      go false = h

  insert_keeps : (f : Fact) (w : Core) → P w → P (insert_canonical f w)
  unfolding insert_canonical insert_fact
  insert_keeps f w h = go (present compare_fact x w.facts) (ltb (length w.facts) max_facts) refl
    where
      x : Fact
      x = canonical_fact w.links f

      go : (t u : Bool) → present compare_fact x w.facts ≡ t
          → P (elim t [ true ↦ w | false ↦ elim u [ true ↦ with_added (placed compare_fact x w.facts) w | false ↦ with_met too_many_facts w ] ])
      go true u e = h
      go false true e = k.inserts f w e h
      go false false e = k.meets too_many_facts w h

  impose_all_keeps : (fs : List Fact) (w : Core) → P w → P (impose_all fs w)
  unfolding impose_all impose
  impose_all_keeps [] w h = h
  impose_all_keeps (f ∷ fs) w h =
      let gs = concrete_types_of w.links w.facts f.el in
      impose_all_keeps fs (impose f w) (insert_keeps f (refine_all gs f w) (refine_all_keeps gs f w h))

  -- The passes.

  abbrev OfCore : Stage
  OfCore t = P t.core

  record PassLaw (p : Pass) (A B : Stage) : Type 1 where
    leads : (g : Sig) (preds : List PredApp) (t : Turn) → A t → B (p g preds t)

  drain_kept : PassLaw drain_pass OfCore OfCore
  unfolding drain_pass drained
  drain_kept = record { leads = λ g preds t h. drain_keeps t.core h }

  functionality_kept : PassLaw functionality_pass OfCore OfCore
  unfolding functionality_pass rewrote
  functionality_kept = record { leads = λ g preds t h. k.pairs _ t.core h }

  typing_kept : PassLaw typing_pass OfCore OfCore
  unfolding typing_pass typed
  typing_kept = record { leads = λ g preds t h. impose_all_keeps (demands g t.apps preds) t.core h }

  apply_keeps : (x : FuncApp) (t : Turn) → OfCore t → OfCore (apply_turn x t)
  unfolding equate
  apply_keeps x t h =
      apply_cases OfCore x t (λ e room. h) (λ y e same. h)
      (λ y e other room. k.shortens _ _ (k.shortens y.result _ (k.pairs _ t.core h))) (k.meets no_room t.core h)

  operation_kept : PassLaw operation_pass OfCore OfCore
  unfolding operation_pass
  operation_kept = record { leads = λ g preds t h. obey_all_keeps OfCore apply_keeps (map_laws g.models t.apps) t h }

  all_kept : Along PassLaw passes OfCore OfCore
  unfolding passes
  all_kept = (OfCore, drain_kept, (OfCore, functionality_kept, (OfCore, typing_kept, (OfCore, operation_kept, refl))))

  round_keeps : (g : Sig) (preds : List PredApp) (apps : List FuncApp) (w : Core) → P w → P (round g preds apps w).core
  unfolding round
  round_keeps g preds apps w h = run_along PassLaw g preds (λ p A B l. l.leads g preds) passes OfCore OfCore all_kept (turn w apps false) h

  -- The close.

  rounds_keep : (n : ℕ) (g : Sig) (preds : List PredApp) (t : Turn) → P t.core → P (rounds_from n g preds t).core
  unfolding rounds_from last_round one_more
  rounds_keep zero g preds t h = h
  rounds_keep (suc n) g preds t h = go (goes_on t) (rounds_keep n g preds next (round_keeps g preds t.apps t.core h))
    where
      next : Turn
      next = round g preds t.apps t.core

      go : (b : Bool) → P (rounds_from n g preds next).core
          → P (elim b as (λ _. Rounds) [ true ↦ one_more (rounds_from n g preds next) | false ↦ last_round t ]).core
      go true r = r
      go false r = h

  pub close_run_keeps : (g : Sig) (s : Structure) → P (core_at_start s) → P (close_run g s).core
  unfolding close_run imposed_after rounds
  close_run_keeps g s h =
      impose_all_keeps s.impositions _
      (rounds_keep fuel g s.pred_apps _ (round_keeps g s.pred_apps s.func_apps (core_at_start s) h))

-- What an accepted close leaves and answers, by its run.

-- the last rewriting
abbrev closed_facts : Core → List Fact
closed_facts w = rewrite_into compare_fact (canonical_fact w.links) w.facts []

module _ (m : Machine) (c : Closed) (q : (step close m).answer ≡ closed c) where
  after_facts : (step close m).after.structure.facts ≡ closed_facts (close_run m.sig m.structure).core
  unfolding leaves after_close canonicalise_refs with_core
  after_facts = ap (λ (s : Structure). s.facts) (close_leaves m c q)

  answer_merges : c.merges ≡ (close_run m.sig m.structure).core.merges
  unfolding report_of
  answer_merges = ap (λ (x : Closed). x.merges) (close_reports m c q)

  answer_added : c.added ≡ (close_run m.sig m.structure).core.added
  unfolding report_of
  answer_added = ap (λ (x : Closed). x.added) (close_reports m c q)

-- Each insertion makes one fact more and is counted; nothing else makes one: a merge and the last rewriting may make one fact of two.

-- at most n facts and the ones added
abbrev AtMost : ℕ → Core → Type 0
AtMost n w = length w.facts ≤ n + w.added

most_kept : (n : ℕ) → Kept (AtMost n)
unfolding merge
most_kept n = record {
  pairs = λ ps w h. h;
  merges = λ a b w h. omega (arith, h, moved_few a b w.facts);
  inserts = λ f w e h. omega (arith, h, placed_absent compare_fact (canonical_fact w.links f) w.facts e);
  meets = λ n w h. h;
  shortens = λ e w h. h;
}

-- at the return of an accepted close the facts held are at most the facts before and F
pub facts_most : (m : Machine) (c : Closed) → (step close m).answer ≡ closed c
    → length (step close m).after.structure.facts ≤ length m.structure.facts + c.added
unfolding core_at_start
facts_most m c q =
    let s = m.structure in
    let w = (close_run m.sig s).core in
    let kept = close_run_keeps (AtMost (length s.facts)) (most_kept (length s.facts)) m.sig s (omega arith) in
    omega (arith, kept, answer_added m c q, ap length (after_facts m c q), rewrite_length compare_fact (canonical_fact w.links) w.facts [])

-- Facts that are not stale stay so where the roots stay.

-- a find changes no root, not even one of a number that is no element
short_alike : (ls : List ℕ) (e : ℕ) → Formed ls → (x : ℕ) → root_of (short_of ls e) x ≡ root_of ls x
short_alike ls e f x = elim (less_or e (length ls)) [
  | inl h ↦ short_root ls e h f x
  | inr h ↦ ap (λ (ks : List ℕ). root_of ks x) (short_stop ls e (omega (arith, link_past ls e h)))
]

canon_alike : (ls ks : List ℕ) → ((e : ℕ) → root_of ks e ≡ root_of ls e) → (fs : List Fact) → All (CanonFact ls) fs → All (CanonFact ks) fs
canon_alike ls ks roots fs h = all_map (λ f k. fact_alike ls ks roots f ∙ k) fs h

short_canon : (ls : List ℕ) (e : ℕ) → Formed ls → (fs : List Fact) → All (CanonFact ls) fs → All (CanonFact (short_of ls e)) fs
short_canon ls e f = canon_alike ls (short_of ls e) (short_alike ls e f)

-- no stored fact is stale
abbrev pub NoneStale : Machine → Type 0
NoneStale m = All (CanonFact m.structure.links) m.structure.facts

-- Where nothing merges and no fact is stale.

-- these facts are n and the ones added, and the last rewriting leaves them as they are
record Exactly (n : ℕ) (ls : List ℕ) (fs : List Fact) (added : ℕ) : Type 0 where
  canon : All (CanonFact ls) fs
  sorted : Sorted compare_fact fs
  count : length fs ≡ n + added

abbrev ExactlyUnmerged : ℕ → Core → Type 0
ExactlyUnmerged n w = Formed w.links × (w.merges ≡ 0 → Exactly n w.links w.facts w.added)

exactly_kept : (n : ℕ) → Kept (ExactlyUnmerged n)
unfolding merge
exactly_kept n = record {
  pairs = λ ps w h. h;
  merges = λ a b w h. (merged_formed w.links a b h.0, λ q. absurd (omega (arith, q)));
  inserts = λ f w e h. (
    h.0,
    λ q.
        let x = canonical_fact w.links f in
        let was = h.1 q in
        record {
          canon = placed_all compare_fact x (CanonFact w.links) w.facts (canon_fact w.links f) was.canon;
          sorted = placed_sorted fact_ordered x w.facts was.sorted;
          count = omega (arith, was.count, placed_absent compare_fact x w.facts e);
        },
  );
  meets = λ n w h. h;
  shortens = λ e w h. (
    short_formed w.links e h.0,
    λ q.
        let was = h.1 q in
        record {
          canon = short_canon w.links e h.0 w.facts was.canon;
          sorted = was.sorted;
          count = was.count;
        },
  );
}

-- of a valid machine none of whose facts is stale: where nothing merged, the facts held are the facts before and F
pub facts_exactly : (m : Machine) → ValidMachine m → (c : Closed) → (step close m).answer ≡ closed c → c.merges ≡ 0 → NoneStale m
    → length (step close m).after.structure.facts ≡ length m.structure.facts + c.added
unfolding core_at_start
facts_exactly m v c q unmerged canon =
    let s = m.structure in
    let w = (close_run m.sig s).core in
    let n = length s.facts in
    let begun : ExactlyUnmerged n (core_at_start s) =
    (v.structure.links, λ _. record { canon = canon; sorted = v.structure.facts.sorted; count = omega arith }) in
    let ran = (close_run_keeps (ExactlyUnmerged n) (exactly_kept n) m.sig s begun).1 (sym (answer_merges m c q) ∙ unmerged) in
    let same = rewrite_same compare_fact (canonical_fact w.links) w.facts [] (map_same (canonical_fact w.links) w.facts ran.canon) ran.sorted in
    omega (arith, ap length (after_facts m c q ∙ same), ran.count, answer_added m c q)

-- No call leaves a stale fact.

-- a close leaves none, whatever it began with
closed_none_stale : (m : Machine) → NoneStale (acceptance (rule close m)).after
unfolding rule close_rule acceptance leaves after_close canonicalise_refs with_core
closed_none_stale m =
    let w = (close_run m.sig m.structure).core in
    rewrite_all compare_fact (canonical_fact w.links) (CanonFact w.links) w.facts [] (all_of (canon_fact w.links) w.facts) tt

close_none_stale : (m : Machine) → NoneStale m → NoneStale (step close m).after
close_none_stale m h = step_by_lem close m (λ s. NoneStale s.after) (λ n q. h) (λ none-applies. closed_none_stale m)

module _ (s : Structure) (f : Formed s.links) (h : All (CanonFact s.links) s.facts) where
  equated_none_stale : (a b : ℕ) → All (CanonFact (equate s.links s.pairs a b).links) s.facts
  unfolding equate
  equated_none_stale a b = short_canon (short_of s.links a) b (short_formed s.links a f) s.facts (short_canon s.links a f s.facts h)

  applied_none_stale : (x : FuncApp) → All (CanonFact (applied_to s x).links) s.facts
  unfolding insert_func_app_or_equate
  applied_none_stale x = go (lookup_of compare_func_app (canonical_func_app s.links x) s.func_apps) (canonical_func_app s.links x)
    where
      go : (o : Option FuncApp) (y : FuncApp) → All (CanonFact (apply_at o y s.links s.pairs s.func_apps).links) s.facts
      go none y = (unfold apply_at in h)
      go (some z) y = (unfold apply_at applied_equal in by (eqb z.result y.result))
        where
          by : (b : Bool) → All (CanonFact (elim b as (λ _. Applied) [
            | true ↦ applied s.links s.pairs s.func_apps false false
            | false ↦ applied_equal (equate s.links s.pairs z.result y.result) s.pairs s.func_apps
          ]).links) s.facts
          by true = h
          by false = (unfold applied_equal in equated_none_stale z.result y.result)

  imposed_none_stale : (queued : Bool) (x : Fact) → All (CanonFact (with_imposition queued x s).links) (with_imposition queued x s).facts
  unfolding with_imposition
  imposed_none_stale true x = h
  imposed_none_stale false x = h

  el_none_stale : (mark : Bool) → NoneApplies (el_causes s) → All (CanonFact (with_el mark s).links) s.facts
  unfolding el_causes with_el
  el_none_stale mark clear =
      rw (added_is s.links (leb-false max_els (length s.links) clear.0))
      (canon_alike s.links (s.links ++ (length s.links ∷ [])) (root_push s.links) s.facts h)

effect_none_stale : (k : Call) (m : Machine) → ValidMachine m → NoneApplies (rule k m).causes → NoneStale m → NoneStale (acceptance (rule k m)).after
unfolding rule equality_rule imposition_rule application_rule settle_rule acceptance leaves
effect_none_stale (push_type t) m v clear h = h
effect_none_stale (push_pred p) m v clear h = h
effect_none_stale (push_func f) m v clear h = h
effect_none_stale (push_model x) m v clear h = h
effect_none_stale (push_mor_app x) m v clear h = h
effect_none_stale (push_el mark) m v clear h = (unfold with_el in el_none_stale m.structure v.structure.links h mark clear)
effect_none_stale (equate_els a b) m v clear h = (unfold with_equality in equated_none_stale m.structure v.structure.links h a b)
effect_none_stale (impose_type f) m v clear h = imposed_none_stale m.structure v.structure.links h _ _
effect_none_stale (apply_func x) m v clear h = (unfold with_applied in applied_none_stale m.structure v.structure.links h x)
effect_none_stale (apply_pred x) m v clear h = (unfold with_pred_app in h)
effect_none_stale (bind_var x) m v clear h = (unfold with_var in h)
effect_none_stale (bind_ambient a) m v clear h = (unfold with_ambient in h)
effect_none_stale close m v clear h = closed_none_stale m
effect_none_stale type_conflicts m v clear h = h
effect_none_stale settle m v clear h = run_keeps m NoneStale (λ z c q. close_none_stale z) h
effect_none_stale (root e) m v clear h = short_canon m.structure.links e v.structure.links m.structure.facts h
effect_none_stale (root_const e) m v clear h = h
effect_none_stale (lookup_type t ps) m v clear h = h
effect_none_stale (ambient_parents ts) m v clear h = h

calls_none_stale : (ks : List Call) (m : Machine) → ValidMachine m → NoneStale m → NoneStale (after_calls ks m)
unfolding after_calls
calls_none_stale [] m v h = h
calls_none_stale (k ∷ ks) m v h =
    calls_none_stale ks (step k m).after (step_valid k m v)
    (step_by_lem k m (λ s. NoneStale s.after) (λ n q. h) (λ none-applies. effect_none_stale k m v none-applies h))

pub none_stale : (ks : List Call) → NoneStale (after_calls ks start)
none_stale ks = calls_none_stale ks start start_valid (unfold start empty in tt)

-- so that after any calls, where nothing merged, the facts held are the facts before and F
pub calls_facts_exactly : (ks : List Call) (c : Closed) → (step close (after_calls ks start)).answer ≡ closed c → c.merges ≡ 0
    → length (step close (after_calls ks start)).after.structure.facts ≡ length (after_calls ks start).structure.facts + c.added
calls_facts_exactly ks c q unmerged = facts_exactly (after_calls ks start) (calls_valid ks) c q unmerged (none_stale ks)

-- Worked examples.

-- the close of m answers c, and there are so many facts before and after it
abbrev Closing : Machine → Closed → ℕ → ℕ → Type 0
Closing m c before after =
    ((step close m).answer ≡ closed c) × (length m.structure.facts ≡ before) × (length (step close m).after.structure.facts ≡ after)

-- P4's first close merges nothing: no fact before, F is 1, one fact after
pub equal_first : Closing (after_calls imposed4 start) (report true 0 1 1) 0 1
unfolding everything
equal_first = (refl, refl, refl)

-- its second merges: one fact before, F is 1, and one fact after, fewer than before and F
pub fewer_second : Closing (after_calls (imposed4 ++ (close ∷ equate_els 0 1 ∷ [])) start) (report true 1 2 1) 1 1
unfolding everything
fewer_second = (refl, refl, refl)

-- Two facts that are one as roots, the second stale, in a valid machine.

abbrev stale : Machine
stale = set_facts (fact 2 2 (0 ∷ []) ∷ fact 2 2 (1 ∷ []) ∷ []) merged103

merged_valid : ValidMachine merged103
merged_valid = calls_valid (reported [] ++ (equate_els 0 1 ∷ close ∷ []))

stale_valid : ValidMachine stale
unfolding everything
stale_valid =
    let c = counts_of stale.sig stale.structure in
    let entry : (e : ℕ) → e < 3 → FactValid c (fact 2 2 (e ∷ [])) =
    λ e h. record { el = omega arith; typ = omega arith; parents = record { short = omega arith; below = (h, tt) }; parent_count = refl } in
    record {
      sig = merged_valid.sig;
      structure = facts_valid c merged103.structure merged_valid.structure stale.structure.facts
          (record { each = (entry 0 (omega arith), (entry 1 (omega arith), tt)); sorted = ((refl, tt), (tt, tt)); most = omega arith }) (refl, (refl, tt));
      unreserved = merged_valid.unreserved;
      well_applied = merged_valid.well_applied;
      of_models = merged_valid.of_models;
      unstarted = λ q. no_test refl q;
    }

-- its close merges nothing: two facts before, F is 0, and one fact after
pub fewer_stale : Closing stale (report false 0 1 0) 2 1
unfolding everything
fewer_stale = (refl, refl, refl)

-- so that equality does not hold of every valid machine ..
pub stale_fails : ((m : Machine) → ValidMachine m → (c : Closed) → (step close m).answer ≡ closed c → c.merges ≡ 0
    → length (step close m).after.structure.facts ≡ length m.structure.facts + c.added) → ⊥
stale_fails exactly = omega (arith, exactly stale stale_valid (report false 0 1 0) fewer_stale.0 refl, fewer_stale.1, fewer_stale.2)

-- .. and no calls make this one
pub stale_unmade : (ks : List Call) → after_calls ks start ≡ stale → ⊥
stale_unmade ks e =
    let exactly = facts_exactly stale stale_valid (report false 0 1 0) fewer_stale.0 refl (subst NoneStale e (none_stale ks)) in
    omega (arith, exactly, fewer_stale.1, fewer_stale.2)
