-- A close reports no change exactly when it did nothing (02, M-106): it made no merge, no law of maps inserted an application, and it added no fact. That it
-- did nothing where it reports no change holds of every machine; the converse of every valid one, marks or not.
use mathlib.Core.Path.{◌≡◌, refl, sym, ap, ◌∙◌}
use mathlib.Core.Logic.{inl, inr}
use mathlib.Core.Bool.{true, false, ◌||◌}
use mathlib.Core.List.{List, [], ◌∷◌, ◌++◌}
use Prim.Native.Nat.{ℕ, zero, suc, ◌+◌, ◌-◌, ◌≤◌, ◌<◌}
use native.Mathlib.Omega.{arith}
use lib.ListN.{length}
use lib.Dec.{ltb}
use borrow.Author.Tests.{le-ltb}
use Rattle.ids.proofs.Sorted.{no_test, placed_absent, lookup_none}
use Rattle.signature.specs.Model.{Sig}
use Rattle.semantics.specs.Structure.{FuncApp, PredApp, Structure, compare_func_app}
use Rattle.semantics.specs.Types.{Core, drain, grew, with_pairs}
use Rattle.semantics.specs.MapLaws.{map_laws}
use Rattle.semantics.specs.Close.{Rewritten, rewriting, enter_all, demands, Turn, drained, drain_pass, rewrote, functionality_pass, typed, typing_pass, apply_turn}
use Rattle.semantics.specs.Close.{operation_pass, passes, run_passes, round, is_none, goes_on, Rounds, last_round, one_more, rounds_from, rounds, fuel, up_to_laws, inserted_in, inserted_from}
use Rattle.semantics.specs.Close.{inserted, inserted_apps, Closed, report, core_at_start, imposed_after, close_run, report_of}
use Rattle.semantics.specs.Valid.{Counts, counts_of, Valid}
use Rattle.semantics.specs.Calls.{Call, Machine, close, closed, start, step, after_calls}
use Rattle.semantics.proofs.Cases.{test, and_first, or_first, or_second}
use Rattle.semantics.proofs.Computes.{everything}
use Rattle.semantics.proofs.Operations.{rooted_in, apply_cases, obey_all_keeps}
use Rattle.semantics.proofs.ProvedCases.{plain_el, marked_el, app, impose, dom, identity, signature102, boxed102, down_from}
use Rattle.semantics.proofs.Queues.{drain_pairs_lem, apps_few}
use Rattle.validity.proofs.Drain.{advances_none, some_apart, drain_place}
use Rattle.validity.proofs.Turns.{keys, AfterRound, Within, round_within}
use Rattle.validity.proofs.Fuel.{rounds_stop, rounds_on, rounds_last, last_after}
use Rattle.validity.proofs.Closing.{begins}
use Rattle.history.proofs.Imposing.{impose_all_counts, impose_all_adds}
use Rattle.history.proofs.Closing.{closed_step}
use Rattle.history.specs.Book.{history}
use Rattle.history.proofs.Histories.{history_valid}
use Rattle.history.proofs.SecondClose.{first_unworked, unchanged_report}

-- a close of s that answered c did nothing
pub record DidNothing (g : Sig) (s : Structure) (c : Closed) : Type 0 where
  pub merges : c.merges ≡ 0
  pub inserted : inserted_apps g s ≡ 0
  pub added : c.added ≡ 0

module _ (g : Sig) (preds : List PredApp) where
  -- The laws of a round.

  round_laws : (xs : List FuncApp) (w : Core) → round g preds xs w ≡ operation_pass g preds (up_to_laws g preds xs w)
  unfolding round up_to_laws passes run_passes
  round_laws xs w = refl

  -- they never shorten the table: an application that is inserted makes it one longer, and otherwise it stays, so that no difference is cut off at 0
  pub laws_lengthen : (t : Turn) → length t.apps ≤ length (operation_pass g preds t).apps
  unfolding operation_pass
  laws_lengthen t =
      obey_all_keeps (λ u. length t.apps ≤ length u.apps)
      (λ x u h. apply_cases (λ (z : Turn). length t.apps ≤ length z.apps) x u
      (λ e room. omega (arith, h, placed_absent compare_func_app (rooted_in u x) u.apps (lookup_none compare_func_app (rooted_in u x) u.apps e)))
      (λ y e same. h) (λ y e other room. h) h) (map_laws g.models t.apps) t (omega arith)

  pub inserted_exactly : (xs : List FuncApp) (w : Core) → length (up_to_laws g preds xs w).apps + inserted_in g preds xs w ≡ length (round g preds xs w).apps
  unfolding inserted_in
  inserted_exactly xs w = omega (arith, laws_lengthen (up_to_laws g preds xs w), ap (λ (t : Turn). length t.apps) (round_laws xs w))

  -- no other pass lengthens it
  pub up_most : (xs : List FuncApp) (w : Core) → length (up_to_laws g preds xs w).apps ≤ length xs
  unfolding up_to_laws run_passes drain_pass drained functionality_pass rewrote typing_pass typed
  up_most xs w =
      let e : _ ≡ length (enter_all (drain w).links xs (rewriting [] [] false)).apps = λ i. length (enter_all (drain w).links xs (rewriting [] (drain_pairs_lem w i) false)).apps in
      omega (arith, e, apps_few (drain w).links xs)

  -- where they report nothing they insert nothing
  abbrev SoFarSame : ℕ → Turn → Type 0
  SoFarSame n u = u.worked ≡ false → length u.apps ≡ n

  apply_same : (n : ℕ) (x : FuncApp) (u : Turn) → SoFarSame n u → SoFarSame n (apply_turn x u)
  apply_same n x u h =
      apply_cases (SoFarSame n) x u (λ e room q. no_test refl (or_second u.worked true q)) (λ y e same q. h (or_first u.worked false q))
      (λ y e other room q. h (or_first u.worked _ q)) h

  unworked_same : (t : Turn) → SoFarSame (length t.apps) (operation_pass g preds t)
  unfolding operation_pass
  unworked_same t = obey_all_keeps (SoFarSame (length t.apps)) (apply_same (length t.apps)) (map_laws g.models t.apps) t (λ q. refl)

  -- they merge nothing
  laws_merge_none : (t : Turn) → (operation_pass g preds t).core.merges ≡ t.core.merges
  unfolding operation_pass
  laws_merge_none t =
      obey_all_keeps (λ u. u.core.merges ≡ t.core.merges)
      (λ x u h. apply_cases (λ (z : Turn). z.core.merges ≡ t.core.merges) x u (λ e room. h) (λ y e same. h) (λ y e other room. h) h)
      (map_laws g.models t.apps) t refl

  -- A round that reports nothing: none is inserted in it, and none follows it.

  none_in : (xs : List FuncApp) (w : Core) → (round g preds xs w).worked ≡ false → inserted_in g preds xs w ≡ 0
  unfolding inserted_in
  none_in xs w q =
      let e = round_laws xs w in
      omega (arith, ap (λ (t : Turn). length t.apps) e, unworked_same (up_to_laws g preds xs w) (ap (λ (t : Turn). t.worked) (sym e) ∙ q))

  none_from : (k : ℕ) (t : Turn) → t.worked ≡ false → inserted_from k g preds t ≡ 0
  unfolding inserted_from
  none_from zero t q = refl
  none_from (suc k) t q = rw q

  none_inserted : (xs : List FuncApp) (w : Core) → (round g preds xs w).worked ≡ false → inserted g preds xs w ≡ 0
  unfolding inserted
  none_inserted xs w q = omega (arith, none_in xs w q, none_from fuel (round g preds xs w) q)

  -- Up to the laws: a drain's merges stay counted, and where it made none each key of the rewritten table is there once.

  module _ (xs : List FuncApp) (w : Core) where
    up_merges : (drain w).merges ≤ (up_to_laws g preds xs w).core.merges
    unfolding up_to_laws run_passes drain_pass drained functionality_pass rewrote typing_pass typed
    up_merges =
        let r : Rewritten = enter_all (drain w).links xs (rewriting [] (drain w).pairs false) in
        impose_all_counts (demands g r.apps preds) (with_pairs r.pairs (drain w))

    drained_most : (drain w).merges ≤ (round g preds xs w).core.merges
    drained_most = omega (arith, up_merges, laws_merge_none (up_to_laws g preds xs w), ap (λ (t : Turn). t.core.merges) (round_laws xs w))

    up_keys : (drain w).links ≡ w.links → length (up_to_laws g preds xs w).apps ≡ keys w.links xs
    unfolding up_to_laws run_passes drain_pass drained functionality_pass rewrote typing_pass typed keys
    up_keys same = λ i. length (enter_all (same i) xs (rewriting [] (drain_pairs_lem w i) false)).apps

-- Where it reports no change it did nothing.
pub unchanged_nothing : (m : Machine) (c : Closed) → (step close m).answer ≡ closed c → c.changed ≡ false → DidNothing m.sig m.structure c
unchanged_nothing m c e q =
    let a = closed_step m c e in
    let is = unchanged_report m c e q in
    record {
      merges = ap (λ (x : Closed). x.merges) is;
      inserted =
          unfold inserted_apps in none_inserted m.sig m.structure.pred_apps m.structure.func_apps (core_at_start m.structure)
          (first_unworked m.sig m.structure a.met (sym (ap (λ (x : Closed). x.changed) a.answer) ∙ q));
      added = ap (λ (x : Closed). x.added) is;
    }

-- Where it did nothing it reports no change.

module _ (g : Sig) (s : Structure) (v : Valid g s) where
  abbrev c : Counts
  c = counts_of g s

  abbrev preds : List PredApp
  preds = s.pred_apps

  -- what the rounds begin with, and what the first one leaves

  abbrev w : Core
  w = core_at_start s

  abbrev first : Turn
  first = round g preds s.func_apps w

  within : Within g c w s.func_apps first
  within = round_within g v.sig c.els preds v.structure.pred_apps.each w s.func_apps (begins g s v)

  -- what was counted stays counted in the rounds that follow
  later : (k : ℕ) (t : Turn) → AfterRound g c t
      → (t.core.merges ≤ (rounds_from k g preds t).core.merges) × (t.core.added ≤ (rounds_from k g preds t).core.added)
  later k t h =
      let r = last_after g v.sig c.els preds v.structure.pred_apps.each t.core k t (record { after = h; advances = advances_none c t.core h.begins.valid }) in
      let e = (rounds_last g preds k t).0 in
      (omega (arith, r.advances.merges, ap (λ (u : Core). u.merges) e), omega (arith, r.advances.added, ap (λ (u : Core). u.added) e))

  -- where a pair of two roots waits after the first round, the second one merges it
  waited : goes_on first ≡ true → some_apart first.core.links first.core.pairs ≡ true → first.core.merges < (rounds g preds s.func_apps w).core.merges
  unfolding rounds one_more
  waited e z =
      let second = round_within g v.sig c.els preds v.structure.pred_apps.each first.core first.apps within.after.begins in
      let more = (later (fuel - 1) (round g preds first.apps first.core) second.after).0 in
      let some : suc (fuel - 1) ≡ fuel = (unfold fuel in refl) in
      let on = ap (λ (n : ℕ). rounds_from n g preds first) (sym some) ∙ rounds_on g preds (fuel - 1) first e in
      omega (arith, second.drains z, more, ap (λ r. r.core.merges) on)

  -- a first round that reports work and is followed by another: a merge, an application that a law inserted, or a fact
  goes_on_did : goes_on first ≡ true → (close_run g s).core.merges ≡ 0 → inserted_apps g s ≡ 0 → (close_run g s).core.added ≡ 0 → ⊥
  unfolding close_run imposed_after inserted_apps inserted inserted_in rounds core_at_start
  goes_on_did e m i a =
      let r = rounds g preds s.func_apps w in
      let few = impose_all_counts s.impositions r.core in
      let less = impose_all_adds s.impositions r.core in
      let l = later fuel first within.after in
      elim (within.works (and_first first.worked (is_none first.core.met) e)) [
        | inl more ↦ omega (arith, more, m, a, few, less, l.0, l.1)
        | inr k ↦ elim k [
          | inl more ↦ elim (drain_place w) [
            | inl same ↦ omega (arith, i, more, up_keys g preds s.func_apps w same)
            | inr merged ↦ omega (arith, merged, m, few, l.0, drained_most g preds s.func_apps w)
          ]
          | inr z ↦ omega (arith, waited e z, m, few, l.0)
        ]
      ]

  did_nothing : (close_run g s).core.merges ≡ 0 → inserted_apps g s ≡ 0 → (close_run g s).core.added ≡ 0 → (report_of (close_run g s)).changed ≡ false
  unfolding report_of grew
  did_nothing m i a = elim (test (goes_on first)) [
    | inl e ↦ absurd (goes_on_did e m i a)
    | inr e ↦
        let run = close_run g s in
        let one : ltb 1 run.rounds.count ≡ false =
        (unfold close_run imposed_after rounds last_round in ap (λ (r : Rounds). ltb 1 r.count) (rounds_stop g preds fuel first e)) in
        let none-late = le-ltb (run.rounds.core.merges + run.rounds.core.added) (run.core.merges + run.core.added) (omega (arith, m, a)) in
        λ k. one k || none-late k
  ]

pub nothing_unchanged : (m : Machine) → Valid m.sig m.structure → (c : Closed) → (step close m).answer ≡ closed c → DidNothing m.sig m.structure c
    → c.changed ≡ false
unfolding report_of
nothing_unchanged m v c e n =
    let a = closed_step m c e in
    ap (λ (x : Closed). x.changed) a.answer
    ∙ did_nothing m.sig m.structure v (sym (ap (λ (x : Closed). x.merges) a.answer) ∙ n.merges) n.inserted
    (sym (ap (λ (x : Closed). x.added) a.answer) ∙ n.added)

-- In every list of calls.

pub calls_unchanged_nothing : (before : List Call) (c : Closed) → let m = (history before).machine in
    (step close m).answer ≡ closed c → c.changed ≡ false → DidNothing m.sig m.structure c
calls_unchanged_nothing before c = unchanged_nothing (history before).machine c

pub calls_nothing_unchanged : (before : List Call) (c : Closed) → let m = (history before).machine in
    (step close m).answer ≡ closed c → DidNothing m.sig m.structure c → c.changed ≡ false
calls_nothing_unchanged before = nothing_unchanged (history before).machine (history_valid before).valid

-- Worked lists.

-- what a close after a list answers, how many applications the laws insert in it, and how many are stored before it and after it
record Counted (ks : List Call) (c : Closed) (inserted before after : ℕ) : Type 0 where
  answers : (step close (after_calls ks start)).answer ≡ closed c
  laws : inserted_apps (after_calls ks start).sig (after_calls ks start).structure ≡ inserted
  stored : length (after_calls ks start).structure.func_apps ≡ before
  left : length (step close (after_calls ks start)).after.structure.func_apps ≡ after

-- what they compute with
counting : ℕ
unfolding everything down_from up_to_laws inserted_in inserted_from inserted inserted_apps
counting = 0

-- it did nothing: "close 0 0 1 0"
nothing_done : Counted [] (report false 0 1 0) 0 0 0
unfolding counting
nothing_done = record { answers = refl; laws = refl; stored = refl; left = refl }

-- a law inserts cod(1) = 0, and nothing else is done: "close 1 0 2 0"
law_alone : Counted (signature102 ++ (plain_el ∷ plain_el ∷ dom 1 0 ∷ close ∷ identity 0 1 ∷ [])) (report true 0 2 0) 1 2 3
unfolding counting
law_alone = record { answers = refl; laws = refl; stored = refl; left = refl }

-- the table's length does not tell: `functionality` makes one of two keys, and a law inserts cod(0; 0) = 0
same_length : Counted
    (boxed102
    ++ (plain_el ∷ marked_el ∷ app 3 (1 ∷ []) (0 ∷ 0 ∷ []) 0 ∷ app 0 (0 ∷ []) (0 ∷ []) 0 ∷ app 1 (0 ∷ []) [] 0 ∷ app 1 (1 ∷ []) [] 0
    ∷ impose 0 2 (0 ∷ []) ∷ impose 0 2 (1 ∷ []) ∷ close ∷ []))
    (report true 0 2 0) 1 4 4
unfolding counting
same_length = record { answers = refl; laws = refl; stored = refl; left = refl }
