-- At every moment of a close at most `max_pairs` pairs wait, where that many wait at its start and there are at most `max_func_apps` applications,
-- until a number is met; of the rounds also after it. The bound is met: of `max_func_apps` applications that become one key, all but the first queue
-- a pair, and a refinement queues one more.
use mathlib.Core.Path.{◌≡◌, refl, sym, subst, ap}
use mathlib.Core.Bool.{false}
use mathlib.Core.List.{List, [], ◌∷◌, ◌++◌}
use Prim.Native.Nat.{ℕ, zero, suc, ◌≤◌, ◌<◌}
use native.Mathlib.Omega.{arith}
use lib.ListN.{length, length-append}
use Rattle.ids.proofs.Sorted.{placed_absent, lookup_none}
use Rattle.signature.specs.Model.{Sig}
use Rattle.semantics.specs.Structure.{Fact, FuncApp, PredApp, Pair, Structure, max_pairs, max_func_apps, compare_func_app}
use Rattle.semantics.specs.Applying.{equate}
use Rattle.semantics.specs.MapLaws.{MapLaw, map_laws}
use Rattle.semantics.specs.Types.{Core, refine_parents, refine_all, impose_all}
use Rattle.semantics.specs.Close.{Turn, turn, Pass, drained, drain_pass, rewriting, enter_all, rewrote, functionality_pass, demands, typed}
use Rattle.semantics.specs.Close.{typing_pass, apply_turn, obey_all, operation_pass, passes, round, core_at_start}
use Rattle.semantics.proofs.Queues.{drain_pairs_lem, Room, still_room, refine_parents_queue, refine_all_queue, impose_all_queue, pairs_room, apps_few}
use Rattle.semantics.proofs.Stages.{Stage, Along, run_along}
use Rattle.semantics.proofs.Operations.{rooted_in, apply_cases, obey_all_keeps}

-- While facts are imposed on w: after some of them, after some of the facts of the next one's element, and after some of the parents of
-- the fact after those, a pair can be queued.
abbrev pub Imposes : Core → Type 0
Imposes w = (fs : List Fact) (f : Fact) (gs : List Fact) (ps qs : List ℕ) → Room (refine_parents ps qs (refine_all gs f (impose_all fs w)))

pub imposes : (w : Core) → Room w → Imposes w
imposes w r fs f gs ps qs =
    let u = impose_all fs w in
    let v = refine_all gs f u in
    still_room v (refine_parents ps qs v) (refine_parents_queue ps qs v)
    (still_room u v (refine_all_queue gs f u) (still_room w u (impose_all_queue fs w) r))

-- The stages of a round: before its drain, after it, and from `functionality` on.

pub record Waiting (t : Turn) : Type 0 where
  pub few : length t.apps ≤ max_func_apps
  pub most : length t.core.pairs ≤ max_pairs

pub record Emptied (t : Turn) : Type 0 where
  pub few : length t.apps ≤ max_func_apps
  pub none : t.core.pairs ≡ []

pub record Roomy (t : Turn) : Type 0 where
  pub few : length t.apps ≤ max_func_apps
  pub room : Room t.core

-- a pass, by the pairs that wait
pub record QueueLaw (p : Pass) (A B : Stage) : Type 1 where
  -- what is said of every moment of the pass
  pub Moments : Turn → Type 0
  pub fits : (t : Turn) → A t → Moments t
  pub leads : (g : Sig) (preds : List PredApp) (t : Turn) → A t → B (p g preds t)

-- it begins with a queue that the table can hold, and only takes pairs from it
unfoldable pub drain_queue : QueueLaw drain_pass Waiting Emptied
unfolding drain_pass drained
drain_queue = record {
  Moments = λ t. length t.core.pairs ≤ max_pairs;
  fits = λ t h. h.most;
  leads = λ g preds t h. record { few = h.few; none = drain_pairs_lem t.core };
}

-- after some of the applications were rewritten a pair can be queued
unfoldable pub functionality_queue : QueueLaw functionality_pass Emptied Roomy
unfolding functionality_pass rewrote
functionality_queue = record {
  Moments = λ t.
      (xs ys : List FuncApp) → xs ++ ys ≡ t.apps → length (enter_all t.core.links xs (rewriting [] t.core.pairs false)).pairs < max_pairs;
  fits = λ t h xs ys e. begun t h xs (omega (arith, length-append xs ys, ap length e, h.few));
  leads = λ g preds t h. record {
    few = subst (λ (ps : List Pair). length (enter_all t.core.links t.apps (rewriting [] ps false)).apps ≤ max_func_apps) (sym h.none)
        (omega (arith, apps_few t.core.links t.apps, h.few));
    room = begun t h t.apps h.few;
  };
}
  where
    begun : (t : Turn) → Emptied t → (xs : List FuncApp) → length xs ≤ max_func_apps
        → length (enter_all t.core.links xs (rewriting [] t.core.pairs false)).pairs < max_pairs
    begun t h xs few =
        subst (λ (ps : List Pair). length (enter_all t.core.links xs (rewriting [] ps false)).pairs < max_pairs) (sym h.none)
        (pairs_room t.core.links xs few)

-- while facts are demanded a pair can be queued
unfoldable pub typing_queue : QueueLaw typing_pass Roomy Roomy
unfolding typing_pass typed
typing_queue = record {
  Moments = λ t. Imposes t.core;
  fits = λ t h. imposes t.core h.room;
  leads = λ g preds t h.
      let fs = demands g t.apps preds in
      record { few = h.few; room = still_room t.core (impose_all fs t.core) (impose_all_queue fs t.core) h.room };
}

-- an insertion is made where there is room
pub apply_waiting : (x : FuncApp) (t : Turn) → Waiting t → Waiting (apply_turn x t)
unfolding equate
apply_waiting x t h =
    apply_cases Waiting x t
    (λ e room. record {
      few = omega (arith, room, placed_absent compare_func_app (rooted_in t x) t.apps (lookup_none compare_func_app (rooted_in t x) t.apps e));
      most = h.most;
    })
    (λ y e r. record { few = h.few; most = h.most }) (λ y e n room. record { few = h.few; most = omega (arith, room) })
    (record { few = h.few; most = h.most })

-- after some of the laws as many wait as the table can hold
unfoldable pub operation_queue : QueueLaw operation_pass Roomy Waiting
unfolding operation_pass
operation_queue = record {
  Moments = λ t. (ls : List MapLaw) → length (obey_all ls t).core.pairs ≤ max_pairs;
  fits = λ t h ls. (obey_all_keeps Waiting apply_waiting ls t (start t h)).most;
  leads = λ g preds t h. obey_all_keeps Waiting apply_waiting (map_laws g.models t.apps) t (start t h);
}
  where
    start : (t : Turn) → Roomy t → Waiting t
    start t h = record { few = h.few; most = omega (arith, h.room) }

unfoldable pub all_queue : Along QueueLaw passes Waiting Waiting
unfolding passes
all_queue = (Emptied, drain_queue, (Roomy, functionality_queue, (Roomy, typing_queue, (Waiting, operation_queue, refl))))

-- at every moment of the passes of a list
abbrev pub AllFit : (g : Sig) (preds : List PredApp) (ps : List Pass) (A B : Stage) → Along QueueLaw ps A B → Turn → Type 0
AllFit g preds [] A B l t = Unit {0}
AllFit g preds (p ∷ ps) A C l t = l.1.Moments t × AllFit g preds ps l.0 C l.2 (p g preds t)

all_fit : (g : Sig) (preds : List PredApp) (ps : List Pass) (A B : Stage) (l : Along QueueLaw ps A B) (t : Turn) → A t → AllFit g preds ps A B l t
all_fit g preds [] A B l t h = tt
all_fit g preds (p ∷ ps) A C l t h =
    (l.1.fits t h, all_fit g preds ps l.0 C l.2 (p g preds t) (l.1.leads g preds t h))

pub round_waiting : (g : Sig) (preds : List PredApp) (xs : List FuncApp) (w : Core) → Waiting (turn w xs false) → Waiting (round g preds xs w)
unfolding round
round_waiting g preds xs w = run_along QueueLaw g preds (λ p A B l. l.leads g preds) passes Waiting Waiting all_queue (turn w xs false)

module _ (g : Sig) (s : Structure) where
  -- what k rounds leave, were no round the last
  unfoldable pub after : ℕ → Turn
  after zero = turn (core_at_start s) s.func_apps false
  after (suc k) = round g s.pred_apps (after k).apps (after k).core

  module _ (few : length s.func_apps ≤ max_func_apps) (start : length s.pairs ≤ max_pairs) where
    -- what the next round begins with
    begins : (k : ℕ) → Waiting (turn (after k).core (after k).apps false)
    unfolding after
    begins zero = (unfold core_at_start in record { few = few; most = start })
    begins (suc k) =
        let r = round_waiting g s.pred_apps (after k).apps (after k).core (begins k) in record { few = r.few; most = r.most }

    -- in the next round
    abbrev pub RoundFits : ℕ → Type 0
    RoundFits k = AllFit g s.pred_apps passes Waiting Waiting all_queue (turn (after k).core (after k).apps false)

    pub rounds_fit : (k : ℕ) → RoundFits k
    rounds_fit k = all_fit g s.pred_apps passes Waiting Waiting all_queue (turn (after k).core (after k).apps false) (begins k)
