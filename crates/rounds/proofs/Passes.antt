-- A round by its passes: the contract of each as an equation of turns, composed along the list of passes.
use mathlib.Core.Path.{◌≡◌, refl, sym, ap, subst, ◌∙◌}
use mathlib.Core.Bool.{Bool, false, ◌||◌}
use mathlib.Core.List.{List, [], ◌∷◌}
use Prim.Native.Nat.{ℕ}
use native.Mathlib.Omega.{arith}
use lib.Dec.{ltb}
use Rattle.signature.specs.Model.{Sig}
use Rattle.semantics.specs.Structure.{FuncApp, PredApp, max_pairs}
use Rattle.semantics.specs.Types as types
use Rattle.semantics.specs.Types.{drain, impose_all, grew, with_pairs}
use Rattle.semantics.specs.Close as closing
use Rattle.semantics.specs.Close.{rewriting, enter_all, demands, turn, drained, drain_pass, rewrote, functionality_pass, typing_pass, operation_pass}
use Rattle.semantics.specs.Close.{Pass, passes, run_passes}
use Rattle.semantics.proofs.Functionality.{enter_all_sorted}
use Rattle.semantics.proofs.Queues.{drain_pairs_lem}
use Rattle.el_rows.specs.View.{links_in}
use Rattle.merging.specs.declared.Tally.{Tally}
use Rattle.merging.specs.View.{Lent, lent, core_of, FactsHeld, LentHeld, Passes, work_of}
use Rattle.operations.specs.View.{said, Tables, tables, TablesHeld, ObeysLaws}
use Rattle.rewriting.specs.View.{none_rewritten, Enters}
use Rattle.typing.specs.Bounds.{all_demands}
use Rattle.rounds.specs.View.{RoundIs}
use Rattle.facts.specs.declared.Fact.{Fact}
use Rattle.apps.specs.declared.FuncApp as code
use Rattle.equalities.specs.declared.Pair.{Pair}
use Rattle.el_rows.specs.declared.El.{El}
use Rattle.rows.specs.View.{func_apps_in}

-- What `functionality` leaves: the tables as they were, with other applications and pairs.

-- the tables after it
abbrev pub requeued : Lent → List Pair → Tally → Lent
requeued now pairs r = lent now.els now.facts pairs r

module _ {ls : List ℕ} {c : Tally} {apps apps' : List code.FuncApp} {pairs : List Pair} {r : Tally} (e : Enters ls c apps apps' pairs r) where
  pub requeued_counted : work_of r ≡ work_of c
  requeued_counted = ap (λ (n : Tally). work_of n) e.counts

  pub requeued_holds : {els : List El} {facts : List Fact} {before : List Pair} → LentHeld (lent els facts before c) → LentHeld (lent els facts pairs r)
  requeued_holds {els} {facts} h =
      subst (λ (n : Tally). LentHeld (lent els facts pairs n)) (sym e.counts) (record {
        els_held = record { unmarked = h.els_held.unmarked };
        facts_held = record { long = h.facts_held.long; few = h.facts_held.few; sorted = h.facts_held.sorted };
        pairs_held = record { long = e.pairs_long; few = e.pairs_few };
      })

module _ (g : Sig) (preds : List PredApp) where
  -- What each pass leaves, as a turn: b says whether one before it reported work.

  drain_is : {before now : Lent} → Passes before now max_pairs drain → (apps : List FuncApp) (b : Bool)
      → turn (core_of now) apps (b || ltb before.counts.merges now.counts.merges) ≡ drain_pass g preds (turn (core_of before) apps b)
  unfolding drain_pass drained
  drain_is {before} e apps b = λ i. turn (e.is i) apps (b || ltb before.counts.merges (e.is i).merges)

  functionality_is : (now : Lent) {rows rows' : List code.FuncApp} {pairs : List Pair} {r : Tally}
      → Enters (links_in now.els) now.counts rows rows' pairs r → (core_of now).pairs ≡ []
      → {apps : List FuncApp} → func_apps_in now.counts.func_apps rows ≡ apps → (b : Bool)
      → turn (core_of (requeued now pairs r)) (func_apps_in r.func_apps rows') (b || ltb 0 r.pairs)
      ≡ functionality_pass g preds (turn (core_of now) apps b)
  unfolding functionality_pass rewrote
  functionality_is now {rows} {rows'} {pairs} {r} e none {apps} same b =
      let ls : List ℕ = links_in now.els in
      let all : rewriting (func_apps_in r.func_apps rows') (core_of (requeued now pairs r)).pairs (ltb 0 r.pairs)
      ≡ enter_all ls apps (rewriting [] (core_of now).pairs false) = e.is ∙ (λ i. enter_all ls (same i) (rewriting [] (sym none i) false)) in
      (λ i. turn (core_of (requeued now pairs (e.counts i))) (func_apps_in r.func_apps rows') (b || ltb 0 r.pairs))
      ∙ (λ i. turn (with_pairs (all i).pairs (core_of now)) (all i).apps (b || (all i).queued))

  typing_is : {before now : Lent} {apps : List FuncApp} → Passes before now all_demands (impose_all (demands g apps preds)) → (b : Bool)
      → turn (core_of now) apps (b || ltb (work_of before.counts) (work_of now.counts)) ≡ typing_pass g preds (turn (core_of before) apps b)
  unfolding typing_pass closing.typed grew
  typing_is {before} {now} {apps} e b = λ i. turn (e.is i) apps (b || grew (core_of before) (e.is i))

  -- The list.

  by_pass : (p : Pass) (ps : List Pass) {t u v : closing.Turn} → u ≡ p g preds t → v ≡ run_passes ps g preds u → v ≡ run_passes (p ∷ ps) g preds t
  unfolding run_passes
  by_pass p ps e rest = rest ∙ ap (run_passes ps g preds) e

  no_pass : {t v : closing.Turn} → v ≡ t → v ≡ run_passes [] g preds t
  unfolding run_passes
  no_pass e = e

-- The round. After typing the tables are `typed` with the applications `apps'`, and b says whether a pass has reported work; the laws of identities and
-- composites leave the tables `after`.
module _ (g : Sig) (preds : List PredApp) {before drained typed : Lent} {apps apps' : List code.FuncApp} {pairs : List Pair} {r : Tally}
    (drains : Passes before drained max_pairs drain)
    (rewrites : Enters (links_in drained.els) drained.counts apps apps' pairs r)
    (demanded : Passes (requeued drained pairs r) typed all_demands (impose_all (demands g (func_apps_in r.func_apps apps') preds))) where
  used : typed.counts.func_apps ≡ r.func_apps
  used = demanded.kept

  -- the tables as they are lent to the last pass
  pub typed_holds : (b : Bool) → TablesHeld (tables typed.els apps' typed.pairs (said typed.counts b))
  typed_holds b = record {
    els_held = demanded.holds.els_held;
    apps_held = record {
      long = rewrites.apps_long;
      few = rw used rewrites.apps_few;
      sorted =
          rw (used, ap (λ (w : closing.Rewritten). w.apps) rewrites.is)
          (enter_all_sorted (links_in drained.els) (func_apps_in drained.counts.func_apps apps) none_rewritten tt);
    };
    pairs_held = demanded.holds.pairs_held;
  }

  pub round_is : {b : Bool} {after : Tables} → ObeysLaws g (tables typed.els apps' typed.pairs (said typed.counts b)) after
      → b ≡ ((ltb before.counts.merges drained.counts.merges || ltb 0 r.pairs) || ltb (work_of r) (work_of typed.counts))
      → RoundIs g preds before apps (lent after.els typed.facts after.pairs after.turn.counts) after.apps after.turn.worked
  unfolding closing.round passes
  round_is {after = after} obeyed e =
      let empty : (core_of drained).pairs ≡ [] = ap (λ (w : types.Core). w.pairs) drains.is ∙ drain_pairs_lem (core_of before) in
      let same-apps = ap (λ (n : ℕ). func_apps_in n apps) drains.kept in
      let last = obeyed preds in
      let work : work_of after.turn.counts ≡ work_of typed.counts = ap (λ (n : Tally). work_of n) last.counts in
      let f = demanded.holds.facts_held in record {
        is =
            by_pass g preds drain_pass _ (drain_is g preds drains (func_apps_in before.counts.func_apps apps) false)
            (by_pass g preds functionality_pass _ (functionality_is g preds drained rewrites empty same-apps _)
            (by_pass g preds typing_pass _ (typing_is g preds demanded _)
            (by_pass g preds operation_pass _
            (last.is typed.facts ∙ (λ i. operation_pass g preds (turn (core_of typed) (func_apps_in (used i) apps') (e i)))) (no_pass g preds refl))));
        ready = record {
          holds = record {
            els_held = last.holds.els_held;
            facts_held =
                subst (λ (n : Tally). FactsHeld typed.facts n) (sym last.counts) (record { long = f.long; few = f.few; sorted = f.sorted });
            pairs_held = last.holds.pairs_held;
          };
          apps_used = (last.holds.apps_held.few, last.holds.apps_held.long);
        };
        count_most = omega (arith, work, demanded.count_most, requeued_counted rewrites, drains.count_most);
      }
