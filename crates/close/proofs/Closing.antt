-- Laws of a close as a whole: the passes are lent copies of its tables, and what they leave is the definition's run.
use mathlib.Core.Path.{◌≡◌, refl, sym, ap, ◌∙◌}
use mathlib.Core.Bool.{Bool, true, ◌||◌}
use mathlib.Core.List.{List, [], map}
use Prim.Native.Nat.{ℕ, ◌≤◌}
use native.Mathlib.Omega.{arith}
use lib.Dec.{ltb}
use lib.ListN.{length, take, length-take}
use Rattle.ids.specs.Table.{Sized, rewrite_into}
use Rattle.ids.specs.Sorted.{Sorted}
use Rattle.ids.proofs.Views.{take_same, view_clamped}
use Rattle.unification.specs.Roots.{max_els, links_of}
use Rattle.signature.specs.Model.{Sig}
use Rattle.semantics.specs.Structure as model
use Rattle.semantics.specs.Structure.{with_links, with_marks, with_facts, with_func_apps, with_pred_apps, with_vars, with_pairs, with_impositions}
use Rattle.semantics.specs.Structure.{max_facts, max_func_apps, max_pairs, compare_fact, compare_pred_app}
use Rattle.semantics.specs.Structure.{canonical_fact, canonical_pred_app, canonical_var}
use Rattle.semantics.specs.Types as types
use Rattle.semantics.specs.Types.{core, any_marked, impose_all, grew}
use Rattle.semantics.specs.Close as closing
use Rattle.semantics.specs.Close.{report, rounds_made, core_at_start, canonicalise_refs, with_core, as_close_run, imposed_after, close_run, report_of, after_close}
use Rattle.semantics.specs.Calls as calls
use Rattle.semantics.specs.Calls.{machine, answers, closed, rule, close_rule, leaves, acceptance, refusal, step}
use Rattle.semantics.proofs.Judged.{met_refuses, met_accepts}
use Rattle.facts.specs.View.{facts_of, impositions_of, fact_of}
use Rattle.apps.specs.View.{func_apps_of, pred_apps_of, func_app_of, pred_app_of}
use Rattle.structure.specs.declared.Structure as code
use Rattle.structure.specs.View.{structure_of}
use Rattle.rows.specs.Table.{InRows}
use Rattle.el_rows.specs.View.{links_in, marks_in}
use Rattle.merging.specs.View.{Lent, core_of, met_of, pairs_in, LentHeld, work_of, RoomToCount, Passes}
use Rattle.imposing.specs.Bounds.{all_impositions}
use Rattle.rounds.specs.View.{all_rounds, one_close, RoundsAre}
use Rattle.rounds.proofs.Laws.{fuel_is}
use Rattle.rows.specs.View.{facts_in, func_apps_in}
use Rattle.std.specs.declared.option.Option.TheVariants.{None, Some}
use Rattle.apps.specs.declared.FuncApp as func
use Rattle.apps.specs.declared.PredApp as pred
use Rattle.equalities.specs.View.{pairs_of}

-- The start.

-- the rows of a table are its items
pub in_rows : {A B : Type 0} (view : A → B) (n limit r : ℕ) (xs : List A) → Sized (map view (take n xs)) limit r → length xs ≡ limit
    → InRows view (map view (take n xs)) limit xs r
in_rows view n limit r xs size long = record { is = view_clamped view n r xs size.is; most = size.most; long = long }

-- the passes are lent what the tables of a structure hold, and nothing is counted yet
pub record Loaded (s : code.Structure) (now : Lent) (apps : List func.FuncApp) (preds : List pred.PredApp) : Type 0 where
  pub sized : Sized (links_of s.unification) max_els (length now.els)
  pub links_long : length s.unification.links ≡ max_els
  pub marks_long : length s.inferred_parent_els ≡ max_els
  pub links : links_in now.els ≡ take (length now.els) s.unification.links
  pub marks : marks_in now.els ≡ take (length now.els) s.inferred_parent_els
  pub marked : now.counts.is_marked ≡ any_marked (take (length now.els) s.inferred_parent_els)
  pub facts : InRows fact_of (facts_of s.els) max_facts now.facts now.counts.facts
  pub funcs : InRows func_app_of (func_apps_of s.func_apps) max_func_apps apps now.counts.func_apps
  pub predicates : map pred_app_of preds ≡ pred_apps_of s.pred_apps
  pub pairs : pairs_in now.counts.pairs now.pairs ≡ pairs_of s.pending_equalities
  pub pairs_few : now.counts.pairs ≤ max_pairs
  pub pairs_long : length now.pairs ≡ max_pairs
  pub sorted : now.counts.is_sorted ≡ true → Sorted compare_fact (facts_in now.counts.facts now.facts)
  pub none_met : now.counts.met ≡ None
  pub none_merged : now.counts.merges ≡ 0
  pub none_added : now.counts.added ≡ 0

module _ {s : code.Structure} {before : Lent} {apps : List func.FuncApp} {preds : List pred.PredApp} (l : Loaded s before apps preds) where
  -- as many elements as are lent are those that the length says
  same_els : {A : Type 0} (xs : List A) → length xs ≡ max_els → take (length before.els) xs ≡ take s.unification.len xs
  same_els xs e =
      take_same (length before.els) s.unification.len xs
      (omega (arith, l.sized.is, length-take s.unification.len s.unification.links, l.links_long, e))

  loaded_core : core_of before ≡ core_at_start (structure_of s)
  unfolding core_at_start
  loaded_core =
      let links = l.links ∙ same_els s.unification.links l.links_long in
      let marks = l.marks ∙ same_els s.inferred_parent_els l.marks_long in
      λ i. core (links i) (marks i) (l.facts.is i) (l.pairs i) (l.none_merged i) (l.none_added i) (met_of (l.none_met i))

  pub loaded_holds : LentHeld before
  loaded_holds = record {
    els_held = record { unmarked = λ e. ap any_marked l.marks ∙ sym l.marked ∙ e };
    facts_held = record { long = l.facts.long; few = l.facts.most; sorted = l.sorted };
    pairs_held = record { long = l.pairs_long; few = l.pairs_few };
  }

  pub loaded_room : RoomToCount all_rounds before.counts
  loaded_room = omega (arith, fuel_is, l.none_merged, l.none_added)

-- a structure with other tables beside its links and marks
abbrev with_tables : List model.Fact → List model.FuncApp → List model.PredApp → List model.Var → List model.Pair → List model.Fact → model.Structure → model.Structure
with_tables fs xs ps vs qs is s = with_facts fs (with_func_apps xs (with_pred_apps ps (with_vars vs (with_pairs qs (with_impositions is s)))))

-- What a close leaves, by its parts: r is what the rounds came to, and w what the impositions come to after them.
parts_after : (r : closing.Rounds) (w : types.Core) (s : model.Structure) {links ls : List ℕ} {ms : List Bool} {fs : List model.Fact} {xs : List model.FuncApp}
    {ps : List model.PredApp} {vs : List model.Var} {qs : List model.Pair} {is : List model.Fact} → links ≡ w.links → ls ≡ w.links → ms ≡ w.marks
    → fs ≡ rewrite_into compare_fact (canonical_fact ls) w.facts [] → xs ≡ r.apps → ps ≡ rewrite_into compare_pred_app (canonical_pred_app ls) s.pred_apps []
    → vs ≡ map (canonical_var ls) s.vars → qs ≡ w.pairs → is ≡ map (canonical_fact ls) s.impositions
    → with_links links (with_marks ms (with_tables fs xs ps vs qs is s)) ≡ after_close (as_close_run r w) s
unfolding after_close canonicalise_refs with_core
parts_after r w s {ls = ls} a e b f x p v q i =
    (λ k. with_links (a k) (with_marks (b k) (with_tables (f k) (x k) (p k) (v k) (q k) (i k) s)))
    ∙ (λ k. with_links w.links (with_marks w.marks
    (with_tables (rewrite_into compare_fact (canonical_fact (e k)) w.facts []) r.apps (rewrite_into compare_pred_app (canonical_pred_app (e k)) s.pred_apps [])
    (map (canonical_var (e k)) s.vars) w.pairs (map (canonical_fact (e k)) s.impositions) s)))

-- The rounds, from the tables of a structure, and the impositions.
module _ (g : Sig) {s : code.Structure} {before now : Lent} {apps apps' : List func.FuncApp} {preds : List pred.PredApp} {ran : ℕ} (l : Loaded s before apps preds)
    (rs : RoundsAre g (map pred_app_of preds) before apps now apps' ran) where
  abbrev made : closing.Rounds
  made = rounds_made (core_of now) (func_apps_in now.counts.func_apps apps') ran

  pub imposing_room : RoomToCount all_impositions now.counts
  imposing_room = omega (arith, fuel_is, rs.ran_most, rs.count_most, l.none_merged, l.none_added)

  module _ {after : Lent} (imposed : Passes now after all_impositions (impose_all (impositions_of s.pending_type_impositions))) where
    run_is : as_close_run made (core_of after) ≡ close_run g (structure_of s)
    unfolding close_run imposed_after
    run_is =
        (λ i. as_close_run made (imposed.is i))
        ∙ ap (λ (r : closing.Rounds). imposed_after r (structure_of s)) (rs.is ∙ (λ i. closing.rounds g (l.predicates i) (l.funcs.is i) (loaded_core l i)))

    met_is : met_of after.counts.met ≡ (close_run g (structure_of s)).core.met
    met_is = ap (λ (c : closing.CloseRun). c.core.met) run_is

    pub merges_most : after.counts.merges ≤ one_close
    merges_most = omega (arith, rs.ran_most, rs.count_most, imposed.count_most, l.none_merged, l.none_added)

    -- an array that is written from the elements, to the length that the table says
    els_written : {A : Type 0} (xs : List A) {ys : List A} → length after.els ≡ length before.els → length xs ≡ max_els
        → take (length after.els) xs ≡ ys → take s.unification.len xs ≡ ys
    els_written xs same long e = sym (same_els l xs long) ∙ ap (λ (n : ℕ). take n xs) (sym same) ∙ e

    -- what is written back: by the links of the elements
    pub written : (linked : List ℕ) (marked : List Bool) {fs : List model.Fact} {xs : List model.FuncApp} {ps : List model.PredApp} {vs : List model.Var}
        {qs : List model.Pair} {is : List model.Fact} →
        let n = length after.els in
        let ls = links_in after.els in
        n ≡ length before.els → length linked ≡ max_els → length marked ≡ max_els → take n linked ≡ ls → take n marked ≡ marks_in after.els
        → fs ≡ rewrite_into compare_fact (canonical_fact ls) (core_of after).facts [] → xs ≡ func_apps_in after.counts.func_apps apps'
        → ps ≡ rewrite_into compare_pred_app (canonical_pred_app ls) (map pred_app_of preds) []
        → vs ≡ map (canonical_var ls) (structure_of s).vars → qs ≡ (core_of after).pairs → is ≡ map (canonical_fact ls) (structure_of s).impositions
        → with_links (take s.unification.len linked) (with_marks (take s.unification.len marked) (with_tables fs xs ps vs qs is (structure_of s)))
        ≡ after_close (as_close_run made (core_of after)) (structure_of s)
    written linked marked same p q a b f x y v w i =
        parts_after made (core_of after) (structure_of s) (els_written linked same p a) refl (els_written marked same q b) f
        (x ∙ ap (λ (n : ℕ). func_apps_in n apps') imposed.kept)
        (y ∙ ap (λ (ps : List model.PredApp). rewrite_into compare_pred_app (canonical_pred_app (links_in after.els)) ps []) l.predicates)
        v w i

    -- the call refuses
    pub refuses : {n : ℕ} → after.counts.met ≡ Some n → refusal (machine g (structure_of s)) n ≡ step calls.close (machine g (structure_of s))
    unfolding rule close_rule
    refuses h = sym (met_refuses calls.close (machine g (structure_of s)) (close_run g (structure_of s)).core.met refl _ (sym met_is ∙ ap met_of h))

    -- the call is accepted
    pub accepts : after.counts.met ≡ None → {changed : Bool} → changed ≡ (ltb 1 ran || ltb (work_of now.counts) (work_of after.counts))
        → {t : model.Structure} → t ≡ after_close (as_close_run made (core_of after)) (structure_of s)
        → let c = report changed after.counts.merges ran after.counts.added in
        answers (closed c) (machine g (leaves true (closed c) t)) ≡ step calls.close (machine g (structure_of s))
    unfolding rule acceptance close_rule report_of grew
    accepts h e p =
        let reports = (λ i. report (e i) after.counts.merges ran after.counts.added) ∙ ap report_of run_is in
        let leaves-it = p ∙ ap (λ (c : closing.CloseRun). after_close c (structure_of s)) run_is in
        (λ i. answers (closed (reports i)) (machine g (leaves true (closed (reports i)) (leaves-it i))))
        ∙ sym (met_accepts calls.close (machine g (structure_of s)) (close_run g (structure_of s)).core.met refl (sym met_is ∙ ap met_of h))
