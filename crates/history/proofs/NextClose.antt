-- Where the next close is accepted and reports no change, it is so after every call that is not answered with yes (02, M-101): for every valid
-- structure, marks or not, its applications rewritten or not.
use mathlib.Core.Path.{◌≡◌, refl, sym, subst, ap, ◌∙◌}
use mathlib.Core.Bool.{Bool, true, false, not, ◌&&◌, ◌||◌}
use mathlib.Core.List.{List, [], ◌∷◌, ◌++◌}
use mathlib.Core.Option.{Option, none, some}
use Prim.Native.Nat.{ℕ, ◌<◌}
use native.Mathlib.Omega.{arith}
use lib.ListN.{length, get_or-append}
use lib.Dec.{eqb}
use borrow.Author.Tests.{eqb-true, leb-false, ltb-true, not-false}
use Rattle.ids.specs.Table.{present, lookup_of}
use Rattle.ids.proofs.Judging.{NoneApplies}
use Rattle.ids.proofs.Sorted.{All, all_at, all_both, all_map, no_test, lookup_sound, placed_present}
use Rattle.unification.specs.Roots.{max_els, root_of, short_of, added_of, find_causes}
use Rattle.unification.proofs.Laws.{root_le, root_root, short_length}
use Rattle.unification.proofs.Theorems.{short_formed, short_root}
use Rattle.signature.specs.Model.{Sig}
use Rattle.signature.specs.Calls.{type_causes, pred_causes, func_causes, model_causes, mor_app_causes}
use Rattle.semantics.specs.Structure.{Fact, FuncApp, PredApp, Pair, pair, Var, Ambient, Structure, empty, compare_fact, compare_func_app, compare_pred_app}
use Rattle.semantics.specs.Structure.{canonical_func_app, with_links, with_marks, with_pairs, with_pred_apps, with_vars}
use Rattle.semantics.specs.Structure.{with_ambients}
use Rattle.semantics.specs.Types.{marked}
use Rattle.semantics.specs.MapLaws.{map_laws}
use Rattle.semantics.specs.Close.{Rewritten, func_args, pred_args, func_results, demands, Closed, core_at_start, close_run, after_close}
use Rattle.semantics.specs.Applying.{equate, Applied, applied, applied_equal}
use Rattle.semantics.specs.Calls.{is_el, el_causes, with_el, equality_causes, with_equality, with_imposition}
use Rattle.semantics.specs.Applying.{apply_at, insert_func_app_or_equate}
use Rattle.semantics.specs.Calls.{applied_to, with_applied, with_pred_app, with_var, with_ambient, Call, push_type, push_pred}
use Rattle.semantics.specs.Calls.{push_func, push_model, push_mor_app, push_el, equate_els, impose_type, apply_func, apply_pred, bind_var, bind_ambient}
use Rattle.semantics.specs.Calls.{close, type_conflicts, settle, root, root_const, lookup_type, ambient_parents, closed, Machine}
use Rattle.semantics.specs.Calls.{leaves, equality_rule, imposition_rule, application_rule, close_rule, settle_rule, rule, acceptance, step}
use Rattle.semantics.specs.Valid.{counts_of, Below, FactValid, FuncAppValid, ValidStructure, Valid}
use Rattle.semantics.proofs.Cases.{and_first, and_second}
use Rattle.semantics.proofs.Equating.{differ_says}
use Rattle.semantics.proofs.Judged.{step_by_lem}
use Rattle.semantics.proofs.Queues.{fresh}
use Rattle.semantics.proofs.Settling.{closes_leave, run_keeps}
use Rattle.validity.proofs.Demands.{demands_valid}
use Rattle.validity.proofs.Entering.{fresh_entered}
use Rattle.validity.proofs.Calls.{ValidMachine, step_valid}
use Rattle.history.specs.Settled.{asserts, is_yes, said_yes}
use Rattle.history.proofs.Counts.{added_root}
use Rattle.history.proofs.Drain.{WithinClass}
use Rattle.semantics.proofs.Canonical.{fact_alike, entered, enter_all_alike}
use Rattle.history.proofs.Unjoined.{Fixed, Unjoined, Safe}
use Rattle.history.proofs.Operations.{held_alike}
use Rattle.history.proofs.Passes.{LawsHeld, canonical_no_work}
use Rattle.history.proofs.SecondClose.{no_change, Idle, idle_met, idle_report, idle_flags, NextUnchanged, idle_next, next_idle, after_idle}
use Rattle.history.proofs.SecondClose.{second_close}

-- Of the links only the roots count, and of the marks only those of the n elements.

module _ (ls ks : List ℕ) (roots : (e : ℕ) → root_of ks e ≡ root_of ls e) where
  module _ (ms ns : List Bool) (n : ℕ) (marks : (e : ℕ) → e < n → marked ns e ≡ marked ms e) where
    -- the root of an element is an element
    root_marked : (e : ℕ) → e < n → marked ns (root_of ks e) ≡ marked ms (root_of ls e)
    root_marked e h = ap (marked ns) (roots e) ∙ marks (root_of ls e) (omega (arith, h, root_le ls e))

    fixed_alike : (ps qs : List ℕ) → Below n ps → Below n qs → Fixed ls ms ps qs → Fixed ks ns ps qs
    fixed_alike [] qs hp hq h = tt
    fixed_alike (p ∷ ps) [] hp hq h = tt
    fixed_alike (p ∷ ps) (q ∷ qs) hp hq h =
        let mp = root_marked p hp.0 in
        let mq = root_marked q hq.0 in
        ((λ i. not (eqb (roots p i) (roots q i)) && (mp i || mq i)) ∙ h.0, fixed_alike ps qs hp.1 hq.1 h.1)

    safe_alike : (fs : List Fact) → All (λ f. Below n f.parents) fs → (d : Fact) → Below n d.parents → Safe ls ms fs d → Safe ks ns fs d
    safe_alike fs below d b s = record {
      stored = ap (λ (f : Fact). present compare_fact f fs) (fact_alike ls ks roots d) ∙ s.stored;
      none_joined = all_map (λ f h e t. fixed_alike f.parents d.parents h.0 b (h.1 (e ∙ roots d.el) t)) fs
          (all_both (λ f. Below n f.parents) (λ f. f.el ≡ root_of ls d.el → Unjoined ls ms f d) fs below s.none_joined);
    }

module _ (g : Sig) (s : Structure) (v : Valid g s) (i : Idle g s) where
  abbrev n : ℕ
  n = length s.links

  abbrev vs : ValidStructure (counts_of g s) s
  vs = v.structure

  joined : All (WithinClass s.links) s.pairs
  unfolding core_at_start
  joined = i.rounds.joined

  -- other links with the same roots, marks that are the same at the elements, and pairs within one class
  alike_idle : (ks : List ℕ) (ms : List Bool) (ps : List Pair) → ((e : ℕ) → root_of ks e ≡ root_of s.links e)
      → ((e : ℕ) → e < n → marked ms e ≡ marked s.marks e) → All (WithinClass s.links) ps
      → Idle g (with_links ks (with_marks ms (with_pairs ps s)))
  unfolding core_at_start
  alike_idle ks ms ps roots marks within = record {
    rounds = record {
      unworked = refl;
      unmet = refl;
      joined = all_map (λ (p : Pair) (h : WithinClass s.links p). roots p.lhs ∙ h ∙ sym (roots p.rhs)) ps within;
      agree = ap (λ (r : Rewritten). r.queued) same ∙ i.rounds.agree;
      safe = subst (λ (r : Rewritten). All (Safe ks ms s.facts) (demands g r.apps s.pred_apps)) (sym same)
          (safe (demands g xs s.pred_apps) (demands_valid g v.sig n xs s.pred_apps valid vs.pred_apps.each) i.rounds.safe);
      held = subst (LawsHeld g ks) (sym same) (all_map (held_alike s.links ks roots xs) (map_laws g.models xs) i.rounds.held);
    };
    imposed = safe s.impositions vs.impositions.each i.imposed;
  }
    where
      same : entered ks s.func_apps ≡ entered s.links s.func_apps
      same = enter_all_alike s.links ks roots s.func_apps fresh

      xs : List FuncApp
      xs = (entered s.links s.func_apps).apps

      valid : All (FuncAppValid (counts_of g s)) xs
      valid = all_map (λ x k. k.valid) xs (fresh_entered (counts_of g s) s.links s.func_apps vs.func_apps.each).each

      safe : (l : List Fact) → All (FactValid (counts_of g s)) l → All (Safe s.links s.marks s.facts) l → All (Safe ks ms s.facts) l
      safe l w h =
          all_map (λ d k. safe_alike s.links ks roots s.marks ms n marks s.facts
          (all_map (λ f z. z.parents.below) s.facts vs.facts.each) d k.0.parents.below k.1) l
          (all_both (FactValid (counts_of g s)) (Safe s.links s.marks s.facts) l w h)

  -- Kinds 1 to 5: they are accepted only while nothing is stored.

  declared_idle : (h : Sig) → s.started ≡ false → Idle h s
  unfolding empty core_at_start demands func_args pred_args func_results map_laws
  declared_idle h q =
      subst (Idle h) (sym (v.unstarted q)) (record { rounds = canonical_no_work h [] (core_at_start empty) [] refl tt tt tt tt tt; imposed = tt })

  -- Kind 6.

  el_idle : (mark : Bool) → NoneApplies (el_causes s) → Idle g (with_el mark s)
  unfolding el_causes with_el
  el_idle mark clear =
      alike_idle (added_of s.links) (s.marks ++ (mark ∷ [])) s.pairs (added_root s.links (leb-false max_els n clear.0))
      (λ e h. get_or-append s.marks (mark ∷ []) false e (omega (arith, h, vs.marks))) joined

  -- Kind 7.

  -- two elements of one class
  module _ (a b : ℕ) (la : a < n) (no : (equate s.links s.pairs a b).differ ≡ false) where
    one_root : root_of s.links a ≡ root_of s.links b
    one_root =
        eqb-true (root_of s.links a) (root_of s.links b)
        (not-false (eqb (root_of s.links a) (root_of s.links b)) (sym (differ_says s.links s.pairs a b vs.links la) ∙ no))

    equated_idle : b < n → Idle g (with_equality (equate s.links s.pairs a b) s)
    unfolding equate with_equality
    equated_idle lb =
        let ls = short_of s.links a in
        let one = short_root s.links a la vs.links in
        let two = short_root ls b (omega (arith, lb, short_length s.links a)) (short_formed s.links a vs.links) in
        alike_idle (short_of ls b) s.marks (pair a b ∷ s.pairs) (λ e. two e ∙ one e) (λ e h. refl) (one_root, joined)

  equality_idle : (a b : ℕ) → NoneApplies (equality_causes s a b) → (equate s.links s.pairs a b).differ ≡ false
      → Idle g (with_equality (equate s.links s.pairs a b) s)
  unfolding equality_causes
  equality_idle a b clear q =
      let d = not-false (is_el s a && is_el s b) clear.0 in
      equated_idle a b (ltb-true a n (and_first (is_el s a) (is_el s b) d)) q (ltb-true b n (and_second (is_el s a) (is_el s b) d))

  -- Kind 8.

  imposition_idle : (f : Fact) (queued : Bool) → not queued ≡ false → Idle g (with_imposition queued f s)
  unfolding with_imposition
  imposition_idle f true q = i
  imposition_idle f false q = no_test refl q

  -- Kind 9. Answered with no, the application is stored with its result, or with one of the same class: then a pair within this class is queued.

  application_idle : (x : FuncApp) → (applied_to s x).yes ≡ false → Idle g (with_applied (applied_to s x) s)
  unfolding insert_func_app_or_equate apply_at applied_equal with_applied with_equality canonical_func_app
  application_idle x = found (lookup_of compare_func_app y s.func_apps) refl
    where
      y : FuncApp
      y = canonical_func_app s.links x

      found : (o : Option FuncApp) → lookup_of compare_func_app y s.func_apps ≡ o → (apply_at o y s.links s.pairs s.func_apps).yes ≡ false
          → Idle g (with_applied (apply_at o y s.links s.pairs s.func_apps) s)
      found none e q = no_test refl q
      found (some z) e q = go (eqb z.result y.result) q
        where
          here : Applied
          here = applied s.links s.pairs s.func_apps false false

          other : Applied
          other = applied_equal (equate s.links s.pairs z.result y.result) s.pairs s.func_apps

          old : FuncAppValid (counts_of g s) z
          old = all_at (FuncAppValid (counts_of g s)) s.func_apps vs.func_apps.each z (lookup_sound compare_func_app y s.func_apps e).0

          go : (b : Bool) → (elim b as (λ _. Applied) [ true ↦ here | false ↦ other ]).yes ≡ false
              → Idle g (with_applied (elim b as (λ _. Applied) [ true ↦ here | false ↦ other ]) s)
          go true q = i
          go false q =
              let a = one_root z.result y.result old.result q in
              equated_idle z.result y.result old.result q
              (omega (arith, old.result, a, root_le s.links z.result, root_root s.links x.result))

  -- Kind 10.

  predication_idle : (x : PredApp) → not (present compare_pred_app x s.pred_apps) ≡ false → Idle g (with_pred_app x s)
  unfolding with_pred_app
  predication_idle x q =
      subst (λ (l : List PredApp). Idle g (with_pred_apps l s))
      (sym (placed_present compare_pred_app x s.pred_apps (not-false (present compare_pred_app x s.pred_apps) q))) i

  -- Kinds 11 and 12.

  -- variables and ambients do not bear on it
  bound_idle : (xs : List Var) (bs : List Ambient) → Idle g (with_vars xs (with_ambients bs s))
  unfolding core_at_start
  bound_idle xs bs = record { rounds = i.rounds; imposed = i.imposed }

  variable_idle : (x : Var) → Idle g (with_var x s)
  unfolding with_var
  variable_idle x = bound_idle _ s.ambients

  ambient_idle : (x : Ambient) → Idle g (with_ambient x s)
  unfolding with_ambient
  ambient_idle x = bound_idle s.vars _

  -- A find.

  find_idle : (e : ℕ) → NoneApplies (find_causes s.links e) → Idle g (with_links (short_of s.links e) s)
  unfolding find_causes
  find_idle e clear =
      alike_idle (short_of s.links e) s.marks s.pairs (short_root s.links e (leb-false n e clear.0) vs.links) (λ x h. refl) joined

  -- A close, which merges nothing.

  close_idle : Idle g (after_close (close_run g s) s)
  close_idle = after_idle g s v (idle_met g s i) (ap (λ (c : Closed). c.merges) (idle_report g s i))

-- Every call.

abbrev IdleMachine : Machine → Type 0
IdleMachine m = Idle m.sig m.structure

-- an accepted close; a settle has this of each of its closes
close_keeps : (m : Machine) (c : Closed) → (step close m).answer ≡ closed c → ValidMachine m × NextUnchanged m
    → ValidMachine (step close m).after × NextUnchanged (step close m).after
close_keeps m c e h = (step_valid close m h.0, second_close m no_change h.0 h.1 refl)

-- where no cause applies and the answer is not yes, what a call leaves is idle
effect_idle : (k : Call) (m : Machine) → ValidMachine m → IdleMachine m → NoneApplies (rule k m).causes → said_yes k (rule k m).answer ≡ false
    → IdleMachine (rule k m).after
unfolding rule equality_rule imposition_rule application_rule close_rule settle_rule asserts is_yes
effect_idle (push_type t) m v i clear q = (unfold type_causes in declared_idle m.sig m.structure v i _ clear.1.0)
effect_idle (push_pred p) m v i clear q = (unfold pred_causes in declared_idle m.sig m.structure v i _ clear.1.0)
effect_idle (push_func f) m v i clear q = (unfold func_causes in declared_idle m.sig m.structure v i _ clear.1.0)
effect_idle (push_model x) m v i clear q = (unfold model_causes in declared_idle m.sig m.structure v i _ clear.0)
effect_idle (push_mor_app x) m v i clear q = (unfold mor_app_causes in declared_idle m.sig m.structure v i _ clear.0)
effect_idle (push_el mark) m v i clear q = el_idle m.sig m.structure v i mark clear
effect_idle (equate_els a b) m v i clear q = equality_idle m.sig m.structure v i a b clear q
effect_idle (impose_type f) m v i clear q = imposition_idle m.sig m.structure v i _ _ q
effect_idle (apply_func x) m v i clear q = application_idle m.sig m.structure v i x q
effect_idle (apply_pred x) m v i clear q = predication_idle m.sig m.structure v i x q
effect_idle (bind_var x) m v i clear q = variable_idle m.sig m.structure v i x
effect_idle (bind_ambient a) m v i clear q = ambient_idle m.sig m.structure v i a
effect_idle close m v i clear q = close_idle m.sig m.structure v i
effect_idle type_conflicts m v i clear q = i
effect_idle settle m v i clear q =
    next_idle (closes_leave m) (run_keeps m (λ z. ValidMachine z × NextUnchanged z) close_keeps (v, idle_next m i)).1
effect_idle (root e) m v i clear q = find_idle m.sig m.structure v i e clear
effect_idle (root_const e) m v i clear q = i
effect_idle (lookup_type t ps) m v i clear q = i
effect_idle (ambient_parents ts) m v i clear q = i

-- a refused call leaves everything as it was
pub step_next_unchanged : (k : Call) (m : Machine) → ValidMachine m → NextUnchanged m → said_yes k (step k m).answer ≡ false
    → NextUnchanged (step k m).after
unfolding acceptance leaves
step_next_unchanged k m v u =
    step_by_lem k m (λ t. said_yes k t.answer ≡ false → NextUnchanged t.after) (λ n r q. u)
    (λ clear q. idle_next _ (idle_flags (rule k m).after.sig (rule k m).after.structure _ _ (effect_idle k m v (next_idle m u) clear q)))
