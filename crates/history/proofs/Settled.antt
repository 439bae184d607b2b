-- The question whether the structure is settled (02, M-101), for every list of calls, marks or not: it is what the calls and their answers say, and
-- where it says yes a close is accepted and reports no change.
use mathlib.Core.Path.{◌≡◌, refl, sym, ap, subst, ◌∙◌}
use mathlib.Core.Bool.{Bool, true, false, not, ◌&&◌, ◌||◌, and-true, and-false}
use mathlib.Core.Logic.{inl, inr}
use mathlib.Core.List.{List, [], ◌∷◌}
use mathlib.Core.Option.{Option, none, some}
use borrow.Author.Tests.{not-true}
use Rattle.ids.proofs.Judging.{NoneApplies}
use Rattle.ids.proofs.Sorted.{no_test}
use Rattle.semantics.specs.Structure.{Fact, Structure, canonical_fact, empty}
use Rattle.semantics.specs.Close.{Closed}
use Rattle.semantics.specs.Calls.{Call, push_type, push_pred, push_func, push_model, push_mor_app, push_el, equate_els, impose_type}
use Rattle.semantics.specs.Calls.{apply_func, apply_pred, bind_var, bind_ambient, close, type_conflicts, settle, root, root_const}
use Rattle.semantics.specs.Calls.{lookup_type, ambient_parents, Answer, closed, summed, totals, Machine, Step, start, settled_by, leaves, rule, equality_rule, imposition_rule, application_rule}
use Rattle.semantics.specs.Calls.{is_imposed, with_el, with_equality, with_imposition, with_applied, with_pred_app, with_var, with_ambient, close_rule, settle_rule}
use Rattle.semantics.specs.Calls.{acceptance, step, after_calls}
use Rattle.semantics.proofs.Cases.{and_first, and_second}
use Rattle.semantics.proofs.Judged.{step_by_lem}
use Rattle.semantics.proofs.Settling.{settle_keeps}
use Rattle.validity.proofs.Calls.{ValidMachine, start_valid, step_valid}
use Rattle.validity.proofs.Closing.{close_step_answers}
use Rattle.history.specs.Settled.{Event, event, trace, reported_change, latest_close, since, asserts, is_yes, said_yes, any_yes, unchanged, settled_after}
use Rattle.history.proofs.Closing.{unmet, closed_step}
use Rattle.history.proofs.SecondClose.{no_change, NextUnchanged, unchanged_report, next_settles, second_close}
use Rattle.history.proofs.Settling.{run_settled}
use Rattle.history.proofs.NextClose.{step_next_unchanged}

-- What a call leaves of the flag, by the call, its answer and the flag before it.

unfoldable pub flag_after : Call → Answer → Bool → Bool
flag_after k a was = elim (reported_change a) [ some changed ↦ not changed | none ↦ not (said_yes k a) && was ]

-- an answer that reports no close
flag_none : (k : Call) (a : Answer) (was : Bool) → reported_change a ≡ none → flag_after k a was ≡ (not (said_yes k a) && was)
unfolding flag_after
flag_none k a was e = ap (λ (o : Option Bool). elim o as (λ _. Bool) [ some changed ↦ not changed | none ↦ not (said_yes k a) && was ]) e

neither : (y u a : Bool) → (not y && (u && not a)) ≡ (u && not (y || a))
neither true true a = refl
neither true false a = refl
neither false u a = refl

-- the list of calls and answers has the same, one call more at a time
pub one_event : (k : Call) (a : Answer) (es : List Event) → flag_after k a (settled_after es) ≡ settled_after (event k a ∷ es)
unfolding flag_after settled_after latest_close since any_yes unchanged
one_event k a es = go (reported_change a)
  where
    go : (o : Option Bool)
        → ◌≡◌ {A = Bool} (elim o [ some changed ↦ not changed | none ↦ not (said_yes k a) && settled_after es ])
        (unchanged (elim o [ some changed ↦ some changed | none ↦ latest_close es ])
        && not (any_yes (elim o as (λ _. List Event) [ some changed ↦ [] | none ↦ event k a ∷ since es ])))
    go none = neither (said_yes k a) (unchanged (latest_close es)) (any_yes (since es))
    go (some changed) = sym (and-true (not changed))

-- Every call leaves that.

-- of an imposition that is queued already, or not
imposed_flag : (queued : Bool) (f : Fact) (s : Structure) → (not (not queued) && (with_imposition queued f s).settled) ≡ (not (not queued) && s.settled)
unfolding with_imposition
imposed_flag true f s = refl
imposed_flag false f s = refl

-- where no cause applies
effect_flag : (k : Call) (m : Machine) → ValidMachine m → NoneApplies (rule k m).causes
    → (acceptance (rule k m)).after.structure.settled ≡ flag_after k (rule k m).answer m.structure.settled
unfolding rule equality_rule imposition_rule application_rule close_rule settle_rule acceptance leaves settled_by flag_after reported_change asserts is_yes
    with_el with_equality with_applied with_pred_app with_var with_ambient
effect_flag (push_type t) m v clear = refl
effect_flag (push_pred p) m v clear = refl
effect_flag (push_func f) m v clear = refl
effect_flag (push_model x) m v clear = refl
effect_flag (push_mor_app x) m v clear = refl
effect_flag (push_el mark) m v clear = refl
effect_flag (equate_els a b) m v clear = refl
effect_flag (impose_type f) m v clear =
    let s = m.structure in imposed_flag (is_imposed (canonical_fact s.links f) s.impositions) (canonical_fact s.links f) s
effect_flag (apply_func x) m v clear = refl
effect_flag (apply_pred x) m v clear = refl
effect_flag (bind_var x) m v clear = refl
effect_flag (bind_ambient a) m v clear = refl
effect_flag close m v clear = refl
effect_flag type_conflicts m v clear = refl
effect_flag settle m v clear = run_settled m.sig m.structure v (unmet _ clear)
effect_flag (root e) m v clear = refl
effect_flag (root_const e) m v clear = refl
effect_flag (lookup_type t ps) m v clear = refl
effect_flag (ambient_parents ts) m v clear = refl

-- a refused call leaves it
step_flag : (k : Call) (m : Machine) → ValidMachine m → (step k m).after.structure.settled ≡ flag_after k (step k m).answer m.structure.settled
unfolding acceptance
step_flag k m v =
    step_by_lem k m (λ (s : Step). s.after.structure.settled ≡ flag_after k s.answer m.structure.settled)
    (λ n q. (unfold flag_after reported_change is_yes in ap (λ (b : Bool). not b && m.structure.settled) (sym (and-false (asserts k)))))
    (effect_flag k m v)

-- From any valid machine and what was called and answered before it.
pub settled_is_from : (ks : List Call) (m : Machine) (es : List Event) → ValidMachine m → m.structure.settled ≡ settled_after es
    → (after_calls ks m).structure.settled ≡ settled_after (trace ks m es)
unfolding after_calls trace
settled_is_from [] m es v was = was
settled_is_from (k ∷ ks) m es v was =
    settled_is_from ks (step k m).after (event k (step k m).answer ∷ es) (step_valid k m v)
    (step_flag k m v ∙ ap (flag_after k (step k m).answer) was ∙ one_event k (step k m).answer es)

-- For every list of calls.
pub settled_is : (ks : List Call) → (after_calls ks start).structure.settled ≡ settled_after (trace ks start [])
unfolding start empty settled_after latest_close since any_yes unchanged
settled_is ks = settled_is_from ks start [] start_valid refl

-- A claim on every call, from one on those that run no close and one on each that does.
pub by_calls : (P : Call → Type 0) (m : Machine) → ((k : Call) → reported_change (rule k m).answer ≡ none → P k) → P close → P settle
    → (k : Call) → P k
unfolding rule equality_rule imposition_rule application_rule reported_change
by_calls P m other c s (push_type t) = other (push_type t) refl
by_calls P m other c s (push_pred p) = other (push_pred p) refl
by_calls P m other c s (push_func f) = other (push_func f) refl
by_calls P m other c s (push_model x) = other (push_model x) refl
by_calls P m other c s (push_mor_app x) = other (push_mor_app x) refl
by_calls P m other c s (push_el mark) = other (push_el mark) refl
by_calls P m other c s (equate_els a b) = other (equate_els a b) refl
by_calls P m other c s (impose_type f) = other (impose_type f) refl
by_calls P m other c s (apply_func x) = other (apply_func x) refl
by_calls P m other c s (apply_pred x) = other (apply_pred x) refl
by_calls P m other c s (bind_var v) = other (bind_var v) refl
by_calls P m other c s (bind_ambient a) = other (bind_ambient a) refl
by_calls P m other c s close = c
by_calls P m other c s type_conflicts = other type_conflicts refl
by_calls P m other c s settle = s
by_calls P m other c s (root e) = other (root e) refl
by_calls P m other c s (root_const e) = other (root_const e) refl
by_calls P m other c s (lookup_type t ps) = other (lookup_type t ps) refl
by_calls P m other c s (ambient_parents ts) = other (ambient_parents ts) refl

-- Where it says yes, the next close is accepted and reports no change.

abbrev pub SettledUnchanged : Machine → Type 0
SettledUnchanged m = m.structure.settled ≡ true → NextUnchanged m

module _ (m : Machine) (v : ValidMachine m) where
  -- an accepted close, by its report
  close_settled : (c : Closed) → (step close m).answer ≡ closed c → SettledUnchanged (step close m).after
  unfolding leaves settled_by
  close_settled c e q =
      let told : not c.changed ≡ true = ap (λ (z : Machine). z.structure.settled) (sym (closed_step m c e).after) ∙ q in
      second_close m c v e (ap (λ (x : Closed). x.merges) (unchanged_report m c e (not-true c.changed told)))

  -- a call that runs no close leaves the flag set only where it was, and was not answered with yes
  no_close_settled : (k : Call) → reported_change (rule k m).answer ≡ none → SettledUnchanged m → SettledUnchanged (step k m).after
  unfolding acceptance reported_change
  no_close_settled k none-ran h q =
      let a = (step k m).answer in
      let none-reported = step_by_lem k m (λ (s : Step). reported_change s.answer ≡ none) (λ n r. refl) (λ clear. none-ran) in
      let kept = sym (step_flag k m v ∙ flag_none k a m.structure.settled none-reported) ∙ q in
      step_next_unchanged k m v (h (and_second (not (said_yes k a)) m.structure.settled kept))
      (not-true (said_yes k a) (and_first (not (said_yes k a)) m.structure.settled kept))

-- every call keeps it, and a refused one leaves everything
pub step_settled_unchanged : (k : Call) (m : Machine) → ValidMachine m → SettledUnchanged m → SettledUnchanged (step k m).after
step_settled_unchanged k m v h =
    by_calls (λ k. SettledUnchanged (step k m).after) m (λ k n. no_close_settled m v k n h)
    (elim (close_step_answers m v) [
      | inl r ↦ subst (λ (s : Step). SettledUnchanged s.after) (sym r.2) h
      | inr a ↦ close_settled m v a.0 a.1
    ])
    (settle_keeps m (λ z. ValidMachine z × SettledUnchanged z) (λ z c e w. (step_valid close z w.0, close_settled z w.0 c e)) (v, h)).1 k

calls_settled_unchanged : (ks : List Call) (m : Machine) → ValidMachine m → SettledUnchanged m → SettledUnchanged (after_calls ks m)
unfolding after_calls
calls_settled_unchanged [] m v h = h
calls_settled_unchanged (k ∷ ks) m v h = calls_settled_unchanged ks (step k m).after (step_valid k m v) (step_settled_unchanged k m v h)

-- "the next close then reports no change": it is accepted, with no merge, in one round and with no new fact, and so is a settle, of this one close
pub record NothingToClose (m : Machine) : Type 0 where
  pub closes : (step close m).answer ≡ closed no_change
  pub settles : (step settle m).answer ≡ summed (totals 1 0)

-- From any valid machine in which settled means that, as it does in the first one.
pub settled_closes_from : (ks : List Call) (m : Machine) → ValidMachine m → SettledUnchanged m → (after_calls ks m).structure.settled ≡ true
    → NothingToClose (after_calls ks m)
settled_closes_from ks m v h q =
    let u = calls_settled_unchanged ks m v h q in
    record { closes = u; settles = next_settles (after_calls ks m) u }

-- For every list of calls from the empty signature and structure.
pub settled_closes : (ks : List Call) → (after_calls ks start).structure.settled ≡ true → NothingToClose (after_calls ks start)
settled_closes ks = settled_closes_from ks start start_valid (unfold start empty in λ q. no_test q refl)

pub settled_closes_at : (ks : List Call) (m : Machine) → after_calls ks start ≡ m → m.structure.settled ≡ true → NothingToClose m
settled_closes_at ks m e q = subst NothingToClose e (settled_closes ks (ap (λ (z : Machine). z.structure.settled) e ∙ q))
