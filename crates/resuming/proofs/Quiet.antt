-- A record that declares prints nothing, unless it is refused.
use Prim.Native.Nat.{ℕ, ◌≤◌, ◌<◌}
use mathlib.Core.Path.{◌≡◌, refl, sym, subst}
use mathlib.Core.Bool.{Bool, true, false}
use mathlib.Core.Option.{none, some}
use native.Mathlib.Omega.{arith}
use lib.Dec.{eqb, leb, ltb}
use borrow.Author.Tests.{eqb-true, eqb-false, ltb-true, leb-true}
use Rattle.semantics.specs.Calls.{Call, Answer, number, says, done, closed, conflicting, summed, found, typed, els, refuse, Machine, Step, rule, acceptance, step}
use Rattle.semantics.specs.Sheet.{Record, Form, forms, form_of, fits, call_in, call_of, carry_out, type_form, pred_form, func_form, model_form, mor_app_form}
use Rattle.semantics.proofs.Judged.{step_by_lem}
use Rattle.semantics.proofs.Cases.{and_first, and_second}
use Rattle.resuming.specs.Resuming.{declares}

-- an answer that prints no line but that of a refusal
unfoldable pub Quiet : Answer → Type 0
Quiet (number n) = Unit {0}
Quiet (says b) = Unit {0}
Quiet done = Unit {0}
Quiet (closed c) = ⊥
Quiet (conflicting cs n) = ⊥
Quiet (summed t) = ⊥
Quiet (found f) = Unit {0}
Quiet (typed t) = Unit {0}
Quiet (els es) = Unit {0}
Quiet (refuse n) = Unit {0}

-- the kinds 1 to 5
among : (k : ℕ) → declares k ≡ true → (0 < k) × (k ≤ 5)
unfolding declares
among k h = (ltb-true 0 k (and_first (ltb 0 k) (leb k 5) h), leb-true k 5 (and_second (ltb 0 k) (leb k 5) h))

module _ (r : Record) (m : Machine) where
  accepted_quiet : (k : Call) → Quiet (rule k m).answer → Quiet (step k m).answer
  unfolding Quiet acceptance
  accepted_quiet k h = step_by_lem k m (λ (s : Step). Quiet s.answer) (λ n q. tt) (λ clear. h)

  -- a record of a form whose call is quiet
  form_quiet : (f : Form) → Quiet (rule (f.call r) m).answer → Quiet (carry_out (call_in (some f) r) m).answer
  unfolding call_in carry_out Quiet
  form_quiet f h = go (fits f r) where
    go : (t : Bool) → Quiet (carry_out (elim t [ true ↦ some (f.call r) | false ↦ none ]) m).answer
    go true = accepted_quiet (f.call r) h
    go false = tt

  kind_quiet : (k j : ℕ) → k ≡ j → Quiet (carry_out (call_in (form_of j) r) m).answer → Quiet (carry_out (call_in (form_of k) r) m).answer
  kind_quiet k j e h = subst (λ (x : ℕ). Quiet (carry_out (call_in (form_of x) r) m).answer) (sym e) h

  -- another kind, or this one
  one_of : (k j : ℕ) {P : Type 0} → (k ≡ j → P) → ((k ≡ j → ⊥) → P) → P
  one_of k j {P} this other = go (eqb k j) refl where
    go : (t : Bool) → eqb k j ≡ t → P
    go true e = this (eqb-true k j e)
    go false e = other (eqb-false k j e)

  pub declaring_quiet : declares r.kind ≡ true → Quiet (carry_out (call_of r) m).answer
  unfolding call_of form_of forms type_form pred_form func_form model_form mor_app_form rule Quiet
  declaring_quiet h =
      let k = r.kind in
      let within = among k h in
      one_of k 1 (λ e. kind_quiet k 1 e (form_quiet type_form tt)) (λ n1.
      let two : 1 < k = omega (arith, within.0, n1) in
      one_of k 2 (λ e. kind_quiet k 2 e (form_quiet pred_form tt)) (λ n2.
      let three : 2 < k = omega (arith, two, n2) in
      one_of k 3 (λ e. kind_quiet k 3 e (form_quiet func_form tt)) (λ n3.
      let four : 3 < k = omega (arith, three, n3) in
      one_of k 4 (λ e. kind_quiet k 4 e (form_quiet model_form tt)) (λ n4.
      let fifth : k ≡ 5 = omega (arith, four, n4, within.1) in
      kind_quiet k 5 fifth (form_quiet mor_app_form tt)))))
