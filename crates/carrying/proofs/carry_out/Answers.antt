-- `carry_out` meets its contract.
use mathlib.Core.Path.{◌≡◌, ap, ◌∙◌}
use mathlib.Core.Option.{Option}
use Prim.Native.Nat.{ℕ}
use native.Mathlib.Omega.{arith}
use Rattle.ids.proofs.Tests.{told}
use Rattle.semantics.specs.Sheet.{Form, forms, form_of, close_form, conflicts_form, settle_form, call_of, carry_out}
use Rattle.records.specs.View.{record_view}
use Rattle.structure.specs.View.{machine_of}
use Rattle.carrying.specs.View.{CarriedM, with_conflicts, form_step}
use Rattle.carrying.proofs.Laws.{of_kind, fitting, unfitting, formless}
use Rattle.carrying.proofs.carry_out.Goals as goal
use Rattle.carrying.proofs.carry_out.Goals.{Else-not-fits}

pub returns-then-not-fits : goal.returns-then-not-fits
unfolding call_of carry_out
returns-then-not-fits c =
    let a = c.args in
    let not = told c.fits.ensures c.if-not-fits.true in
    c.answered.ensures ∙ ap with_conflicts (unfitting (record_view a.given) (machine_of a.machine) (form_of a.given.kind) not)

-- a record that fits is carried out by the call of its form
carries : (c : Else-not-fits) {s : CarriedM} → let a = c.args in
    s ≡ with_conflicts (form_step (form_of a.given.kind) (record_view a.given) (machine_of a.machine))
    → s ≡ with_conflicts (carry_out (call_of (record_view a.given)) (machine_of a.machine))
unfolding call_of
carries c e =
    let a = c.args in
    let fits = told c.fits.ensures c.if-not-fits.false in
    e ∙ ap with_conflicts (fitting (record_view a.given) (machine_of a.machine) (form_of a.given.kind) fits)

-- one of the kind k is carried out by the call of the kind's form
carries_kind : (c : Else-not-fits) {k : ℕ} {s : CarriedM} → let a = c.args in
    a.given.kind ≡ k → s ≡ with_conflicts (form_step (form_of k) (record_view a.given) (machine_of a.machine))
    → s ≡ with_conflicts (carry_out (call_of (record_view a.given)) (machine_of a.machine))
carries_kind c e s = let a = c.args in carries c (s ∙ ap with_conflicts (of_kind (record_view a.given) (machine_of a.machine) e))

pub returns-in-1 : goal.returns-in-1
unfolding forms form_of form_step
returns-in-1 c = carries_kind (goal.at.returns-in-1 c).Else-not-fits c.in-1.is c.push_type.ensures

pub returns-in-2 : goal.returns-in-2
unfolding forms form_of form_step
returns-in-2 c = carries_kind (goal.at.returns-in-2 c).Else-not-fits c.in-2.is c.push_pred.ensures

pub returns-in-3 : goal.returns-in-3
unfolding forms form_of form_step
returns-in-3 c = carries_kind (goal.at.returns-in-3 c).Else-not-fits c.in-3.is c.push_func.ensures

pub returns-in-4 : goal.returns-in-4
unfolding forms form_of form_step
returns-in-4 c = carries_kind (goal.at.returns-in-4 c).Else-not-fits c.in-4.is c.push_model.ensures

pub returns-in-5 : goal.returns-in-5
unfolding forms form_of form_step
returns-in-5 c = carries_kind (goal.at.returns-in-5 c).Else-not-fits c.in-5.is c.push_mor_app_func.ensures

pub returns-in-6 : goal.returns-in-6
unfolding forms form_of form_step
returns-in-6 c = carries_kind (goal.at.returns-in-6 c).Else-not-fits c.in-6.is c.push_el.ensures

pub returns-in-7 : goal.returns-in-7
unfolding forms form_of form_step
returns-in-7 c = carries_kind (goal.at.returns-in-7 c).Else-not-fits c.in-7.is c.equate.ensures

pub returns-in-8 : goal.returns-in-8
unfolding forms form_of form_step
returns-in-8 c = carries_kind (goal.at.returns-in-8 c).Else-not-fits c.in-8.is c.impose_type.ensures

pub returns-in-9 : goal.returns-in-9
unfolding forms form_of form_step
returns-in-9 c = carries_kind (goal.at.returns-in-9 c).Else-not-fits c.in-9.is c.apply_func.ensures

pub returns-in-10 : goal.returns-in-10
unfolding forms form_of form_step
returns-in-10 c = carries_kind (goal.at.returns-in-10 c).Else-not-fits c.in-10.is c.apply_pred.ensures

pub returns-in-11 : goal.returns-in-11
unfolding forms form_of form_step
returns-in-11 c = carries_kind (goal.at.returns-in-11 c).Else-not-fits c.in-11.is c.bind_var.ensures

pub returns-in-12 : goal.returns-in-12
unfolding forms form_of form_step
returns-in-12 c = carries_kind (goal.at.returns-in-12 c).Else-not-fits c.in-12.is c.bind_ambient.ensures

pub returns-in-13 : goal.returns-in-13
unfolding forms form_of form_step close_form
returns-in-13 c = carries_kind (goal.at.returns-in-13 c).Else-not-fits c.in-13.is c.run_close.ensures

pub returns-in-14 : goal.returns-in-14
unfolding forms form_of form_step conflicts_form
returns-in-14 c = carries_kind (goal.at.returns-in-14 c).Else-not-fits c.in-14.is c.find_conflicts.ensures

pub returns-in-15 : goal.returns-in-15
unfolding forms form_of form_step settle_form
returns-in-15 c = carries_kind (goal.at.returns-in-15 c).Else-not-fits c.in-15.is c.run_settle.ensures

pub returns-in_default : goal.returns-in_default
unfolding form_step carry_out
returns-in_default c =
    let a = c.args in
    let none_of = formless a.given.kind (λ low high. absurd (omega (arith, low, high))) in
    carries (goal.at.returns-in_default c).Else-not-fits
    (c.answered-in_default.ensures ∙ ap (λ (o : Option Form). with_conflicts (form_step o (record_view a.given) (machine_of a.machine))) none_of)
