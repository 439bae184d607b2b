-- A settle of a valid structure: it is refused with a number of `close_numbers` or accepted, adds no element, and makes one root fewer for each
-- merge.
use mathlib.Core.Path.{◌≡◌, refl, sym, ap, subst, ◌∙◌}
use mathlib.Core.Logic.{◌⊎◌, inl, inr}
use mathlib.Core.Bool.{true}
use mathlib.Core.List.{List, [], ◌∷◌, Memᴰ}
use Prim.Native.Nat.{ℕ, ◌+◌}
use native.Mathlib.Omega.{arith}
use lib.ListN.{length}
use Rattle.semantics.specs.Structure.{Structure}
use Rattle.semantics.specs.Close.{Closed, close_run, report_of, after_close}
use Rattle.semantics.specs.Calls.{close, settle, Totals, closed, summed, refuse, is_accepted, Machine, Step, refusal, leaves, close_rule, rule, acceptance, step}
use Rattle.semantics.specs.Calls.{settle_run, merges_in, sums_of}
use Rattle.semantics.proofs.Counts.{roots}
use Rattle.semantics.proofs.Judged.{accepted_leaves}
use Rattle.semantics.proofs.Settling.{Closes, closes_leave, run_closes, run_refused, settle_by_lem, settle_closes, settle_totals}
use Rattle.validity.specs.Numbers.{close_numbers}
use Rattle.validity.proofs.Closing.{close_roots, after_els, close_step_answers}
use Rattle.validity.proofs.Calls.{ValidMachine, step_valid}

-- how many elements and how many roots a machine has

abbrev pub element_count : Machine → ℕ
element_count m = length m.structure.links

abbrev pub roots_of : Machine → ℕ
roots_of m = roots m.structure.links

-- what closes that are accepted one after the other lead to
pub record Reaches (m : Machine) (cs : List Closed) (z : Machine) : Type 0 where
  pub valid : ValidMachine z
  pub els : element_count z ≡ element_count m
  pub sum : roots_of z + merges_in cs ≡ roots_of m

-- an accepted close answers what its run reports, and leaves its effect
module _ (m : Machine) (c : Closed) (q : (step close m).answer ≡ closed c) where
  accepted_effect : step close m ≡ acceptance (rule close m)
  unfolding is_accepted
  accepted_effect = (accepted_leaves close m (ap is_accepted q)).1

  pub close_reports : c ≡ report_of (close_run m.sig m.structure)
  unfolding rule close_rule acceptance
  close_reports = let e = sym q ∙ ap (λ (s : Step). s.answer) accepted_effect in cc

  -- with the flags that the call leaves
  pub close_leaves : (step close m).after.structure ≡ leaves true (closed c) (after_close (close_run m.sig m.structure) m.structure)
  unfolding rule close_rule acceptance
  close_leaves =
      ap (λ (s : Step). s.after.structure) accepted_effect
      ∙ ap (λ (x : Closed). leaves true (closed x) (after_close (close_run m.sig m.structure) m.structure)) (sym close_reports)

  links : (step close m).after.structure.links ≡ (after_close (close_run m.sig m.structure) m.structure).links
  unfolding leaves
  links = ap (λ (s : Structure). s.links) close_leaves

  module _ (v : ValidMachine m) where
    pub close_step_els : element_count (step close m).after ≡ element_count m
    close_step_els = ap length links ∙ after_els m.sig m.structure v

    pub close_step_roots : roots_of (step close m).after + c.merges ≡ roots_of m
    close_step_roots = omega (arith, ap roots links, ap (λ (x : Closed). x.merges) close_reports, close_roots m.sig m.structure v)

pub closes_reach : (cs : List Closed) (m z : Machine) → ValidMachine m → Closes m cs z → Reaches m cs z
unfolding merges_in
closes_reach [] m z v h = subst (Reaches m []) h (record { valid = v; els = refl; sum = omega arith })
closes_reach (c ∷ cs) m z v h =
    let n = (step close m).after in
    let r = closes_reach cs n z (step_valid close m v) h.1 in
    record {
      valid = r.valid;
      els = r.els ∙ close_step_els m c h.0 v;
      sum = omega (arith, r.sum, close_step_roots m c h.0 v);
    }

module _ (m : Machine) (v : ValidMachine m) where
  abbrev reports : List Closed
  reports = (settle_run m.sig m.structure).reports

  reached : Reaches m reports (closes_leave m)
  reached = closes_reach reports m (closes_leave m) v (run_closes m)

  -- a settle adds no element
  pub settle_els : element_count (step settle m).after ≡ element_count m
  settle_els = settle_by_lem m (λ s. element_count s.after ≡ element_count m) (λ e. reached.els) (λ n e. refl)

  -- an accepted one makes one root fewer for each merge
  pub settle_roots : (t : Totals) → (step settle m).answer ≡ summed t → roots_of (step settle m).after + t.merges ≡ roots_of m
  unfolding sums_of
  settle_roots t q =
      let r = closes_reach reports m (step settle m).after v (settle_closes m t q) in
      omega (arith, r.sum, ap (λ (x : Totals). x.merges) (settle_totals m t q))

  -- the number that refuses a settle refuses a close
  listed : (n : ℕ) → (step close (closes_leave m)).answer ≡ refuse n → Memᴰ n close_numbers
  listed n q = elim (close_step_answers (closes_leave m) reached.valid) [
    | inl r ↦
        let e = sym (ap (λ (s : Step). s.answer) r.2) ∙ q in
        let same : r.0 ≡ n = cc in
        subst (λ (k : ℕ). Memᴰ k close_numbers) same r.1
    | inr a ↦
        let e = sym a.1 ∙ q in
        let z : ◌≡◌ {A = ℕ} 0 1 = cc in
        absurd (omega arith)
  ]

  -- a settle is refused with a number that refuses a close, and everything as it was, or accepted
  pub settle_step_answers : ((n : ℕ) × Memᴰ n close_numbers × (step settle m ≡ refusal m n)) ⊎ ((t : Totals) × ((step settle m).answer ≡ summed t))
  settle_step_answers =
      settle_by_lem m (λ s. ((n : ℕ) × Memᴰ n close_numbers × (s ≡ refusal m n)) ⊎ ((t : Totals) × (s.answer ≡ summed t)))
      (λ e. inr (sums_of reports, refl)) (λ n e. inl (n, listed n (run_refused m n e), refl))
