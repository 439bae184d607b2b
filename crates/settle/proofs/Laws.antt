-- The closes of a settle one after the other, as the code runs them.
use Prim.Native.Nat.{ℕ, suc, ◌+◌, ◌*◌, ◌-◌, ◌^◌, ◌≤◌, ◌<◌}
use mathlib.Core.Path.{◌≡◌, refl, sym, ap, ◌∙◌}
use mathlib.Core.Bool.{Bool, true, false}
use mathlib.Core.List.{List, [], ◌∷◌, ◌++◌, append-nil, append_assoc}
use mathlib.Core.Option.{Option, none, some}
use native.Mathlib.Omega.{arith}
use lib.ListN.{length, length-append}
use Rattle.ids.specs.Judge.{verdict_of}
use Rattle.ids.specs.Answers.{Outcome, outcome, refusing, accepting}
use Rattle.ids.proofs.Judging.{decided_refuses, decided_accepts}
use Rattle.unification.specs.Roots.{max_els}
use Rattle.signature.specs.Model.{Sig}
use Rattle.semantics.specs.Structure.{Structure}
use Rattle.semantics.specs.Close.{Closed, close_run, close_by, report_of, after_close, met_causes, close, fuel}
use Rattle.semantics.specs.Calls as calls
use Rattle.semantics.specs.Calls.{Totals, totals, summed, closed, Answer, machine, Step, answers, leaves, SettleRun, as_settle_run, reported_first, settle_after}
use Rattle.semantics.specs.Calls.{settle_by, settle_from, settle_run, merges_in, sums_of, rule, close_rule, settle_rule, acceptance, refusal, step}
use Rattle.semantics.proofs.Judged.{close_first, met_refuses, met_accepts}
use Rattle.structure.specs.declared.Answer as code
use Rattle.structure.specs.declared.Closed as reports
use Rattle.structure.specs.declared.Answer.TheVariants as variants
use Rattle.structure.specs.View.{structure_of, totals_of, answer_of}
use Rattle.rounds.specs.View.{one_close}
use Rattle.settle.specs.declared.SettleRun as declared
use Rattle.settle.specs.View.{refused_by, SettleRunIs}

-- closes that answered cs, before others
abbrev reported : List Closed → SettleRun → SettleRun
reported cs r = as_settle_run (cs ++ r.reports) r.met r.after

-- before none
alone : (cs : List Closed) (o : Option ℕ) (s : Structure) → as_settle_run cs o s ≡ reported cs (as_settle_run [] o s)
alone cs o s = ap (λ (ds : List Closed). as_settle_run ds o s) (sym (append-nil cs))

merges_last : (cs : List Closed) (c : Closed) → merges_in (cs ++ (c ∷ [])) ≡ merges_in cs + c.merges
unfolding merges_in
merges_last [] c = omega arith
merges_last (d ∷ ds) c = omega (arith, merges_last ds c)

totals_last : (cs : List Closed) (c : Closed) {t : Totals} → t ≡ sums_of cs → totals (t.closes + 1) (t.merges + c.merges) ≡ sums_of (cs ++ (c ∷ []))
unfolding sums_of
totals_last cs c e =
    let closes : length cs + 1 ≡ length (cs ++ (c ∷ [])) = omega (arith, length-append cs (c ∷ [])) in
    ap (λ (x : Totals). totals (x.closes + 1) (x.merges + c.merges)) e
    ∙ (λ i. totals (closes i) (sym (merges_last cs c) i))

-- one close more can be counted
pub sums_fit : {i closes merges m : ℕ} → i ≤ max_els → closes ≡ i → merges ≤ i * one_close → m ≤ one_close → (closes + 1 < 2 ^ 64) × (merges + m < 2 ^ 64)
unfolding fuel
sums_fit l e p q = (omega arith, omega arith)

-- What a close's answer tells, by its contract: v is the structure that it leaves.

never : {A : Type 0} → ◌≡◌ {A = ℕ} 0 1 → A
never e = absurd (omega arith)

-- the answer, where the close met o
abbrev answered : Sig → Structure → Option ℕ → Answer
answered g s none = closed (report_of (close_run g s))
answered g s (some n) = calls.refuse n

module _ (g : Sig) (s : Structure) {v : Structure} {x : Answer} (stepped : answers x (machine g v) ≡ step calls.close (machine g s)) where
  answer_is : (o : Option ℕ) → (close_run g s).core.met ≡ o → x ≡ answered g s o
  unfolding rule close_rule acceptance
  answer_is none e = ap (λ (y : Step). y.answer) (stepped ∙ met_accepts calls.close (machine g s) (close_run g s).core.met refl e)
  answer_is (some n) e = ap (λ (y : Step). y.answer) (stepped ∙ met_refuses calls.close (machine g s) (close_run g s).core.met refl n e)

  -- a report
  pub report_told : {c : Closed} → x ≡ closed c → ((close_run g s).core.met ≡ none) × (c ≡ report_of (close_run g s))
  report_told {c} e = go (close_run g s).core.met refl
    where
      go : (o : Option ℕ) → (close_run g s).core.met ≡ o → ((close_run g s).core.met ≡ none) × (c ≡ report_of (close_run g s))
      go none p = let q : closed c ≡ closed (report_of (close_run g s)) = sym e ∙ answer_is none p in (p, cc q)
      go (some n) p = let q : closed c ≡ calls.refuse n = sym e ∙ answer_is (some n) p in never (cc q)

-- an answer that is no close's
abbrev NotClosed : code.Answer → Type 0
NotClosed a = (x : reports.Closed) → a ≡ variants.Closed x → ⊥

module _ (g : Sig) where
  -- some closes answered `reports` and left s; with those to come they are the whole settle, which runs at most so many
  pub record Going (whole : SettleRun) (most : ℕ) (s : Structure) (again : Bool) (t : Totals) (i : ℕ) : Type 0 where
    pub reports : List Closed
    pub totals_are : t ≡ sums_of reports
    pub closes_are : t.closes ≡ i
    pub few : i ≤ most
    pub more : again ≡ true → (k : ℕ) → k + i ≡ most → reported reports (settle_from k g s) ≡ whole
    pub stops : again ≡ false → as_settle_run reports none s ≡ whole

  pub begins : (s : Structure) → Going (settle_run g s) (suc (length s.links)) s true (totals 0 0) 0
  unfolding settle_run sums_of merges_in
  begins s = record {
    reports = [];
    totals_are = refl;
    closes_are = refl;
    few = omega arith;
    more = λ e k q. let same : k ≡ suc (length s.links) = omega arith in ap (λ (n : ℕ). settle_from n g s) same;
    stops = λ e. let z : ◌≡◌ {A = ℕ} 0 1 = cc e in absurd (omega arith);
  }

  module _ {whole : SettleRun} {most : ℕ} {s : Structure} {again : Bool} {t : Totals} {i : ℕ} (so_far : Going whole most s again t i) where
    -- none is to come
    pub ends : most ≤ i → as_settle_run so_far.reports none s ≡ whole
    unfolding settle_from
    ends l = go again refl
      where
        go : (b : Bool) → again ≡ b → as_settle_run so_far.reports none s ≡ whole
        go true e = alone so_far.reports none s ∙ so_far.more e 0 (omega (arith, so_far.few))
        go false e = so_far.stops e

    module _ (h : again ≡ true) (l : i < most) where
      -- with one more close
      next : (k : ℕ) → suc k + i ≡ most → reported so_far.reports (settle_by (close g s) (settle_from k g)) ≡ whole
      unfolding settle_from
      next k q = so_far.more h (suc k) q

      -- it is refused
      refused_by_lem : (n : ℕ) → (close_run g s).core.met ≡ some n → as_settle_run so_far.reports (some n) s ≡ whole
      unfolding close close_by outcome settle_by settle_after
      refused_by_lem n e =
          let r = close_run g s in
          let k = most - suc i in
          alone so_far.reports (some n) s
          ∙ sym (ap (λ (o : Outcome Closed Structure). reported so_far.reports (settle_by o (settle_from k g)))
          (decided_refuses (refusing s) (accepting (report_of r) (after_close r s)) (close_first r ∙ e)))
          ∙ next k (omega arith)

      -- it gave no report
      pub refused_told : (a : code.Answer) {v : Structure} → answers (answer_of [] a) (machine g v) ≡ step calls.close (machine g s)
          → NotClosed a → as_settle_run so_far.reports (refused_by a) s ≡ whole
      refused_told a stepped k = go a k (close_run g s).core.met refl (answer_is g s stepped (close_run g s).core.met refl)
        where
          go : (b : code.Answer) → NotClosed b → (o : Option ℕ) → (close_run g s).core.met ≡ o → answer_of [] b ≡ answered g s o
              → as_settle_run so_far.reports (refused_by b) s ≡ whole
          go (variants.Number n) k none p e = never (cc e)
          go (variants.Number n) k (some m) p e = never (cc e)
          go (variants.Says b) k none p e = never (cc e)
          go (variants.Says b) k (some m) p e = never (cc e)
          go variants.Done k none p e = never (cc e)
          go variants.Done k (some m) p e = never (cc e)
          go (variants.Closed c) k o p e = absurd (k c refl)
          go (variants.Conflicting n) k none p e = never (cc e)
          go (variants.Conflicting n) k (some m) p e = never (cc e)
          go (variants.Summed t) k none p e = never (cc e)
          go (variants.Summed t) k (some m) p e = never (cc e)
          go (variants.Refused n) k none p e = never (cc e)
          go (variants.Refused n) k (some m) p e = let q : ◌≡◌ {A = Option ℕ} (some m) (some n) = cc e in refused_by_lem n (p ∙ q)

      module _ (met : (close_run g s).core.met ≡ none) {c : Closed} {x : Answer} {v : Structure} (answered : c ≡ report_of (close_run g s))
          (stepped : answers x (machine g v) ≡ step calls.close (machine g s)) where
        effect_is : v ≡ leaves true (closed c) (after_close (close_run g s) s)
        unfolding rule close_rule acceptance
        effect_is =
            ap (λ (y : Step). y.after.structure) (stepped ∙ met_accepts calls.close (machine g s) (close_run g s).core.met refl met)
            ∙ ap (λ (d : Closed). leaves true (closed d) (after_close (close_run g s) s)) (sym answered)

        -- what follows a close that left x, whether it reported a change
        abbrev then : ℕ → Bool → Structure → SettleRun
        then k b x = elim b [ true ↦ settle_from k g x | false ↦ as_settle_run [] none x ]

        accepted_by : (k : ℕ) → settle_by (close g s) (settle_from k g) ≡ reported_first c (then k c.changed v)
        unfolding close close_by outcome settle_by settle_after
        accepted_by k =
            let r = close_run g s in
            ap (λ (o : Outcome Closed Structure). settle_by o (settle_from k g))
            (decided_accepts (refusing s) (accepting (report_of r) (after_close r s)) (close_first r ∙ met))
            ∙ ap (λ (d : Closed). reported_first d (then k d.changed (leaves true (closed d) (after_close r s)))) (sym answered)
            ∙ ap (λ (x : Structure). reported_first c (then k c.changed x)) (sym effect_is)

        abbrev now : List Closed
        now = so_far.reports ++ (c ∷ [])

        on : (k : ℕ) {b : Bool} → c.changed ≡ b → suc k + i ≡ most → reported now (then k b v) ≡ whole
        unfolding reported_first
        on k {b} e q =
            ap (λ (cs : List Closed). as_settle_run cs (then k b v).met (then k b v).after) (append_assoc so_far.reports (c ∷ []) (then k b v).reports)
            ∙ sym (ap (λ (x : Bool). reported so_far.reports (reported_first c (then k x v))) e)
            ∙ sym (ap (reported so_far.reports) (accepted_by k))
            ∙ next k q

        -- it is accepted
        pub takes : {u : Totals} {b : Bool} → u ≡ totals (t.closes + 1) (t.merges + c.merges) → b ≡ c.changed → Going whole most v b u (i + 1)
        takes counted changed = record {
          reports = now;
          totals_are = counted ∙ totals_last so_far.reports c so_far.totals_are;
          closes_are = ap (λ (x : Totals). x.closes) counted ∙ ap (λ (n : ℕ). n + 1) so_far.closes_are;
          few = omega arith;
          more = λ e k q. on k (sym changed ∙ e) (omega arith);
          stops = λ e. alone now none v ∙ on (most - suc i) (sym changed ∙ e) (omega arith);
        }

-- what the code's run is
pub run_is : (g : Sig) (s : Structure) (r : declared.SettleRun) {cs : List Closed} {o : Option ℕ} → as_settle_run cs o (structure_of r.structure) ≡ settle_run g s
    → verdict_of r.verdict ≡ o → totals_of r.totals ≡ sums_of cs → SettleRunIs g s r
run_is g s r e met counted = record {
  met = met ∙ ap (λ (x : SettleRun). x.met) e;
  totals = counted ∙ ap (λ (x : SettleRun). sums_of x.reports) e;
  after = ap (λ (x : SettleRun). x.after) e;
}

-- The call.
module _ (g : Sig) (s : Structure) where
  abbrev run : SettleRun
  run = settle_run g s

  only_met : (rule calls.settle (machine g s)).causes ≡ met_causes run.met
  unfolding rule settle_rule
  only_met = refl

  -- a close is refused
  pub refuses : {n : ℕ} → run.met ≡ some n → refusal (machine g s) n ≡ step calls.settle (machine g s)
  refuses e = sym (met_refuses calls.settle (machine g s) run.met only_met _ e)

  -- none is
  pub accepts : run.met ≡ none → {t : Totals} {v : Structure} → t ≡ sums_of run.reports → v ≡ run.after
      → answers (summed t) (machine g (leaves true (summed t) v)) ≡ step calls.settle (machine g s)
  unfolding rule acceptance settle_rule
  accepts e p q =
      (λ i. answers (summed (p i)) (machine g (leaves true (summed (p i)) (q i))))
      ∙ sym (met_accepts calls.settle (machine g s) run.met only_met e)
