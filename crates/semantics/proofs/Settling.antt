-- A settle is its closes (02, M-100: "repeats close until one reports no change"), for every machine, valid or not.
use mathlib.Core.Path.{◌≡◌, refl, sym, ap, subst, ◌∙◌}
use mathlib.Core.Bool.{Bool, true, false}
use mathlib.Core.List.{List, [], ◌∷◌}
use mathlib.Core.Option.{Option, none, some}
use Prim.Native.Nat.{ℕ, zero, suc, ◌≤◌}
use native.Mathlib.Omega.{arith}
use lib.ListN.{length, replicate}
use Rattle.ids.specs.Answers.{Answered, accepted, refused, Outcome}
use Rattle.ids.proofs.Judging.{refused_after}
use Rattle.signature.specs.Model.{Sig}
use Rattle.semantics.specs.Structure.{Structure, with_flags}
use Rattle.semantics.specs.Close as closing
use Rattle.semantics.specs.Close.{Closed, close_run, met_causes, close_causes, close_by, report_of, after_close}
use Rattle.semantics.specs.Calls.{close, settle, Totals, closed, summed, refuse, is_accepted, Machine, machine, Step, answers, settled_by, leaves}
use Rattle.semantics.specs.Calls.{SettleRun, as_settle_run, reported_first, settle_after, settle_by, settle_from, settle_run, sums_of, close_rule, settle_rule}
use Rattle.semantics.specs.Calls.{rule, acceptance, refusal, step, after_calls}
use Rattle.semantics.proofs.Cases.{none_some}
use Rattle.semantics.proofs.Judged.{accepted_leaves, met_refuses, met_accepts, closed_answer, close_steps}

-- Closes one after the other.

-- each is accepted, from m to z, with these answers
abbrev pub Closes : Machine → List Closed → Machine → Type 0
Closes m [] z = m ≡ z
Closes m (c ∷ cs) z = ((step close m).answer ≡ closed c) × Closes (step close m).after cs z

-- what each accepted close keeps
pub closes_keep {ℓ} : (P : Machine → Type ℓ) → ((m : Machine) (c : Closed) → (step close m).answer ≡ closed c → P m → P (step close m).after)
    → (cs : List Closed) (m z : Machine) → Closes m cs z → P m → P z
closes_keep P keeps [] m z h p = subst P h p
closes_keep P keeps (c ∷ cs) m z h p = closes_keep P keeps cs (step close m).after z h.1 (keeps m c h.0 p)

-- as calls of a list
pub closes_after : (cs : List Closed) (m z : Machine) → Closes m cs z → z ≡ after_calls (replicate (length cs) close) m
unfolding after_calls
closes_after [] m z h = sym h
closes_after (c ∷ cs) m z h = closes_after cs (step close m).after z h.1

-- after an accepted close the flag for number 4 is set
close_starts : (m : Machine) (c : Closed) → (step close m).answer ≡ closed c → (step close m).after.structure.started ≡ true
unfolding is_accepted rule close_rule acceptance leaves
close_starts m c e = ap (λ (s : Step). s.after.structure.started) (accepted_leaves close m (ap is_accepted e)).1

-- A settle's run.

-- every close but the last reported a change
abbrev pub ChangedUntilLast : List Closed → Type 0
ChangedUntilLast [] = Unit {0}
ChangedUntilLast (c ∷ []) = Unit {0}
ChangedUntilLast (c ∷ d ∷ cs) = (c.changed ≡ true) × ChangedUntilLast (d ∷ cs)

until_more : (c : Closed) (cs : List Closed) → c.changed ≡ true → ChangedUntilLast cs → ChangedUntilLast (c ∷ cs)
until_more c [] e u = tt
until_more c (d ∷ cs) e u = (e, u)

-- what a run that begins at m comes to
record ComesTo (m : Machine) (r : SettleRun) : Type 0 where
  closes : Closes m r.reports (machine m.sig r.after)
  until : ChangedUntilLast r.reports
  -- the number that it met refuses the next close
  refused : (n : ℕ) → r.met ≡ some n → (step close (machine m.sig r.after)).answer ≡ refuse n

not_summed : {n : ℕ} {t : Totals} {X : Type 0} → refuse n ≡ summed t → X
not_summed e = let z : ◌≡◌ {A = ℕ} 0 1 = cc in absurd (omega arith)

-- no close ran
ran_none : (m : Machine) → ComesTo m (as_settle_run [] none m.structure)
ran_none m = record { closes = refl; until = tt; refused = λ n e. none_some e }

module _ (m : Machine) where
  -- the close of the structure
  abbrev o : Outcome Closed Structure
  o = closing.close m.sig m.structure

  pub close_refused : (n : ℕ) → o.answer ≡ refused n → step close m ≡ refusal m n
  unfolding closed_answer
  close_refused n e = sym (close_steps m) ∙ ap (closed_answer m o.after) e

  -- what an accepted close leaves
  abbrev closed_to : Closed → Machine
  closed_to c = machine m.sig (leaves true (closed c) o.after)

  pub close_accepted : (c : Closed) → o.answer ≡ accepted c → step close m ≡ answers (closed c) (closed_to c)
  unfolding closed_answer
  close_accepted c e = sym (close_steps m) ∙ ap (closed_answer m o.after) e

  refused_left : (n : ℕ) → o.answer ≡ refused n → o.after ≡ m.structure
  unfolding closing.close close_by
  refused_left n e =
      let r = close_run m.sig m.structure in
      refused_after m.structure (after_close r m.structure) (report_of r) (close_causes r) n e

  ran_refused : (n : ℕ) → o.answer ≡ refused n → ComesTo m (as_settle_run [] (some n) o.after)
  ran_refused n e = subst (λ (s : Structure). ComesTo m (as_settle_run [] (some n) s)) (sym (refused_left n e)) (record {
    closes = refl;
    until = tt;
    refused = λ k q. (let same : n ≡ k = cc in ap (λ (s : Step). s.answer) (close_refused n e) ∙ ap refuse same);
  })

  ran_first : (c : Closed) (r : SettleRun) → o.answer ≡ accepted c → ComesTo (closed_to c) r → ChangedUntilLast (c ∷ r.reports) → ComesTo m (reported_first c r)
  unfolding reported_first
  ran_first c r e h u = record {
    closes = (
      ap (λ (s : Step). s.answer) (close_accepted c e),
      subst (λ (x : Machine). Closes x r.reports (machine m.sig r.after)) (sym (ap (λ (s : Step). s.after) (close_accepted c e))) h.closes,
    );
    until = u;
    refused = h.refused;
  }

  ran_by : (k : ℕ) → ((z : Machine) → ComesTo z (settle_from k z.sig z.structure)) → ComesTo m (settle_by o (settle_from k m.sig))
  unfolding settle_by settle_after
  ran_by k rest = go o.answer refl
    where
      after : (c : Closed) → o.answer ≡ accepted c → (b : Bool) → c.changed ≡ b
          → ComesTo m (reported_first c (elim b [ true ↦ settle_from k m.sig (closed_to c).structure | false ↦ as_settle_run [] none (closed_to c).structure ]))
      after c e true q =
          let r = settle_from k m.sig (closed_to c).structure in
          ran_first c r e (rest (closed_to c)) (until_more c r.reports q (rest (closed_to c)).until)
      after c e false q = ran_first c _ e (ran_none (closed_to c)) tt

      go : (a : Answered Closed) → o.answer ≡ a → ComesTo m (settle_after a o.after (settle_from k m.sig))
      go (refused n) e = ran_refused n e
      go (accepted c) e = after c e c.changed refl

settle_ran : (k : ℕ) (m : Machine) → ComesTo m (settle_from k m.sig m.structure)
unfolding settle_from
settle_ran zero m = ran_none m
settle_ran (suc k) m = ran_by m k (settle_ran k)

-- one close, and then at most k
few_after : (k : ℕ) (rest : Structure → SettleRun) → ((t : Structure) → length (rest t).reports ≤ k) → (a : Answered Closed) (t : Structure)
    → length (settle_after a t rest).reports ≤ suc k
unfolding settle_after reported_first
few_after k rest h (refused n) t = omega arith
few_after k rest h (accepted c) t = go c.changed
  where
    go : (b : Bool)
        → length (reported_first c (elim b [
          | true ↦ rest (leaves true (closed c) t)
          | false ↦ as_settle_run [] none (leaves true (closed c) t)
        ])).reports ≤ suc k
    go true = omega (arith, h (leaves true (closed c) t))
    go false = omega arith

-- the closes are at most as many as the bound says
from_few : (k : ℕ) (g : Sig) (s : Structure) → length (settle_from k g s).reports ≤ k
unfolding settle_from settle_by
from_few zero g s = omega arith
from_few (suc k) g s = few_after k (settle_from k g) (from_few k g) (closing.close g s).answer (closing.close g s).after

pub settle_few : (g : Sig) (s : Structure) → length (settle_run g s).reports ≤ suc (length s.links)
unfolding settle_run
settle_few g s = from_few (suc (length s.links)) g s

module _ (m : Machine) where
  -- the settle of the structure
  abbrev run : SettleRun
  run = settle_run m.sig m.structure

  -- what its closes leave, a refused last one left out
  abbrev pub closes_leave : Machine
  closes_leave = machine m.sig run.after

  run_ran : ComesTo m run
  unfolding settle_run
  run_ran = settle_ran _ m

  pub run_closes : Closes m run.reports closes_leave
  run_closes = run_ran.closes

  -- "repeats close until one reports no change": none follows that one
  pub run_until : ChangedUntilLast run.reports
  run_until = run_ran.until

  pub run_refused : (n : ℕ) → run.met ≡ some n → (step close closes_leave).answer ≡ refuse n
  run_refused = run_ran.refused

  -- what each accepted close keeps, the closes of a settle keep, also of one that is refused
  pub run_keeps {ℓ} : (P : Machine → Type ℓ) → ((z : Machine) (c : Closed) → (step close z).answer ≡ closed c → P z → P (step close z).after)
      → P m → P closes_leave
  run_keeps P keeps = closes_keep P keeps run.reports m closes_leave run_closes

  -- The call.

  only_met : (rule settle m).causes ≡ met_causes run.met
  unfolding rule settle_rule
  only_met = refl

  -- where no number is met there is a first close: the bound is above zero
  some_close : run.met ≡ none → (c : Closed) × (cs : List Closed) × (run.reports ≡ c ∷ cs)
  unfolding settle_run settle_from settle_by
  some_close = go (o m).answer
    where
      go : (a : Answered Closed) → (settle_after a (o m).after (settle_from (length m.structure.links) m.sig)).met ≡ none
          → (c : Closed) × (cs : List Closed) × ((settle_after a (o m).after (settle_from (length m.structure.links) m.sig)).reports ≡ c ∷ cs)
      go (refused n) e = (unfold settle_after in none_some (sym e))
      go (accepted c) e = (unfold settle_after reported_first in (c, _, refl))

  -- the flags are then those of the last close
  started : run.met ≡ none → run.after.started ≡ true
  started e =
      let f = some_close e in
      let h : Closes m (f.0 ∷ f.1) closes_leave = subst (λ (cs : List Closed). Closes m cs closes_leave) f.2 run_closes in
      closes_keep (λ (z : Machine). z.structure.started ≡ true) (λ z c q s. close_starts z c q) f.1 (step close m).after closes_leave h.1
      (close_starts m f.0 h.0)

  same_flags : run.met ≡ none → leaves true (summed (sums_of run.reports)) run.after ≡ run.after
  unfolding leaves settled_by
  same_flags e = ap (λ (b : Bool). with_flags b run.after.settled run.after) (sym (started e))

  pub settle_accepts : run.met ≡ none → step settle m ≡ answers (summed (sums_of run.reports)) closes_leave
  unfolding rule acceptance settle_rule
  settle_accepts e =
      met_accepts settle m run.met only_met e
      ∙ ap (λ (s : Structure). answers (summed (sums_of run.reports)) (machine m.sig s)) (same_flags e)

  pub settle_refuses : (n : ℕ) → run.met ≡ some n → step settle m ≡ refusal m n
  settle_refuses = met_refuses settle m run.met only_met

  -- a settle by the number that its run meets: the answers of its closes summed and what they leave, or that number
  pub settle_by_lem {ℓ} : (P : Step → Type ℓ) → (run.met ≡ none → P (answers (summed (sums_of run.reports)) closes_leave))
      → ((n : ℕ) → run.met ≡ some n → P (refusal m n)) → P (step settle m)
  settle_by_lem P done met = go run.met refl
    where
      go : (x : Option ℕ) → run.met ≡ x → P (step settle m)
      go none e = subst P (sym (settle_accepts e)) (done e)
      go (some n) e = subst P (sym (settle_refuses n e)) (met n e)

  -- an accepted settle is its closes ..
  pub settle_closes : (t : Totals) → (step settle m).answer ≡ summed t → Closes m run.reports (step settle m).after
  settle_closes t =
      settle_by_lem (λ s. s.answer ≡ summed t → Closes m run.reports s.after) (λ e q. run_closes) (λ n e q. not_summed q)

  -- .. and answers how many there were and their merges
  pub settle_totals : (t : Totals) → (step settle m).answer ≡ summed t → t ≡ sums_of run.reports
  settle_totals t = settle_by_lem (λ s. s.answer ≡ summed t → t ≡ sums_of run.reports) (λ e q. cc) (λ n e q. not_summed q)

  -- so many closes in place of the settle leave the same
  pub settle_after_lem : (t : Totals) → (step settle m).answer ≡ summed t → (step settle m).after ≡ after_calls (replicate t.closes close) m
  unfolding sums_of
  settle_after_lem t q =
      closes_after run.reports m (step settle m).after (settle_closes t q)
      ∙ ap (λ (x : Totals). after_calls (replicate x.closes close) m) (sym (settle_totals t q))

  -- a refused one has a close that is refused with the number, after closes that are accepted
  pub settle_refused : (n : ℕ) → (step settle m).answer ≡ refuse n → Closes m run.reports closes_leave × ((step close closes_leave).answer ≡ refuse n)
  settle_refused n =
      settle_by_lem (λ s. s.answer ≡ refuse n → Closes m run.reports closes_leave × ((step close closes_leave).answer ≡ refuse n))
      (λ e q. not_summed (sym q)) (λ k e q. (run_closes, (let same : k ≡ n = cc in run_refused n (e ∙ ap some same))))

  -- what each accepted close keeps, a settle keeps
  pub settle_keeps {ℓ} : (P : Machine → Type ℓ) → ((z : Machine) (c : Closed) → (step close z).answer ≡ closed c → P z → P (step close z).after)
      → P m → P (step settle m).after
  settle_keeps P keeps p = settle_by_lem (λ s. P s.after) (λ e. run_keeps P keeps p) (λ n e. p)
