-- The rounds of a close of a valid structure, marks or not, end with one in which no pass reports work or a number was met: fuel never ends them.
use mathlib.Core.Path.{◌≡◌, refl, sym, ap, ◌∙◌}
use mathlib.Core.Logic.{inl, inr}
use mathlib.Core.Bool.{true, false}
use mathlib.Core.List.{List}
use Prim.Native.Nat.{ℕ, zero, suc, ◌+◌, ◌≤◌, ◌<◌}
use native.Mathlib.Omega.{arith}
use Rattle.ids.proofs.Sorted.{All}
use Rattle.unification.specs.Roots.{max_els}
use Rattle.signature.specs.Model.{Sig}
use Rattle.semantics.specs.Structure.{FuncApp, PredApp}
use Rattle.semantics.specs.Types.{Core}
use Rattle.semantics.specs.Close.{Turn, Rounds, rounds, round, is_none, last_round, one_more, rounds_from, fuel, goes_on}
use Rattle.semantics.specs.Valid.{Counts, counts_at, PredAppValid, ValidSig}
use Rattle.semantics.proofs.Cases.{test, and_first}
use Rattle.validity.proofs.Drain.{Advances, advances_then}
use Rattle.validity.proofs.Turns.{Begins, AfterRound, Within, round_within}
use Rattle.validity.proofs.Lowering.{measure, measure_fuel, measure_falls}

-- the last of the rounds of `rounds_from`, with its report
unfoldable pub last_from : ℕ → Sig → List PredApp → Turn → Turn
last_from zero g preds t = t
last_from (suc k) g preds t = elim (goes_on t) [ true ↦ last_from k g preds (round g preds t.apps t.core) | false ↦ t ]

module _ (g : Sig) (preds : List PredApp) where
  next : Turn → Turn
  next t = round g preds t.apps t.core

  -- Where no round follows.

  pub rounds_stop : (k : ℕ) (t : Turn) → goes_on t ≡ false → rounds_from k g preds t ≡ last_round t
  unfolding rounds_from
  rounds_stop zero t e = refl
  rounds_stop (suc k) t e = rw (e, rounds_from)

  last_stop : (k : ℕ) (t : Turn) → goes_on t ≡ false → last_from k g preds t ≡ t
  unfolding last_from
  last_stop zero t e = refl
  last_stop (suc k) t e = rw (e, last_from)

  -- Where one does.

  pub rounds_on : (k : ℕ) (t : Turn) → goes_on t ≡ true
      → rounds_from (suc k) g preds t ≡ one_more (rounds_from k g preds (round g preds t.apps t.core))
  unfolding rounds_from
  rounds_on k t e = rw (e, rounds_from)

  last_on : (k : ℕ) (t : Turn) → goes_on t ≡ true → last_from (suc k) g preds t ≡ last_from k g preds (next t)
  unfolding last_from next
  last_on k t e = rw (e, last_from)

  -- the rounds leave what the last of them leaves
  pub rounds_last : (k : ℕ) (t : Turn)
      → ((rounds_from k g preds t).core ≡ (last_from k g preds t).core) × ((rounds_from k g preds t).apps ≡ (last_from k g preds t).apps)
  unfolding next one_more last_round
  rounds_last zero t = (unfold rounds_from last_from in (refl, refl))
  rounds_last (suc k) t = elim (test (goes_on t)) [
    | inl e ↦
        let r = rounds_last k (round g preds t.apps t.core) in
        rw (rounds_on k t e, last_on k t e) r
    | inr e ↦ rw (rounds_stop (suc k) t e, last_stop (suc k) t e) (refl, refl)
  ]

-- what a round leaves, and how far it is from the core w with which the first began
pub record Reached (g : Sig) (c : Counts) (w : Core) (t : Turn) : Type 0 where
  pub after : AfterRound g c t
  pub advances : Advances c w t.core

-- the last round of some, with its report: it is a round, and no round follows
pub record LastRoundOf (g : Sig) (preds : List PredApp) (r : Rounds) : Type 0 where
  -- the applications and the core that it begins with
  pub before : List FuncApp × Core
  pub turn : Turn
  pub is : turn ≡ round g preds before.0 before.1
  pub core : r.core ≡ turn.core
  pub apps : r.apps ≡ turn.apps
  -- "none reports work", or a number was met
  pub ends : goes_on turn ≡ false

module _ (g : Sig) (v : ValidSig g) (n : ℕ) (preds : List PredApp) (pv : All (PredAppValid (counts_at g n)) preds) where
  within : (t : Turn) → AfterRound g (counts_at g n) t → Within g (counts_at g n) t.core t.apps (round g preds t.apps t.core)
  within t h = round_within g v n preds pv t.core t.apps h.begins

  on : (t : Turn) → AfterRound g (counts_at g n) t → AfterRound g (counts_at g n) (round g preds t.apps t.core)
  on t h = (within t h).after

  less : (k : ℕ) (t : Turn) → AfterRound g (counts_at g n) t → measure t < suc k
      → goes_on (round g preds t.apps t.core) ≡ true → measure (round g preds t.apps t.core) < k
  less k t h l e =
      let u = round g preds t.apps t.core in
      omega (arith, measure_falls g (counts_at g n) t u (within t h) (and_first u.worked (is_none u.core.met) e))

  -- any fuel above the measure of a round will do
  pub rounds_enough : (k j : ℕ) (t : Turn) → AfterRound g (counts_at g n) t → (goes_on t ≡ true → measure t < k) → (goes_on t ≡ true → measure t < j)
      → rounds_from k g preds t ≡ rounds_from j g preds t
  rounds_enough zero j t h p q = elim (test (goes_on t)) [
    | inl e ↦ absurd (omega (arith, p e))
    | inr e ↦ rounds_stop g preds zero t e ∙ sym (rounds_stop g preds j t e)
  ]
  rounds_enough (suc k) zero t h p q = elim (test (goes_on t)) [
    | inl e ↦ absurd (omega (arith, q e))
    | inr e ↦ rounds_stop g preds (suc k) t e ∙ sym (rounds_stop g preds zero t e)
  ]
  rounds_enough (suc k) (suc j) t h p q = elim (test (goes_on t)) [
    | inl e ↦
        rounds_on g preds k t e
        ∙ ap one_more (rounds_enough k j (round g preds t.apps t.core) (on t h) (less k t h (p e)) (less j t h (q e)))
        ∙ sym (rounds_on g preds j t e)
    | inr e ↦ rounds_stop g preds (suc k) t e ∙ sym (rounds_stop g preds (suc j) t e)
  ]

  -- after the last round none follows
  pub last_ends : (k : ℕ) (t : Turn) → AfterRound g (counts_at g n) t → (goes_on t ≡ true → measure t < k) → goes_on (last_from k g preds t) ≡ false
  unfolding next
  last_ends zero t h p = elim (test (goes_on t)) [ inl e ↦ absurd (omega (arith, p e)) | inr e ↦ rw (last_stop g preds zero t e) e ]
  last_ends (suc k) t h p = elim (test (goes_on t)) [
    | inl e ↦ rw (last_on g preds k t e) (last_ends k (round g preds t.apps t.core) (on t h) (less k t h (p e)))
    | inr e ↦ rw (last_stop g preds (suc k) t e) e
  ]

  pub last_after : (w : Core) (k : ℕ) (t : Turn) → Reached g (counts_at g n) w t → Reached g (counts_at g n) w (last_from k g preds t)
  unfolding next
  last_after w zero t h = (unfold last_from in h)
  last_after w (suc k) t h = elim (test (goes_on t)) [
    | inl e ↦
        let r = within t h.after in
        rw (last_on g preds k t e) (last_after w k (round g preds t.apps t.core) (record {
          after = r.after;
          advances = advances_then (counts_at g n) w t.core _ h.advances r.advances;
        }))
    | inr e ↦ rw (last_stop g preds (suc k) t e) h
  ]

  -- it is a round, of what a round may begin with
  abbrev RoundOf : Turn → Type 0
  RoundOf t = (b : List FuncApp × Core) × (t ≡ round g preds b.0 b.1) × Begins g (counts_at g n) b.1 b.0

  last_round_lem : (k : ℕ) (t : Turn) → AfterRound g (counts_at g n) t → RoundOf t → RoundOf (last_from k g preds t)
  unfolding next
  last_round_lem zero t h r = (unfold last_from in r)
  last_round_lem (suc k) t h r = elim (test (goes_on t)) [
    | inl e ↦ rw (last_on g preds k t e) (last_round_lem k (round g preds t.apps t.core) (on t h) ((t.apps, t.core), refl, h.begins))
    | inr e ↦ rw (last_stop g preds (suc k) t e) r
  ]

  -- The rounds of a close.

  module _ (few : n ≤ max_els) (w : Core) (xs : List FuncApp) (b : Begins g (counts_at g n) w xs) where
    first : Within g (counts_at g n) w xs (round g preds xs w)
    first = round_within g v n preds pv w xs b

    begin : AfterRound g (counts_at g n) (round g preds xs w)
    begin = first.after

    -- more fuel changes nothing
    pub more_fuel : (j : ℕ) → rounds_from (fuel + j) g preds (round g preds xs w) ≡ rounds_from fuel g preds (round g preds xs w)
    more_fuel j =
        let l = measure_fuel g (counts_at g n) (round g preds xs w) few begin in
        rounds_enough (fuel + j) fuel (round g preds xs w) begin (λ e. omega (arith, l)) (λ e. l)

    last : RoundOf (last_from fuel g preds (round g preds xs w))
    last = last_round_lem fuel (round g preds xs w) begin ((xs, w), refl, b)

    -- the last round reports no work, or a number was met
    pub rounds_end : LastRoundOf g preds (rounds g preds xs w)
    unfolding rounds
    rounds_end =
        let t = round g preds xs w in
        let r = rounds_last g preds fuel t in
        record {
          before = last.0;
          turn = last_from fuel g preds t;
          is = last.1;
          core = r.0;
          apps = r.1;
          ends = last_ends fuel t begin (λ e. measure_fuel g (counts_at g n) t few begin);
        }

    -- what it begins with is valid
    pub rounds_begin : Begins g (counts_at g n) rounds_end.before.1 rounds_end.before.0
    unfolding rounds_end
    rounds_begin = last.2

    -- how far it is from where the first began
    pub rounds_advance : Advances (counts_at g n) w rounds_end.turn.core
    unfolding rounds_end
    rounds_advance = (last_after w fuel (round g preds xs w) (record { after = begin; advances = first.advances })).advances
