-- Laws of the rounds.
use mathlib.Core.Path.{◌≡◌, refl, sym, ap, ◌∙◌}
use mathlib.Core.Bool.{Bool, true, false, not, ◌&&◌}
use mathlib.Core.List.{List}
use Prim.Native.Nat.{ℕ, zero, suc, ◌+◌, ◌*◌, ◌-◌, ◌≤◌, ◌<◌}
use native.Mathlib.Omega.{arith}
use Rattle.unification.specs.Roots.{max_els}
use Rattle.signature.specs.Model.{Sig}
use Rattle.semantics.specs.Structure.{FuncApp, PredApp, max_facts, max_func_apps}
use Rattle.semantics.specs.Types as types
use Rattle.semantics.specs.Close as closing
use Rattle.semantics.specs.Close.{fuel, rounds_made, is_none, last_round, one_more, rounds_from}
use Rattle.merging.specs.View.{Lent, core_of, met_of, work_of}
use Rattle.rounds.specs.View.{one_round, LentAgain, RoundIs, RoundsAre}
use Rattle.std.specs.Option.{is_some}
use Rattle.std.specs.declared.option.Option as option
use Rattle.std.specs.declared.option.Option.TheVariants.{None, Some}
use Rattle.apps.specs.declared.FuncApp as code
use Rattle.rows.specs.View.{func_apps_in}

-- whether no number is met
pub none_met : (m : option.Option ℕ) (b : Bool) → is_some m ≡ not b → b ≡ is_none (met_of m)
unfolding is_none
none_met None true e = refl
none_met None false e = e
none_met (Some n) true e = e
none_met (Some n) false e = refl

-- The rounds.

pub fuel_is : fuel ≡ 2 * ((max_facts + max_func_apps + 2) * (max_els + 1))
unfolding fuel
fuel_is = refl

-- with so many rounds before
abbrev pub after : ℕ → closing.Rounds → closing.Rounds
after n r = rounds_made r.core r.apps (n + r.count)

module _ (g : Sig) (preds : List PredApp) where
  -- a round that is the last, whatever fuel remains
  pub idle : (k : ℕ) (t : closing.Turn) → (t.worked && is_none t.core.met) ≡ false → rounds_from k g preds t ≡ last_round t
  unfolding rounds_from
  idle zero t h = refl
  idle (suc k) t h = rw (h, rounds_from)

  pub goes : (k : ℕ) (t : closing.Turn) → (t.worked && is_none t.core.met) ≡ true
      → rounds_from (suc k) g preds t ≡ one_more (rounds_from k g preds (closing.round g preds t.apps t.core))
  unfolding rounds_from
  goes k t h = rw (h, rounds_from)

  -- The rounds in progress: `count` ran and came to `core` and `apps`, and `again` says whether another follows.
  pub record Going (whole : closing.Rounds) (core : types.Core) (apps : List FuncApp) (again : Bool) (count : ℕ) : Type 0 where
    pub few : count ≤ suc fuel
    pub more : again ≡ true → (k : ℕ) → k + count ≡ fuel → after count (rounds_from k g preds (closing.round g preds apps core)) ≡ whole
    -- the latest was idle, or met a number
    pub stops : again ≡ false → rounds_made core apps count ≡ whole
    -- there are no more
    pub spent : fuel < count → rounds_made core apps count ≡ whole

  pub begins : (core : types.Core) (apps : List FuncApp) → Going (closing.rounds g preds apps core) core apps true 0
  unfolding closing.rounds
  begins core apps = record {
    few = omega arith;
    more = λ e k q.
        let f : k ≡ fuel = omega arith in
        let r = rounds_from fuel g preds (closing.round g preds apps core) in
        (λ i. after 0 (rounds_from (f i) g preds (closing.round g preds apps core)))
        ∙ (λ i. rounds_made r.core r.apps (none_before r.count i));
    stops = λ e. let z : ◌≡◌ {A = ℕ} 0 1 = cc e in absurd (omega arith);
    spent = λ h. absurd (omega arith);
  }
    where
      none_before : (x : ℕ) → 0 + x ≡ x
      none_before x = omega arith

  module _ {whole : closing.Rounds} {core : types.Core} {apps : List FuncApp} {again : Bool} {count : ℕ} (so_far : Going whole core apps again count)
      (h : again ≡ true) (l : count ≤ fuel) {next : closing.Turn} (e : next ≡ closing.round g preds apps core) where
    from_next : (k : ℕ) → k + count ≡ fuel → after count (rounds_from k g preds next) ≡ whole
    from_next k q = ap (λ (t : closing.Turn). after count (rounds_from k g preds t)) e ∙ so_far.more h k q

    lasts : (k : ℕ) → k + count ≡ fuel → rounds_from k g preds next ≡ last_round next → rounds_made next.core next.apps (count + 1) ≡ whole
    unfolding last_round
    lasts k q last = sym (ap (after count) last) ∙ from_next k q

    -- one more
    pub takes : {then : Bool} → then ≡ (next.worked && is_none next.core.met) → Going whole next.core next.apps then (count + 1)
    unfolding one_more rounds_from
    takes t = record {
      few = omega arith;
      more = λ p k q.
          let r = rounds_from k g preds (closing.round g preds next.apps next.core) in
          (λ i. rounds_made r.core r.apps (regroup r.count i))
          ∙ sym (ap (after count) (goes k next (sym t ∙ p)))
          ∙ from_next (suc k) (omega arith);
      stops = λ p. lasts (fuel - count) (omega arith) (idle (fuel - count) next (sym t ∙ p));
      spent = λ p. lasts 0 (omega arith) refl;
    }
      where
        regroup : (x : ℕ) → (count + 1) + x ≡ count + suc x
        regroup x = omega arith

-- The same on the tables: from `before` with the applications `apps` to `now` with `apps'`.
pub record RoundsSoFar (g : Sig) (preds : List PredApp) (before : Lent) (apps : List code.FuncApp) (now : Lent) (apps' : List code.FuncApp) (again : Bool) (count : ℕ) : Type 0 where
  pub going : Going g preds (closing.rounds g preds (func_apps_in before.counts.func_apps apps) (core_of before))
      (core_of now) (func_apps_in now.counts.func_apps apps') again count
  pub ready : LentAgain now apps'
  pub count_most : work_of now.counts ≤ count * one_round + work_of before.counts

module _ {g : Sig} {preds : List PredApp} {before : Lent} {apps : List code.FuncApp} {now : Lent} {apps' : List code.FuncApp} {again : Bool} {count : ℕ}
    (so_far : RoundsSoFar g preds before apps now apps' again count) where
  -- one more
  pub ran_more : again ≡ true → count ≤ fuel → {next : Lent} {apps'' : List code.FuncApp} {worked then : Bool}
      → RoundIs g preds now apps' next apps'' worked
      → then ≡ (worked && is_none (met_of next.counts.met)) → RoundsSoFar g preds before apps next apps'' then (count + 1)
  ran_more h l e t = record {
    going = takes g preds so_far.going h l e.is t;
    ready = e.ready;
    count_most = omega (arith, e.count_most, so_far.count_most);
  }

  -- the last
  pub ran_all : rounds_made (core_of now) (func_apps_in now.counts.func_apps apps') count
      ≡ closing.rounds g preds (func_apps_in before.counts.func_apps apps) (core_of before)
      → RoundsAre g preds before apps now apps' count
  ran_all e = record { is = e; ready = so_far.ready; ran_most = so_far.going.few; count_most = so_far.count_most }
