-- The rounds of a close: what they leave, where no element is marked, and how many there are where no application is one of id or comp; what the last one
-- leaves, marks or not.
use mathlib.Core.Path.{◌≡◌, refl, sym, subst, subst₂, ap, ◌∙◌}
use mathlib.Core.Logic.{inl, inr}
use mathlib.Core.Bool.{Bool, true, false, ◌&&◌, and-true}
use mathlib.Core.List.{List, [], ◌∷◌}
use mathlib.Core.Option.{Option, none, some}
use Prim.Native.Nat.{ℕ, zero, suc, ◌+◌, ◌≤◌, ◌<◌}
use native.Mathlib.Omega.{arith}
use Rattle.ids.proofs.Sorted.{All, Sorted, no_test}
use Rattle.signature.specs.Model.{Sig}
use Rattle.semantics.specs.Structure.{FuncApp, PredApp, Pair, compare_func_app}
use Rattle.semantics.specs.Types.{Core}
use Rattle.semantics.specs.MapLaws.{map_laws}
use Rattle.semantics.specs.Close.{demands, Turn, round, Rounds, is_none, last_round, one_more, goes_on, rounds_from, rounds, fuel}
use Rattle.semantics.proofs.Cases.{and_second}
use Rattle.semantics.proofs.Canonical.{Canon}
use Rattle.semantics.proofs.Operations.{NoOperation}
use Rattle.validity.proofs.Drain.{TwoRoots}
use Rattle.validity.proofs.Fuel.{LastRoundOf}
use Rattle.history.proofs.Operations.{Held}
use Rattle.history.proofs.Unjoined.{Safe}
use Rattle.history.proofs.Passes.{Ready, Passed, RoundDone, passed_none, passed_then, round_passed, round_done, done_idle, unworked_done, round_neither}

pub is_none_none : (o : Option ℕ) → is_none o ≡ true → o ≡ none
unfolding is_none
is_none_none none e = refl
is_none_none (some n) e = no_test e refl

-- with no number met, a round that is the last reports nothing
pub last_unworked : (t : Turn) → goes_on t ≡ false → t.core.met ≡ none → t.worked ≡ false
unfolding is_none
last_unworked t e m = sym (and-true t.worked) ∙ ap (λ (o : Option ℕ). t.worked && is_none o) (sym m) ∙ e

-- a round that reports nothing is the last
pub stop : (g : Sig) (preds : List PredApp) (k : ℕ) (t : Turn) → t.worked ≡ false → rounds_from k g preds t ≡ last_round t
unfolding rounds_from
stop g preds zero t e = refl
stop g preds (suc k) t e = rw e

-- Where no element is marked.

module _ (n total : ℕ) (g : Sig) (preds : List PredApp) where
  -- from the round that left t on
  passed_from : (k : ℕ) (t : Turn) → Ready n total t.core t.apps
      → Passed g.models n total t.core t.apps (rounds_from k g preds t).core (rounds_from k g preds t).apps
  unfolding rounds_from last_round one_more
  passed_from zero t r = passed_none g.models n total t.core t.apps r
  passed_from (suc k) t r =
      let passed = round_passed g preds t.apps t.core n total r in
      go (goes_on t) (passed_then passed (passed_from k (round g preds t.apps t.core) passed.ready))
    where
      Leaves : Rounds → Type 1
      Leaves r = Passed g.models n total t.core t.apps r.core r.apps

      go : (b : Bool) → Leaves (rounds_from k g preds (round g preds t.apps t.core))
          → Leaves (elim b [ true ↦ one_more (rounds_from k g preds (round g preds t.apps t.core)) | false ↦ last_round t ])
      go true h = h
      go false h = passed_none g.models n total t.core t.apps r

  pub rounds_passed : (apps : List FuncApp) (w : Core) → Ready n total w apps
      → Passed g.models n total w apps (rounds g preds apps w).core (rounds g preds apps w).apps
  unfolding rounds
  rounds_passed apps w r =
      let passed = round_passed g preds apps w n total r in passed_then passed (passed_from fuel (round g preds apps w) passed.ready)

  -- Where no application is one of id or comp there are few: a round that worked is followed by one that does no work, or by one that merges.

  -- of the rounds from the one that left t on
  abbrev Few : Turn → Rounds → Type 0
  Few t r = r.count + t.core.merges ≤ r.core.merges + 2

  few_from : (k : ℕ) (w : Core) (t : Turn) → Ready n total t.core t.apps → RoundDone g preds w t → All (NoOperation g.models) t.apps
      → total < k + t.core.merges → Few t (rounds_from k g preds t)
  unfolding rounds_from one_more last_round
  few_from zero w t r d neither h = absurd (omega (arith, r.kept.sum))
  few_from (suc k) w t r d neither h =
      go (t.worked && is_none t.core.met) refl (λ l.
      few_from k t.core u (round_passed g preds t.apps t.core n total r).ready done (round_neither g preds t.apps t.core neither)
      (omega arith))
    where
      u : Turn
      u = round g preds t.apps t.core

      done : RoundDone g preds t.core u
      done = round_done g preds t.apps t.core n total r

      Later : Type 0
      Later = t.core.merges < u.core.merges → Few u (rounds_from k g preds u)

      next : (ps : List Pair) → t.core.pairs ≡ ps → t.core.met ≡ none → Later → Few t (one_more (rounds_from k g preds u))
      next [] e m later =
          let z = done_idle g preds w t d (inr neither) m e in
          subst (λ r. Few t (one_more r)) (sym (stop g preds k u (ap (λ (x : Turn). x.worked) z))) (omega (arith, ap (λ (x : Turn). x.core.merges) z))
      next (p ∷ ps) e m later =
          let l = done.table.merges p ps e (subst (All (TwoRoots t.core.links)) e d.table.apart).0 in
          omega (arith, l, later l)

      go : (b : Bool) → (t.worked && is_none t.core.met) ≡ b → Later
          → Few t (elim b [ true ↦ one_more (rounds_from k g preds u) | false ↦ last_round t ])
      go true e later = next t.core.pairs refl (is_none_none t.core.met (and_second t.worked _ e)) later
      go false e later = omega arith

  -- all the rounds of a close: it begins with no merge, and its fuel is enough
  pub rounds_few : (apps : List FuncApp) (w : Core) → Ready n total w apps → w.merges ≡ 0 → total < fuel → All (NoOperation g.models) apps
      → (rounds g preds apps w).count ≤ (rounds g preds apps w).core.merges + 2
  unfolding rounds
  rounds_few apps w r z h neither =
      let t = round g preds apps w in
      let few = few_from fuel w t (round_passed g preds apps w n total r).ready (round_done g preds apps w n total r) (round_neither g preds apps w neither) (omega arith) in
      omega (arith, few)

-- The last round, marks or not: where no number was met it reported no work, so that nothing remains to do.

pub record RoundsEnded (g : Sig) (preds : List PredApp) (r : Rounds) : Type 0 where
  pub sorted : Sorted compare_func_app r.apps
  pub canon : All (Canon r.core.links) r.apps
  pub pairs : r.core.pairs ≡ []
  pub safe : All (Safe r.core.links r.core.marks r.core.facts) (demands g r.apps preds)
  pub held : All (Held r.core.links r.apps) (map_laws g.models r.apps)

turn_ended : (g : Sig) (preds : List PredApp) (w : Core) (t : Turn) → RoundDone g preds w t → t.worked ≡ false → t.core.met ≡ none
    → RoundsEnded g preds (last_round t)
unfolding last_round
turn_ended g preds w t d e m = record {
  sorted = d.table.sorted;
  canon = d.table.canon;
  pairs = d.table.idle e;
  safe = d.safe (inl e) m;
  held = d.held (inl e) m;
}

pub rounds_ended : (g : Sig) (preds : List PredApp) (r : Rounds) → LastRoundOf g preds r → r.core.met ≡ none → RoundsEnded g preds r
unfolding last_round
rounds_ended g preds r l m =
    let t = l.turn in
    let met : t.core.met ≡ none = ap (λ (w : Core). w.met) (sym l.core) ∙ m in
    let unworked = last_unworked t l.ends met in
    let done = subst (RoundDone g preds l.before.1) (sym l.is)
    (unworked_done g preds l.before.0 l.before.1 (ap (λ (x : Turn). x.worked) (sym l.is) ∙ unworked)) in
    let e = turn_ended g preds l.before.1 t done unworked met in
    record {
      sorted = subst (Sorted compare_func_app) (sym l.apps) e.sorted;
      canon = subst₂ (λ (w : Core) (xs : List FuncApp). All (Canon w.links) xs) (sym l.core) (sym l.apps) e.canon;
      pairs = ap (λ (w : Core). w.pairs) l.core ∙ e.pairs;
      safe = subst₂ (λ (w : Core) (xs : List FuncApp). All (Safe w.links w.marks w.facts) (demands g xs preds)) (sym l.core) (sym l.apps) e.safe;
      held = subst₂ (λ (w : Core) (xs : List FuncApp). All (Held w.links xs) (map_laws g.models xs)) (sym l.core) (sym l.apps) e.held;
    }
