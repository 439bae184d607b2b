-- What `functionality` keeps of a valid structure.
use mathlib.Core.Path.{◌≡◌, refl, sym, ◌∙◌}
use mathlib.Core.Bool.{Bool, true, false}
use mathlib.Core.List.{List, [], ◌∷◌}
use Prim.Native.Nat.{ℕ, ◌<◌}
use native.Mathlib.Omega.{arith}
use lib.ListN.{length-map}
use Rattle.ids.proofs.Sorted.{All, all_map, Sorted}
use Rattle.unification.specs.Roots.{root_of}
use Rattle.unification.proofs.Laws.{root_le, root_root}
use Rattle.signature.specs.Model.{Sig, ModelM}
use Rattle.semantics.specs.Structure.{FuncApp, Pair, compare_func_app, canonical_func_app}
use Rattle.semantics.specs.Close.{Rewritten, enter, enter_all}
use Rattle.semantics.specs.Calls.{misapplies, is_misapplied}
use Rattle.semantics.specs.Valid.{Counts, FuncAppValid, PairValid, Unreserved, WellApplied}
use Rattle.semantics.proofs.Functionality.{enter_cases, enter_all_all, enter_all_sorted, enter_all_pairs}
use Rattle.semantics.proofs.Queues.{fresh}
use Rattle.validity.proofs.Drain.{TwoRoots}
use Rattle.validity.proofs.Imposing.{roots_listed}

-- whether a pair waits
unfoldable pub waits : List Pair → Bool
waits [] = false
waits (p ∷ ps) = true

-- it is reported whether a pair waits, if none did at first
enter_all_report : (ls : List ℕ) (xs : List FuncApp) (t : Rewritten) → t.queued ≡ waits t.pairs
    → (enter_all ls xs t).queued ≡ waits (enter_all ls xs t).pairs
unfolding enter_all waits
enter_all_report ls [] t h = h
enter_all_report ls (x ∷ xs) t h =
    enter_all_report ls xs (enter (canonical_func_app ls x) t)
    (enter_cases (λ (u : Rewritten). u.queued ≡ waits u.pairs) (canonical_func_app ls x) t (λ e. h) (λ y e r. h) (λ y e n. refl))

module _ (c : Counts) (ls : List ℕ) where
  -- an entry that is rewritten: its result is a root
  pub record RewrittenEntry (x : FuncApp) : Type 0 where
    pub valid : FuncAppValid c x
    pub root : root_of ls x.result ≡ x.result

  -- a pair that is queued: its two elements have different roots
  pub record Clash (p : Pair) : Type 0 where
    pub valid : PairValid c p
    pub two : TwoRoots ls p

  pub record EnteredValid (t : Rewritten) : Type 0 where
    pub each : All RewrittenEntry t.apps
    pub sorted : Sorted compare_func_app t.apps
    pub pairs : All Clash t.pairs
    pub report : t.queued ≡ waits t.pairs

  pub canonical_entry : (x : FuncApp) → FuncAppValid c x → RewrittenEntry (canonical_func_app ls x)
  unfolding canonical_func_app
  canonical_entry x v = record {
    valid = record {
      func = v.func;
      parents = roots_listed c.els ls x.parents v.parents;
      args = roots_listed c.els ls x.args v.args;
      result = omega (arith, root_le ls x.result, v.result);
    };
    root = root_root ls x.result;
  }

  pub fresh_entered : (xs : List FuncApp) → All (FuncAppValid c) xs → EnteredValid (enter_all ls xs fresh)
  unfolding waits
  fresh_entered xs v = record {
    each = enter_all_all RewrittenEntry ls xs fresh (all_map canonical_entry xs v) tt;
    sorted = enter_all_sorted ls xs fresh tt;
    pairs = enter_all_pairs (λ e. (e < c.els) × (root_of ls e ≡ e)) Clash
        (λ p a b n. record { valid = record { lhs = a.0; rhs = b.0 }; two = λ z. n (sym a.1 ∙ z ∙ b.1) }) ls xs fresh
        (all_map (λ x k. (omega (arith, root_le ls x.result, k.result), root_root ls x.result)) xs v) tt tt;
    report = enter_all_report ls xs fresh refl;
  }

-- An application that is rewritten: its function stays, and it has as many arguments.

pub canonical_unreserved : (g : Sig) (ls : List ℕ) (x : FuncApp) → Unreserved g x → Unreserved g (canonical_func_app ls x)
unfolding canonical_func_app
canonical_unreserved g ls x h = h

misapplied_alike : (ls : List ℕ) (x : FuncApp) (ms : List ModelM) → is_misapplied (canonical_func_app ls x) ms ≡ is_misapplied x ms
unfolding is_misapplied misapplies canonical_func_app
misapplied_alike ls x [] = refl
misapplied_alike ls x (m ∷ ms) = rw (length-map x.args (root_of ls), misapplied_alike ls x ms)

pub canonical_well_applied : (g : Sig) (ls : List ℕ) (x : FuncApp) → WellApplied g x → WellApplied g (canonical_func_app ls x)
canonical_well_applied g ls x h = misapplied_alike ls x g.models ∙ h
