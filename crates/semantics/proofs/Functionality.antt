-- The table that `functionality` makes: what holds of its entries and of the pairs that it queues.
use mathlib.Core.Path.{◌≡◌, refl, ◌∙◌}
use mathlib.Core.Logic.{◌≢◌}
use mathlib.Core.Bool.{Bool, true, false}
use mathlib.Core.List.{List, [], ◌∷◌}
use mathlib.Core.Option.{Option, some, none}
use Prim.Native.Nat.{ℕ}
use lib.Dec.{eqb}
use borrow.Author.Tests.{eqb-true, eqb-false}
use Rattle.ids.specs.Table.{placed, lookup_of}
use Rattle.ids.proofs.Sorted.{All, all_at, Sorted, no_test, lookup_sound, placed_all, placed_sorted}
use Rattle.unification.specs.Roots.{root_of}
use Rattle.semantics.specs.Structure.{FuncApp, Pair, pair, compare_func_app, canonical_func_app}
use Rattle.semantics.specs.Close.{Rewritten, rewriting, enter_at, enter, enter_all}
use Rattle.semantics.proofs.Orders.{func_app_ordered}

-- One application entered: its key is new, or it has the result that is there, or it queues a pair.

-- the three ways, for a claim on what it leaves
pub enter_cases {ℓ} : (P : Rewritten → Type ℓ) (x : FuncApp) (t : Rewritten)
    → (lookup_of compare_func_app x t.apps ≡ none → P (rewriting (placed compare_func_app x t.apps) t.pairs t.queued))
    → ((y : FuncApp) → lookup_of compare_func_app x t.apps ≡ some y → y.result ≡ x.result → P t)
    → ((y : FuncApp) → lookup_of compare_func_app x t.apps ≡ some y → y.result ≢ x.result
    → P (rewriting t.apps (pair y.result x.result ∷ t.pairs) true))
    → P (enter x t)
unfolding enter enter_at
enter_cases P x t new same other = go (lookup_of compare_func_app x t.apps) refl
  where
    by : (y : FuncApp) → lookup_of compare_func_app x t.apps ≡ some y → (b : Bool) → eqb y.result x.result ≡ b
        → P (elim b [
          | true ↦ t
          | false ↦ rewriting t.apps (pair y.result x.result ∷ t.pairs) true
        ])
    by y e true h = same y e (eqb-true y.result x.result h)
    by y e false h = other y e (eqb-false y.result x.result h)

    go : (o : Option FuncApp) → lookup_of compare_func_app x t.apps ≡ o → P (enter_at o x t)
    go none e = new e
    go (some y) e = by y e (eqb y.result x.result) refl

-- what holds of each image holds of the new table's entries
enter_all_lem : (P : FuncApp → Type 0) (x : FuncApp) (t : Rewritten) → P x → All P t.apps → All P (enter x t).apps
enter_all_lem P x t p h =
    enter_cases (λ u. All P u.apps) x t (λ e. placed_all compare_func_app x P t.apps p h) (λ y e r. h) (λ y e n. h)

pub enter_all_all : (P : FuncApp → Type 0) (ls : List ℕ) (xs : List FuncApp) (t : Rewritten) → All (λ x. P (canonical_func_app ls x)) xs
    → All P t.apps → All P (enter_all ls xs t).apps
unfolding enter_all
enter_all_all P ls [] t h a = a
enter_all_all P ls (x ∷ xs) t h a =
    enter_all_all P ls xs (enter (canonical_func_app ls x) t) h.1 (enter_all_lem P (canonical_func_app ls x) t h.0 a)

pub enter_all_sorted : (ls : List ℕ) (xs : List FuncApp) (t : Rewritten) → Sorted compare_func_app t.apps
    → Sorted compare_func_app (enter_all ls xs t).apps
unfolding enter_all
enter_all_sorted ls [] t s = s
enter_all_sorted ls (x ∷ xs) t s =
    enter_all_sorted ls xs (enter (canonical_func_app ls x) t)
    (enter_cases (λ u. Sorted compare_func_app u.apps) (canonical_func_app ls x) t
    (λ e. placed_sorted func_app_ordered (canonical_func_app ls x) t.apps s) (λ y e r. s) (λ y e n. s))

-- a pair that is queued is of two results that differ, both of them roots
pub enter_all_pairs : (P : ℕ → Type 0) (Q : Pair → Type 0) → ((p : Pair) → P p.lhs → P p.rhs → p.lhs ≢ p.rhs → Q p)
    → (ls : List ℕ) (xs : List FuncApp) (t : Rewritten) → All (λ x. P (root_of ls x.result)) xs → All (λ y. P y.result) t.apps
    → All Q t.pairs → All Q (enter_all ls xs t).pairs
unfolding enter_all canonical_func_app
enter_all_pairs P Q f ls [] t h a b = b
enter_all_pairs P Q f ls (x ∷ xs) t h a b =
    enter_all_pairs P Q f ls xs (enter (canonical_func_app ls x) t) h.1 (enter_all_lem (λ y. P y.result) (canonical_func_app ls x) t h.0 a)
    (enter_cases (λ u. All Q u.pairs) (canonical_func_app ls x) t (λ e. b) (λ y e r. b)
    (λ y e n. (
      f (pair y.result (root_of ls x.result))
          (all_at (λ z. P z.result) t.apps a y (lookup_sound compare_func_app (canonical_func_app ls x) t.apps e).0) h.0 n,
      b,
    )))

-- where none was queued, the pairs are those that were there
pub enter_all_none : (ls : List ℕ) (xs : List FuncApp) (t : Rewritten) → (enter_all ls xs t).queued ≡ false
    → (t.queued ≡ false) × ((enter_all ls xs t).pairs ≡ t.pairs)
unfolding enter_all
enter_all_none ls [] t h = (h, refl)
enter_all_none ls (x ∷ xs) t h =
    let a = enter_all_none ls xs (enter (canonical_func_app ls x) t) h in
    let b = step a.0 in
    (b.0, a.1 ∙ b.1)
  where
    step : (enter (canonical_func_app ls x) t).queued ≡ false → (t.queued ≡ false) × ((enter (canonical_func_app ls x) t).pairs ≡ t.pairs)
    step = enter_cases (λ u. u.queued ≡ false → (t.queued ≡ false) × (u.pairs ≡ t.pairs)) (canonical_func_app ls x) t
        (λ e k. (k, refl)) (λ y e r k. (k, refl)) (λ y e n k. no_test refl k)
