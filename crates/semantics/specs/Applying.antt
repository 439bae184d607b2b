-- Equalities declared, and function applications inserted (01, "Element types"): what kinds 7 and 9, and in a close the laws of
-- identities and composites, do to links, pairs and applications.
use Rattle.std.specs.Prelude.{ℕ, Bool, true, false, not, List, ◌∷◌, length, eqb, leb}
use Rattle.std.proofs.Math.Option.{Option, none, some}
use Rattle.ids.specs.Table.{placed, lookup_of}
use Rattle.unification.specs.Roots.{root_of, short_of}
use Rattle.semantics.specs.Structure.{FuncApp, Pair, pair, max_pairs, max_func_apps, compare_func_app, canonical_func_app}

-- "`equate` finds both roots by `root`, so paths shorten, queues the pair as given even where the roots are equal, and says whether they differ."

pub record Equated : Type 0 where
  pub links : List ℕ
  pub pairs : List Pair
  pub differ : Bool

abbrev pub equating : List ℕ → List Pair → Bool → Equated
equating ls ps differ = record { links = ls; pairs = ps; differ = differ }

unfoldable pub equate : List ℕ → List Pair → ℕ → ℕ → Equated
equate ls ps a b = equating (short_of (short_of ls a) b) (pair a b ∷ ps) (not (eqb (root_of ls a) (root_of (short_of ls a) b)))

-- A function application "follows `insert_func_app_or_equate`".

pub record Applied : Type 0 where
  pub links : List ℕ
  pub pairs : List Pair
  pub apps : List FuncApp
  pub yes : Bool
  -- "an entry needed, its table at its limit"
  pub full : Bool

abbrev pub applied : List ℕ → List Pair → List FuncApp → Bool → Bool → Applied
applied ls ps apps y full = record { links = ls; pairs = ps; apps = apps; yes = y; full = full }

unfoldable pub applied_equal : Equated → List Pair → List FuncApp → Applied
applied_equal e ps apps = applied e.links e.pairs apps e.differ (leb max_pairs (length ps))

-- the application, already rewritten, meets the entry with its key
unfoldable pub apply_at : Option FuncApp → FuncApp → List ℕ → List Pair → List FuncApp → Applied
apply_at none x ls ps apps = applied ls ps (placed compare_func_app x apps) true (leb max_func_apps (length apps))
apply_at (some y) x ls ps apps =
    elim (eqb y.result x.result) [
      | true ↦ applied ls ps apps false false
      | false ↦ applied_equal (equate ls ps y.result x.result) ps apps
    ]

unfoldable pub insert_func_app_or_equate : FuncApp → List ℕ → List Pair → List FuncApp → Applied
insert_func_app_or_equate x ls ps apps = apply_at (lookup_of compare_func_app (canonical_func_app ls x) apps) (canonical_func_app ls x) ls ps apps
