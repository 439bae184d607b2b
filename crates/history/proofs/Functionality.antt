-- `functionality`: what it does to partitions, and what its table is like.
use mathlib.Core.Path.{◌≡◌, refl, subst, ap, ap₂}
use mathlib.Core.List.{List, [], ◌∷◌, map, Memᴰ}
use mathlib.Core.Option.{some}
use Prim.Native.Nat.{ℕ}
use Rattle.ids.specs.Table.{lookup_of}
use Rattle.ids.proofs.Sorted.{All, all_at, Sorted, lookup_sound, lookup_none, placed_all, placed_own, placed_rest}
use Rattle.unification.specs.Roots.{root_of}
use Rattle.semantics.specs.Structure.{FuncApp, compare_func_app, canonical_func_app}
use Rattle.semantics.specs.Close.{Rewritten, enter, enter_all}
use Rattle.semantics.proofs.Canonical.{Canon, same_entry}
use Rattle.semantics.proofs.Functionality.{enter_cases}
use Rattle.semantics.proofs.Orders.{func_app_same, SameKey}
use Rattle.history.specs.Book.{Together, none, more, Meet}
use Rattle.history.proofs.Relation.{Equivalence, Rooted, OneRoot, Respects, meet_key, says_image, image_says}
use Rattle.history.proofs.Drain.{HoldsOfPair}

-- an application that is looked up, and one with its key

module _ (R : ℕ → ℕ → Type 0) (S : FuncApp → Type 0) (q : Equivalence R) (law : Respects R S)
    (x y : FuncApp) (l : List FuncApp) (says : All S l) (e : lookup_of compare_func_app x l ≡ some y) where
  meets : Meet R y x
  meets = let k = func_app_same y x (lookup_sound compare_func_app x l e).1 in meet_key R q y x k.func k.parents k.args

  pub found_agrees : S x → R y.result x.result
  found_agrees s = law.agree y x meets (all_at S l says y (lookup_sound compare_func_app x l e).0) s

  pub found_says : R y.result x.result → S x
  found_says r = law.alike y x meets r (all_at S l says y (lookup_sound compare_func_app x l e).0)

-- what a partition and a claim on applications say of a table
pub record Agrees (R : ℕ → ℕ → Type 0) (S : FuncApp → Type 0) (t : Rewritten) : Type 0 where
  pub apps : All S t.apps
  pub pairs : All (HoldsOfPair R) t.pairs

module _ (R : ℕ → ℕ → Type 0) (S : FuncApp → Type 0) (q : Equivalence R) (law : Respects R S) where
  enter_on : (x : FuncApp) (t : Rewritten) → Agrees R S t → S x → Agrees R S (enter x t)
  enter_on x t a s =
      enter_cases (Agrees R S) x t (λ e. record { apps = placed_all compare_func_app x S t.apps s a.apps; pairs = a.pairs }) (λ y e r. a)
      (λ y e n. record { apps = a.apps; pairs = (found_agrees R S q law x y t.apps a.apps e s, a.pairs) })

  enter_back : (x : FuncApp) (t : Rewritten) → Agrees R S (enter x t) → Agrees R S t × S x
  enter_back x t =
      enter_cases (λ u. Agrees R S u → Agrees R S t × S x) x t
      (λ e a. (
        record { apps = placed_rest compare_func_app x S t.apps a.apps; pairs = a.pairs },
        placed_own compare_func_app x S t.apps (lookup_none compare_func_app x t.apps e) a.apps,
      ))
      (λ y e r a. (a, found_says R S q law x y t.apps a.apps e (subst (R y.result) r (q.same y.result))))
      (λ y e n a. (record { apps = a.apps; pairs = a.pairs.1 }, found_says R S q law x y t.apps a.apps e a.pairs.0))

  module _ (ls : List ℕ) (r : Rooted R ls) where
    pub enter_all_on : (xs : List FuncApp) (t : Rewritten) → Agrees R S t → All S xs → Agrees R S (enter_all ls xs t)
    unfolding enter_all
    enter_all_on [] t a h = a
    enter_all_on (x ∷ xs) t a h =
        enter_all_on xs (enter (canonical_func_app ls x) t) (enter_on (canonical_func_app ls x) t a (says_image R q S law ls r x h.0)) h.1

    pub enter_all_back : (xs : List FuncApp) (t : Rewritten) → Agrees R S (enter_all ls xs t) → Agrees R S t × All S xs
    unfolding enter_all
    enter_all_back [] t a = (a, tt)
    enter_all_back (x ∷ xs) t a =
        let w = enter_all_back xs (enter (canonical_func_app ls x) t) a in
        let z = enter_back (canonical_func_app ls x) t w.0 in
        (z.0, (image_says R q S law ls r x z.1, w.1))

-- A table that is rewritten already.

roots_equal : (ls k l : List ℕ) → Together (OneRoot ls) k l → map (root_of ls) k ≡ map (root_of ls) l
roots_equal ls k l none = refl
roots_equal ls k l (more q h) = ap₂ ◌∷◌ q (roots_equal ls _ _ h)

-- the images of two applications that meet by their roots have one key
pub meet_images : (ls : List ℕ) (x y : FuncApp) → Meet (OneRoot ls) x y → SameKey (canonical_func_app ls x) (canonical_func_app ls y)
unfolding canonical_func_app
meet_images ls x y m = record {
  func = m.func;
  parents = roots_equal ls x.parents y.parents m.parents;
  args = roots_equal ls x.args y.args m.args;
}

module _ (ls : List ℕ) (l : List FuncApp) (sorted : Sorted compare_func_app l) where
  pub canonical_agree : All (Canon ls) l → (x y : FuncApp) → Memᴰ x l → Memᴰ y l → Meet (OneRoot ls) x y
      → OneRoot ls x.result y.result
  canonical_agree c x y mx my m =
      let k = meet_images ls x y m in
      let p = all_at (Canon ls) l c x mx in
      let r = all_at (Canon ls) l c y my in
      ap (λ z. root_of ls z.result) (same_entry l sorted x y mx my (subst (λ z. SameKey z y) p (subst (λ z. SameKey (canonical_func_app ls x) z) r k)))
