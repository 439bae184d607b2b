-- What `typing` demands of a valid structure is valid.
use mathlib.Core.Path.{◌≡◌, refl}
use mathlib.Core.Bool.{Bool, true, false}
use mathlib.Core.List.{List, [], ◌∷◌, ◌++◌}
use Prim.Native.Nat.{ℕ, zero, suc, ◌<◌}
use native.Mathlib.Omega.{arith}
use native.Mathlib.Nat.{not-suc-le-zero, le_of_suc-le-suc}
use lib.ListN.{length, take, get_or, length-take}
use lib.Seq.{length-take-le}
use lib.Dec.{ltb}
use borrow.Author.Tests.{ltb-false}
use Rattle.ids.proofs.Sorted.{All, all_join}
use Rattle.signature.specs.Model.{Sig, no_func, no_pred, func_at, pred_at}
use Rattle.signature.specs.Calls.{at, absent, parent_count, concrete_type_at}
use Rattle.semantics.specs.Structure.{FuncApp, PredApp}
use Rattle.semantics.specs.Close.{demanded, demanded_at, demanded_args, func_args, pred_args, func_results, demands}
use Rattle.semantics.specs.Valid.{counts_at, FactValid, FuncAppValid, PredAppValid, FuncValid, PredValid, Below, Listed, ValidSig}

pub all_entry : {A : Type 0} (P : A → Type 0) (l : List A) (i : ℕ) (d : A) → All P l → i < length l → P (get_or l i d)
all_entry P [] i d h k = absurd (not-suc-le-zero k)
all_entry P (x ∷ xs) zero d h k = h.0
all_entry P (x ∷ xs) (suc i) d h k = all_entry P xs i d h.1 (le_of_suc-le-suc k)

take_below : (n k : ℕ) (l : List ℕ) → Below n l → Below n (take k l)
take_below n zero l h = tt
take_below n (suc k) [] h = tt
take_below n (suc k) (e ∷ es) h = (h.0, take_below n k es h.1)

module _ (g : Sig) (v : ValidSig g) (n : ℕ) where
  demanded_at_valid : (t : ℕ) (ps : List ℕ) (e : ℕ) → t < length g.types → Listed n ps → e < n
      → All (FactValid (counts_at g n)) (demanded_at g t ps e)
  unfolding demanded_at concrete_type_at demanded
  demanded_at_valid t ps e lt lp le = go (ltb (length ps) k) refl
    where
      k : ℕ
      k = parent_count g.types t

      go : (b : Bool) → ltb (length ps) k ≡ b → All (FactValid (counts_at g n)) (demanded (elim b [ true ↦ absent | false ↦ at t k ]) ps e)
      go true q = tt
      go false q =
          let many = length-take-le k ps (ltb-false (length ps) k q) in
          let parents : Listed n (take k ps) = record { short = omega (arith, length-take k ps, lp.short); below = take_below n k ps lp.below } in
          (record { el = le; typ = lt; parents = parents; parent_count = many }, tt)

  demanded_args_valid : (ts ps xs : List ℕ) → Below (length g.types) ts → Listed n ps → Below n xs
      → All (FactValid (counts_at g n)) (demanded_args g ts ps xs)
  unfolding demanded_args
  demanded_args_valid [] ps xs lt lp lx = tt
  demanded_args_valid (t ∷ ts) ps [] lt lp lx = tt
  demanded_args_valid (t ∷ ts) ps (x ∷ xs) lt lp lx =
      all_join (FactValid (counts_at g n)) (demanded_at g t ps x) (demanded_args g ts ps xs) (demanded_at_valid t ps x lt.0 lp lx.0)
      (demanded_args_valid ts ps xs lt.1 lp lx.1)

  func_valid : (f : ℕ) → f < length g.funcs → FuncValid (length g.types) (func_at g f)
  func_valid f l = all_entry (FuncValid (length g.types)) g.funcs f no_func v.funcs.each l

  pred_valid : (p : ℕ) → p < length g.preds → PredValid (length g.types) (pred_at g p)
  pred_valid p l = all_entry (PredValid (length g.types)) g.preds p no_pred v.preds.each l

  func_args_valid : (xs : List FuncApp) → All (FuncAppValid (counts_at g n)) xs → All (FactValid (counts_at g n)) (func_args g xs)
  unfolding func_args
  func_args_valid [] h = tt
  func_args_valid (x ∷ xs) h =
      all_join (FactValid (counts_at g n)) (demanded_args g (func_at g x.func).domain x.parents x.args) (func_args g xs)
      (demanded_args_valid (func_at g x.func).domain x.parents x.args
      (func_valid x.func h.0.func).domain.below h.0.parents h.0.args.below)
      (func_args_valid xs h.1)

  pred_args_valid : (xs : List PredApp) → All (PredAppValid (counts_at g n)) xs → All (FactValid (counts_at g n)) (pred_args g xs)
  unfolding pred_args
  pred_args_valid [] h = tt
  pred_args_valid (x ∷ xs) h =
      all_join (FactValid (counts_at g n)) (demanded_args g (pred_at g x.pred).arity x.parents x.args) (pred_args g xs)
      (demanded_args_valid (pred_at g x.pred).arity x.parents x.args
      (pred_valid x.pred h.0.pred).arity.below h.0.parents h.0.args.below)
      (pred_args_valid xs h.1)

  func_results_valid : (xs : List FuncApp) → All (FuncAppValid (counts_at g n)) xs → All (FactValid (counts_at g n)) (func_results g xs)
  unfolding func_results
  func_results_valid [] h = tt
  func_results_valid (x ∷ xs) h =
      all_join (FactValid (counts_at g n)) (demanded_at g (func_at g x.func).codomain x.parents x.result) (func_results g xs)
      (demanded_at_valid (func_at g x.func).codomain x.parents x.result
      (func_valid x.func h.0.func).codomain h.0.parents h.0.result)
      (func_results_valid xs h.1)

  pub demands_valid : (apps : List FuncApp) (preds : List PredApp) → All (FuncAppValid (counts_at g n)) apps → All (PredAppValid (counts_at g n)) preds
      → All (FactValid (counts_at g n)) (demands g apps preds)
  unfolding demands
  demands_valid apps preds a p =
      all_join (FactValid (counts_at g n)) (func_args g apps) (pred_args g preds ++ func_results g apps) (func_args_valid apps a)
      (all_join (FactValid (counts_at g n)) (pred_args g preds) (func_results g apps) (pred_args_valid preds p) (func_results_valid apps a))
