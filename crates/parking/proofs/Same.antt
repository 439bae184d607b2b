-- The test of `Same` says yes exactly where two signatures are the same.
use mathlib.Core.Path.{◌≡◌, refl, sym, ap, ◌∙◌}
use mathlib.Core.Bool.{Bool, true, false}
use mathlib.Core.List.{List, [], ◌∷◌, map}
use Prim.Native.Nat.{ℕ}
use lib.ListN.{get_or}
use lib.Dec.{eqb}
use borrow.Author.Tests.{eqb-true, eq-eqb}
use Rattle.ids.proofs.Sorted.{no_test}
use Rattle.ids.proofs.Tests.{and_then}
use Rattle.semantics.proofs.Cases.{and_first, and_second}
use Rattle.signature.specs.Model.{Sig, sig, Kind, plain, model, enum, mor, TypeM, type_entry, PredM, pred_entry, FuncM, func_entry}
use Rattle.signature.specs.Model.{ModelM, model_entry, MorAppM, mor_app_entry}
use Rattle.parking.specs.Same.{same_by, kind_numbers, type_numbers, pred_numbers, func_numbers, model_numbers, mor_app_numbers, sig_numbers, same_sig}

-- a test that says yes only of equals, and of each thing and itself
record Tells {A : Type 0} (test : A → A → Bool) : Type 0 where
  equal : (x y : A) → test x y ≡ true → x ≡ y
  itself : (x : A) → test x x ≡ true

tells_list : {A : Type 0} {test : A → A → Bool} → Tells test → Tells (same_by test)
unfolding same_by
tells_list {A} {test} t = record { equal = equal; itself = itself }
  where
    equal : (xs ys : List A) → same_by test xs ys ≡ true → xs ≡ ys
    equal [] [] e = refl
    equal [] (y ∷ ys) e = no_test e refl
    equal (x ∷ xs) [] e = no_test e refl
    equal (x ∷ xs) (y ∷ ys) e = rw (t.equal x y (and_first (test x y) (same_by test xs ys) e), equal xs ys (and_second (test x y) (same_by test xs ys) e))

    itself : (xs : List A) → same_by test xs xs ≡ true
    itself [] = refl
    itself (x ∷ xs) = and_then (t.itself x) (itself xs)

numbers_tell : Tells (same_by (same_by (same_by (same_by eqb))))
numbers_tell = tells_list (tells_list (tells_list (tells_list (record { equal = eqb-true; itself = λ n. eq-eqb n n refl }))))

-- The entry that some numbers are.

abbrev list : ℕ → List (List ℕ) → List ℕ
list i ls = get_or ls i []

abbrev kind_from : List ℕ → Kind
kind_from ns =
    elim (eqb (get_or ns 0 0) 0) [
      | true ↦ plain
      | false ↦ elim (eqb (get_or ns 0 0) 1) [ true ↦ model | false ↦ elim (eqb (get_or ns 0 0) 2) [ true ↦ enum | false ↦ mor (get_or ns 1 0) ] ]
    ]

abbrev type_from : List (List ℕ) → TypeM
type_from ls = type_entry (kind_from (list 0 ls)) (list 1 ls)

abbrev pred_from : List (List ℕ) → PredM
pred_from ls = pred_entry (list 0 ls) (list 1 ls)

abbrev func_from : List (List ℕ) → FuncM
func_from ls = func_entry (list 0 ls) (list 1 ls) (get_or (list 2 ls) 0 0)

abbrev model_from : List (List ℕ) → ModelM
model_from ls =
    let ns = list 0 ls in model_entry (get_or ns 0 0) (get_or ns 1 0) (get_or ns 2 0) (get_or ns 3 0) (get_or ns 4 0) (get_or ns 5 0)

abbrev mor_app_from : List (List ℕ) → MorAppM
mor_app_from ls = let ns = list 0 ls in mor_app_entry (get_or ns 0 0) (get_or ns 1 0) (get_or ns 2 0)

abbrev sig_from : List (List (List (List ℕ))) → Sig
sig_from ts =
    sig (map type_from (get_or ts 0 [])) (map pred_from (get_or ts 1 [])) (map func_from (get_or ts 2 [])) (map model_from (get_or ts 3 []))
    (map mor_app_from (get_or ts 4 []))

kind_from_lem : (k : Kind) → kind_from (kind_numbers k) ≡ k
unfolding kind_numbers
kind_from_lem plain = refl
kind_from_lem model = refl
kind_from_lem enum = refl
kind_from_lem (mor t) = refl

-- entry by entry
module _ {A : Type 0} (numbers : A → List (List ℕ)) (from : List (List ℕ) → A) (is : (x : A) → from (numbers x) ≡ x) where
  table_from : (xs : List A) → map from (map numbers xs) ≡ xs
  table_from [] = refl
  table_from (x ∷ xs) = rw (is x, table_from xs)

sig_from_lem : (g : Sig) → sig_from (sig_numbers g) ≡ g
unfolding sig_numbers
sig_from_lem g i =
    sig (table_from type_numbers type_from (unfold type_numbers in λ t. ap (λ (k : Kind). type_entry k t.parents) (kind_from_lem t.kind)) g.types i)
    (table_from pred_numbers pred_from (unfold pred_numbers in λ p. refl) g.preds i)
    (table_from func_numbers func_from (unfold func_numbers in λ f. refl) g.funcs i)
    (table_from model_numbers model_from (unfold model_numbers in λ m. refl) g.models i)
    (table_from mor_app_numbers mor_app_from (unfold mor_app_numbers in λ x. refl) g.mor_apps i)

pub same_sig_lem : (g h : Sig) → same_sig g h ≡ true → g ≡ h
unfolding same_sig
same_sig_lem g h e = sym (sig_from_lem g) ∙ ap sig_from (numbers_tell.equal (sig_numbers g) (sig_numbers h) e) ∙ sig_from_lem h

pub sig_same : (g : Sig) → same_sig g g ≡ true
unfolding same_sig
sig_same g = numbers_tell.itself (sig_numbers g)
