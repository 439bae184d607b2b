-- Laws of the lists that a record gives, of conflicts beside an answer, of kinds, and of what a record answers where it fits and where not.
use Prim.Native.Nat.{ℕ, zero, suc, ◌≤◌, ◌<◌, min}
use mathlib.Core.Path.{◌≡◌, refl, sym, ap, ◌∙◌}
use mathlib.Core.Bool.{true, false}
use mathlib.Core.List.{List, map}
use mathlib.Core.Option.{Option, none, some}
use native.Mathlib.Omega.{arith}
use lib.ListN.{length, take, get_or-eq_default, get_or-map, length-map}
use denote.Param.Members.{Called, Mut}
use Rattle.std.specs.Array.{IsMapOf}
use Rattle.std.proofs.lemmas.List.{ext_get_or, get_or_default}
use Rattle.ids.specs.Limits.{max_list}
use Rattle.ids.specs.Ids.{given_of}
use Rattle.ids.proofs.Lists.{given_held}
use Rattle.ids.proofs.Views.{take_same}
use Rattle.ids.proofs.Tests.{chosen, unchosen}
use Rattle.semantics.specs.Calls.{Call, Machine, Step}
use Rattle.semantics.specs.Sheet.{Record, Form, forms, form_of, call_in, carry_out}
use Rattle.records.specs.View.{fits_form}
use Rattle.carrying.specs.declared.Carried.{Carried}
use Rattle.carrying.specs.View.{carried_step, CarriedM, carried_of, with_conflicts, form_step}

-- an array of which each entry is made of the one in another
pub mapped : {F A B C : Type 0} (g : Mut F (A × Unit {0}) B) (f : B → C) (h : A → C) → ((p : F) (x : A) (y : B) (q : F) → Called g p (x, tt) y q → f y ≡ h x)
    → (made : F) (xs : List A) (ys : List B) (n : ℕ) (d : A) (e : B) → length xs ≡ n → IsMapOf g made xs ys n → map f ys ≡ map h xs
mapped g f h called made xs ys n d e long m =
    ext_get_or (f e) (map f ys) (map h xs) (omega (arith, long, m.long, length-map ys f, length-map xs h)) (λ i less.
    let in_ys : i < n = omega (arith, less, m.long, length-map ys f) in
    let (p, q, one) = m.at i d e in_ys in
    get_or-map f ys i e
    ∙ called p _ _ q one
    ∙ sym (get_or-map h xs i d)
    ∙ get_or_default (map h xs) i (h d) (f e) (omega (arith, in_ys, long, length-map xs h)))

-- the first n of the slots, as they are given to a call
pub slots_given : (xs : List ℕ) (n len : ℕ) → length xs ≡ max_list → len ≡ min n max_list → given_of len xs ≡ take n xs
slots_given xs n len long h = given_held len xs (omega arith) ∙ take_same len n xs (omega arith)

-- the step of a record that is carried out, with the conflicts as they are held
pub carried_step_lem : (r : Carried) {s : Step} → carried_of r ≡ with_conflicts s → carried_step r ≡ s
carried_step_lem r is = ap (λ (k : CarriedM). k.step) is

-- Kinds by number.

-- 0 has no form, nor has a number over 15
pub formless : (k : ℕ) → (1 ≤ k → k ≤ 15 → ⊥) → none ≡ form_of k
unfolding form_of forms
formless zero h = refl
formless (suc k) h = sym (get_or-eq_default forms none {n = suc k} (omega (arith, h)))

module _ (r : Record) (m : Machine) where
  -- a record is of the form of the kind that it has
  pub of_kind : {k j : ℕ} → k ≡ j → form_step (form_of j) r m ≡ form_step (form_of k) r m
  of_kind e = ap (λ (k : ℕ). form_step (form_of k) r m) (sym e)

  -- a record that fits is the call of its form
  pub fitting : (o : Option Form) → fits_form o r ≡ true → form_step o r m ≡ carry_out (call_in o r) m
  unfolding fits_form form_step call_in carry_out
  fitting none h = refl
  fitting (some f) h = ap (λ (c : Option Call). carry_out c m) (chosen none h)

  -- one that does not is none
  pub unfitting : (o : Option Form) → fits_form o r ≡ false → carry_out none m ≡ carry_out (call_in o r) m
  unfolding fits_form call_in
  unfitting none h = refl
  unfitting (some f) h = ap (λ (c : Option Call). carry_out c m) (unchosen (some (f.call r)) h)
