-- Laws of loops over the slots of a table, one law for variables and ambients: `mk` builds the entry of a slot.
use mathlib.Core.Path.{◌≡◌, refl, sym, ap, ◌∙◌}
use mathlib.Core.Bool.{Bool, true, false, ◌&&◌}
use mathlib.Core.List.{List, [], ◌∷◌}
use Prim.Native.Nat.{ℕ, suc, ◌+◌, ◌≤◌, ◌<◌}
use native.Mathlib.Numerals.{add-one}
use native.Mathlib.Omega.{arith}
use lib.ListN.{length, drop, get_or, drop_of_length-le}
use lib.Seq.{drop-cons}
use Rattle.std.specs.Prelude.{cond}
use Rattle.std.specs.List.{list_all, count_by}
use Rattle.std.proofs.lemmas.List.Sums.{sum_by-cons}
use Rattle.bindings.specs.declared.Slot.{Slot}
use Rattle.bindings.specs.View.{slots_from}
use Rattle.bindings.proofs.Slots.{slot_given, slot_empty}

module _ {E : Type 0} (mk : ℕ → ℕ → E) (ss : List Slot) (k : ℕ) where
  -- the entries from the slot k on
  abbrev rest : List E
  rest = slots_from mk k (drop k ss)

  abbrev after : List E
  after = slots_from mk (k + 1) (drop (k + 1) ss)

  module _ (d : Slot) (h : k < length ss) where
    here : drop k ss ≡ get_or ss k d ∷ drop (suc k) ss
    here = drop-cons ss k d h

    next_given : (get_or ss k d).given ≡ true → rest ≡ mk k (get_or ss k d).el.0 ∷ after
    next_given g = rw (add-one k) (ap (slots_from mk k) here ∙ slot_given mk k (get_or ss k d) (drop (suc k) ss) g)

    next_empty : (get_or ss k d).given ≡ false → rest ≡ after
    next_empty g = rw (add-one k) (ap (slots_from mk k) here ∙ slot_empty mk k (get_or ss k d) (drop (suc k) ss) g)

  no_more : length ss ≤ k → rest ≡ []
  unfolding slots_from
  no_more h = ap (slots_from mk k) (drop_of_length-le ss {i = k} h)

  -- A search for an entry that fails a test.
  module _ (p : E → Bool) (so_far : list_all p rest ≡ list_all p (slots_from mk 0 ss)) where
    module _ (d : Slot) (h : k < length ss) where
      pub skipped : (get_or ss k d).given ≡ false → list_all p after ≡ list_all p (slots_from mk 0 ss)
      skipped g = ap (list_all p) (sym (next_empty d h g)) ∙ so_far

      module _ (g : (get_or ss k d).given ≡ true) where
        turn : (p (mk k (get_or ss k d).el.0) && list_all p after) ≡ list_all p (slots_from mk 0 ss)
        turn = ap (list_all p) (sym (next_given d h g)) ∙ so_far

        pub failed : p (mk k (get_or ss k d).el.0) ≡ false → false ≡ list_all p (slots_from mk 0 ss)
        failed e = rw e at turn

        pub passed : p (mk k (get_or ss k d).el.0) ≡ true → list_all p after ≡ list_all p (slots_from mk 0 ss)
        passed e = rw e at turn

    pub ended : length ss ≤ k → true ≡ list_all p (slots_from mk 0 ss)
    ended h = ap (list_all p) (sym (no_more h)) ∙ so_far

-- The slots that are given are as many as their entries.
module _ {E : Type 0} (mk : ℕ → ℕ → E) where
  pub given_many : (k : ℕ) (ss : List Slot) → count_by (λ (s : Slot). s.given) ss ≡ length (slots_from mk k ss)
  unfolding slots_from
  given_many k [] = refl
  given_many k (s ∷ ss) = sum_by-cons (λ (x : Slot). cond x.given 1 0) s ss ∙ go s.given (given_many (suc k) ss)
    where
      go : (t : Bool) → count_by (λ (s : Slot). s.given) ss ≡ length (slots_from mk (suc k) ss)
          → cond t 1 0 + count_by (λ (s : Slot). s.given) ss
          ≡ length {A = E} (elim t [ true ↦ mk k s.el.0 ∷ slots_from mk (suc k) ss | false ↦ slots_from mk (suc k) ss ])
      go true e = omega (arith, e)
      go false e = omega (arith, e)
