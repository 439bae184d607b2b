-- The slots of variables and ambients as rows: slot by slot.
use mathlib.Core.Path.{◌≡◌, refl, sym, ap, ◌∙◌}
use mathlib.Core.Bool.{Bool, true, false}
use mathlib.Core.List.{List, [], ◌∷◌, ◌++◌, append-nil, map}
use Prim.Native.Nat.{ℕ, suc, ◌+◌, ◌≤◌, ◌<◌}
use native.Mathlib.Numerals.{add-one}
use native.Mathlib.Omega.{arith}
use lib.ListN.{length, take, get_or, set, length-take, length-set}
use lib.Seq.{take-suc, take_all}
use Rattle.ids.proofs.Views.{view_pushed}
use Rattle.bindings.specs.declared.Slot.{Slot}
use Rattle.bindings.specs.View.{slots_from}
use Rattle.bindings.proofs.Slots.{slot_given, slot_empty}
use Rattle.semantics.specs.Structure.{variable, ambient}
use Rattle.file.specs.Rows.{pair_columns, var_row, ambient_row}
use Rattle.storing.specs.View.{Rows, slot_rows}

module _ {E : Type 0} (mk : ℕ → ℕ → E) where
  slots_append : (k : ℕ) (xs ys : List Slot) → slots_from mk k (xs ++ ys) ≡ slots_from mk k xs ++ slots_from mk (k + length xs) ys
  unfolding slots_from
  slots_append k [] ys = ap (λ (n : ℕ). slots_from mk n ys) (omega arith)
  slots_append k (x ∷ xs) ys = go x.given (slots_append (suc k) xs ys ∙ ap (λ (n : ℕ). slots_from mk (suc k) xs ++ slots_from mk n ys) (omega arith))
    where
      go : (t : Bool) → slots_from mk (suc k) (xs ++ ys) ≡ slots_from mk (suc k) xs ++ slots_from mk (k + suc (length xs)) ys
          → ◌≡◌ {A = List E} (elim t [ true ↦ mk k x.el.0 ∷ slots_from mk (suc k) (xs ++ ys) | false ↦ slots_from mk (suc k) (xs ++ ys) ])
          (elim t [ true ↦ mk k x.el.0 ∷ slots_from mk (suc k) xs | false ↦ slots_from mk (suc k) xs ] ++ slots_from mk (k + suc (length xs)) ys)
      go true e = ap (λ (l : List E). mk k x.el.0 ∷ l) e
      go false e = e

  -- the entries of one slot more: that slot's, where it is given
  module _ (d : Slot) (i : ℕ) (ss : List Slot) (h : i < length ss) where
    grown : slots_from mk 0 (take (i + 1) ss) ≡ slots_from mk 0 (take i ss) ++ slots_from mk i (get_or ss i d ∷ [])
    grown =
        rw (add-one, take-suc ss i d h)
        (slots_append 0 (take i ss) (get_or ss i d ∷ [])
        ∙ ap (λ (n : ℕ). slots_from mk 0 (take i ss) ++ slots_from mk n (get_or ss i d ∷ [])) (omega (arith, length-take i ss)))

    grown_given : (get_or ss i d).given ≡ true → slots_from mk 0 (take (i + 1) ss) ≡ slots_from mk 0 (take i ss) ++ (mk i (get_or ss i d).el.0 ∷ [])
    unfolding slots_from
    grown_given g = grown ∙ ap (λ (l : List E). slots_from mk 0 (take i ss) ++ l) (slot_given mk i (get_or ss i d) [] g)

    grown_empty : (get_or ss i d).given ≡ false → slots_from mk 0 (take (i + 1) ss) ≡ slots_from mk 0 (take i ss)
    unfolding slots_from
    grown_empty g = grown ∙ ap (λ (l : List E). slots_from mk 0 (take i ss) ++ l) (slot_empty mk i (get_or ss i d) [] g) ∙ append-nil (slots_from mk 0 (take i ss))

-- entries whose rows are the key and the element of their slots
slot_rows_are : {E : Type 0} (mk : ℕ → ℕ → E) (row : E → List ℕ) → ((k e : ℕ) → row (mk k e) ≡ k ∷ e ∷ []) → (ss : List Slot)
    → slot_rows ss ≡ map row (slots_from mk 0 ss)
unfolding slots_from
slot_rows_are {E} mk row is ss = go 0 ss
  where
    go : (k : ℕ) (ss : List Slot) → slots_from (λ (key el : ℕ). key ∷ el ∷ []) k ss ≡ map row (slots_from mk k ss)
    go k [] = refl
    go k (s ∷ ss) = one s.given (go (suc k) ss)
      where
        one : (t : Bool) → slots_from (λ (key el : ℕ). key ∷ el ∷ []) (suc k) ss ≡ map row (slots_from mk (suc k) ss)
            → ◌≡◌ {A = List (List ℕ)}
            (elim t [ true ↦ (k ∷ s.el.0 ∷ []) ∷ slots_from (λ (key el : ℕ). key ∷ el ∷ []) (suc k) ss | false ↦ slots_from (λ (key el : ℕ). key ∷ el ∷ []) (suc k) ss ])
            (map row (elim t [ true ↦ mk k s.el.0 ∷ slots_from mk (suc k) ss | false ↦ slots_from mk (suc k) ss ]))
        one true e = λ i. sym (is k s.el.0) i ∷ e i
        one false e = e

pub var_rows : (ss : List Slot) → slot_rows ss ≡ map var_row (slots_from variable 0 ss)
unfolding var_row
var_rows ss = slot_rows_are variable var_row (λ k e. refl) ss

pub ambient_rows : (ss : List Slot) → slot_rows ss ≡ map ambient_row (slots_from ambient 0 ss)
unfolding ambient_row
ambient_rows ss = slot_rows_are ambient ambient_row (λ k e. refl) ss

-- The rows so far: those of the slots before a key.
module _ (ss : List Slot) where
  pub record Filling (key : ℕ) (rows : List (List ℕ)) (n : ℕ) : Type 0 where
    pub so_far : Rows pair_columns (slot_rows (take key ss)) (length ss) rows n
    pub few : n ≤ key

  pub filling_none : (rows : List (List ℕ)) → length rows ≡ length ss → Filling 0 rows 0
  unfolding slots_from
  filling_none rows e = record { so_far = record { is = refl; most = omega arith; long = e }; few = omega arith }

  module _ {key n : ℕ} {rows : List (List ℕ)} (f : Filling key rows n) where
    module _ (d : Slot) (h : key < length ss) where
      pub filling_empty : (get_or ss key d).given ≡ false → Filling (key + 1) rows n
      filling_empty g = record {
        so_far = record {
          is = f.so_far.is ∙ sym (grown_empty (λ (k e : ℕ). k ∷ e ∷ []) d key ss h g);
          most = f.so_far.most;
          long = f.so_far.long;
        };
        few = omega (arith, f.few);
      }

      pub filling_given : (get_or ss key d).given ≡ true → (r : List ℕ) → take pair_columns r ≡ key ∷ (get_or ss key d).el.0 ∷ []
          → Filling (key + 1) (set rows n r) (n + 1)
      filling_given g r is = record {
        so_far = record {
          is =
              view_pushed (take pair_columns) n rows r (omega (arith, f.few, f.so_far.long))
              ∙ (λ i. f.so_far.is i ++ is i ∷ [])
              ∙ sym (grown_given (λ (k e : ℕ). k ∷ e ∷ []) d key ss h g);
          most = omega (arith, f.few);
          long = length-set rows n r ∙ f.so_far.long;
        };
        few = omega (arith, f.few);
      }

    pub filling_all : length ss ≤ key → Rows pair_columns (slot_rows ss) (length ss) rows n
    filling_all h = record {
      is = f.so_far.is ∙ ap slot_rows (take_all key ss h);
      most = f.so_far.most;
      long = f.so_far.long;
    }
