-- Laws of what is judged of every entry of a table, and along the links.
use mathlib.Core.Path.{◌≡◌, refl, sym, ap, ◌∙◌}
use mathlib.Core.Bool.{Bool, true, false, not, ◌&&◌, ◌||◌}
use mathlib.Core.List.{List, [], ◌∷◌, map, reverse, reverse_aux}
use Prim.Native.Nat.{ℕ, ◌+◌, ◌≤◌, ◌<◌}
use native.Mathlib.Numerals.{add-one}
use native.Mathlib.Omega.{arith}
use lib.ListN.{length, take, drop, get_or, length-map, length-take, length-reverse, drop_of_length-le}
use Rattle.std.specs.List.{list_all}
use lib.Seq.{drop-cons}
use lib.Dec.{eqb, leb, ltb}
use borrow.Author.Tests.{lt-ltb, le-ltb, lt-leb, le-leb, eq-eqb, ne_eqb}
use mathlib.Core.Logic.{⊎_elim}
use Rattle.ids.specs.Table.{Sized}
use Rattle.ids.proofs.Answers.{not_true, not_false}
use Rattle.ids.proofs.Views.{take_same}
use Rattle.unification.specs.Roots.{link, root_of}
use Rattle.unification.proofs.Numbers.{less_or}
use Rattle.unification.proofs.Arrays.{link_past}
use Rattle.unification.proofs.Laws.{root_stop, root_pass, root_le}
use Rattle.std.proofs.lemmas.List.Folds.{list_all-map}
use Rattle.ids.specs.declared.Ordering.{Ordering}
use Rattle.file.specs.File.{link_rises, in_order}
use Rattle.validating.proofs.Orders.{in_order_map}

-- A search for an entry that fails a test, which has come to the entry i: each earlier one passed.
module _ {A : Type 0} (p : A → Bool) (xs : List A) {i : ℕ} (so_far : list_all p (drop i xs) ≡ list_all p xs) where
  module _ (d : A) (h : i < length xs) where
    turn : (p (get_or xs i d) && list_all p (drop (i + 1) xs)) ≡ list_all p xs
    turn = rw (add-one i) (sym (ap (list_all p) (drop-cons xs i d h)) ∙ so_far)

    pub failed : p (get_or xs i d) ≡ false → false ≡ list_all p xs
    failed e = rw e at turn

    pub passed : p (get_or xs i d) ≡ true → list_all p (drop (i + 1) xs) ≡ list_all p xs
    passed e = rw e at turn

  pub ended : length xs ≤ i → true ≡ list_all p xs
  ended h = ap (list_all p) (sym (drop_of_length-le xs {i = i} h)) ∙ so_far

-- The entries of a table, as far as its length says.
module _ {A E : Type 0} (of : A → E) {limit n : ℕ} (len : ℕ) (items : List A) (size : Sized (map of (take len items)) limit n) where
  taken : take n items ≡ take len items
  taken = take_same n len items (omega (arith, size.is, length-map (take len items) of, length-take len items))

  pub all_taken : (p : E → Bool) → list_all (λ (x : A). p (of x)) (take n items) ≡ list_all p (map of (take len items))
  all_taken p = ap (list_all (λ (x : A). p (of x))) taken ∙ sym (list_all-map p of (take len items))

  pub order_taken : (cmp : E → E → Ordering) → in_order (λ (x y : A). cmp (of x) (of y)) (take n items) ≡ in_order cmp (map of (take len items))
  order_taken cmp = ap (in_order (λ (x y : A). cmp (of x) (of y))) taken ∙ in_order_map cmp of (take len items)

-- The queue of pairs is seen from its end.

and_swap : (a b c : Bool) → (b && (a && c)) ≡ ((a && b) && c)
and_swap true b c = refl
and_swap false true c = refl
and_swap false false c = refl

module _ {A : Type 0} (p : A → Bool) where
  all_onto : (l r : List A) → list_all p (reverse_aux l r) ≡ (list_all p l && list_all p r)
  all_onto [] r = refl
  all_onto (x ∷ l) r = all_onto l (x ∷ r) ∙ and_swap (p x) (list_all p l) (list_all p r)

  pub all_reversed : (l : List A) → list_all p l ≡ list_all p (reverse l)
  all_reversed l = sym (all_onto l [] ∙ and_true (list_all p l))
    where
      and_true : (b : Bool) → (b && true) ≡ b
      and_true true = refl
      and_true false = refl

pub size_forward : {A : Type 0} {l : List A} {cap n : ℕ} → Sized (reverse l) cap n → Sized l cap n
size_forward {l = l} s = record { is = s.is ∙ length-reverse l; most = s.most }

-- An element is a root exactly where its link does not fall.
module _ (ls : List ℕ) (e : ℕ) where
  root_stands : e ≤ link ls e → eqb (root_of ls e) e ≡ true
  root_stands h = eq-eqb (root_of ls e) e (root_stop ls e h)

  root_moves : link ls e < e → eqb (root_of ls e) e ≡ false
  root_moves h = ne_eqb (root_of ls e) e (λ q. omega (arith, q, root_pass ls e h, root_le ls (link ls e)))

-- as the code tells it
pub root_told : (ls : List ℕ) (e : ℕ) → leb e (link ls e) ≡ eqb (root_of ls e) e
root_told ls e =
    ⊎_elim (λ (h : link ls e < e). lt-leb e (link ls e) h ∙ sym (root_moves ls e h)) (λ (h : e ≤ link ls e). le-leb e (link ls e) h ∙ sym (root_stands ls e h))
    (less_or (link ls e) e)

pub root_past : (ls : List ℕ) (e : ℕ) → length ls ≤ e → true ≡ eqb (root_of ls e) e
root_past ls e h = sym (root_stands ls e (omega (arith, link_past ls e h)))

-- A search for a link that rises, which has come to the element e.
module _ (ls : List ℕ) {e : ℕ} (so_far : link_rises e (drop e ls) ≡ link_rises 0 ls) where
  module _ (h : e < length ls) where
    read : (ltb e (get_or ls e 0) || link_rises (e + 1) (drop (e + 1) ls)) ≡ link_rises 0 ls
    unfolding link_rises
    read = rw (add-one e) (sym (ap (link_rises e) (drop-cons ls e 0 h)) ∙ so_far)

    pub rises : e < get_or ls e 0 → false ≡ not (link_rises 0 ls)
    rises k = sym (not_true (sym (rw (lt-ltb e (get_or ls e 0) k) at read)))

    pub falls : get_or ls e 0 ≤ e → link_rises (e + 1) (drop (e + 1) ls) ≡ link_rises 0 ls
    falls k = rw (le-ltb e (get_or ls e 0) k) at read

  pub none_rises : length ls ≤ e → true ≡ not (link_rises 0 ls)
  unfolding link_rises
  none_rises h = sym (not_false (sym (ap (link_rises e) (sym (drop_of_length-le ls {i = e} h)) ∙ so_far)))
