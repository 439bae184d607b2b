-- Laws of the look that tells whether an imposing merges parents: of two parents, of two lists, and of the facts of an element and a type.
use mathlib.Core.Path.{◌≡◌, refl, sym, ap, subst, ◌∙◌}
use mathlib.Core.Bool.{Bool, true, false, not, ◌&&◌, ◌||◌}
use mathlib.Core.List.{List, [], ◌∷◌, map}
use Prim.Native.Nat.{ℕ, zero, suc, ◌+◌, ◌-◌, ◌≤◌, ◌<◌}
use native.Mathlib.Omega.{arith}
use lib.ListN.{length, take, drop, get_or, get_or-map, length-map, length-take, length-drop, drop_of_length-le}
use lib.Seq.{drop-drop, drop-cons, get_or-drop, take_all}
use native.Mathlib.Numerals.{add-one}
use lib.Dec.{eqb}
use borrow.Author.Tests.{eq-eqb, ne_eqb, eqb-true}
use Rattle.ids.specs.declared.Ordering.{Ordering}
use Rattle.ids.specs.declared.Ordering.TheVariants.{Less, Equal, Greater}
use Rattle.ids.specs.declared.ElId.{ElId}
use Rattle.ids.specs.declared.ElIds.{ElIds}
use Rattle.ids.specs.Ids.{el_of, els_of}
use Rattle.ids.specs.Order.{order_of, then_of, lex_of}
use Rattle.ids.specs.Sorted.{All, Sorted}
use Rattle.ids.proofs.Views.{view_next, view_done}
use Rattle.ids.proofs.Sorted.{no_test, all_map}
use Rattle.unification.specs.Roots.{root_of}
use Rattle.semantics.specs.Structure.{Fact, fact, compare_fact}
use Rattle.semantics.specs.Types.{marked, facts_at}
use Rattle.semantics.proofs.Orders.{order_ordered, order_equal}
use Rattle.rows.specs.Table.{is_less}
use Rattle.imposing.specs.View.{FirstOf}
use Rattle.imposing.specs.Keeps.{keeps_roots, keeps_pair, keeps_parents, keeps_fact, keeps_all}

-- Two parents, by their roots.
module _ (ls : List ℕ) (ms : List Bool) (p q : ℕ) {a b : ℕ} (first : a ≡ root_of ls p) (second : b ≡ root_of ls q) where
  by_roots : keeps_roots ms a b ≡ keeps_pair ls ms p q
  unfolding keeps_pair
  by_roots = λ i. keeps_roots ms (first i) (second i)

  -- they have one root
  pub pair_one : a ≡ b → true ≡ keeps_pair ls ms p q
  unfolding keeps_roots
  pair_one e = sym (rw (eq-eqb a b e, keeps_roots)) ∙ by_roots

  -- they have two
  pub pair_two : (a ≡ b → ⊥) → {m : Bool} → m ≡ (marked ms a || marked ms b) → not m ≡ keeps_pair ls ms p q
  unfolding keeps_roots
  pair_two d e = ap not e ∙ sym (rw (ne_eqb a b d, keeps_roots)) ∙ by_roots

-- The loop over two lists of parents, at the index i.
module _ (ls : List ℕ) (ms : List Bool) (ps qs : ElIds) (i : ℕ)
    (so_far : keeps_parents ls ms (drop i (els_of ps)) (drop i (els_of qs)) ≡ keeps_parents ls ms (els_of ps) (els_of qs)) where
  module _ (d e : ElId) (h : i < length (els_of ps)) (k : i < length (els_of qs)) where
    pair_next : (keeps_pair ls ms (get_or ps.ids i d).0 (get_or qs.ids i e).0 && keeps_parents ls ms (drop (i + 1) (els_of ps)) (drop (i + 1) (els_of qs)))
        ≡ keeps_parents ls ms (els_of ps) (els_of qs)
    unfolding keeps_parents
    pair_next =
        (λ j. keeps_parents ls ms (sym (view_next el_of ps.len ps.ids i d h) j) (sym (view_next el_of qs.len qs.ids i e k) j)) ∙ so_far

    pub pair_kept : keeps_pair ls ms (get_or ps.ids i d).0 (get_or qs.ids i e).0 ≡ true
        → keeps_parents ls ms (drop (i + 1) (els_of ps)) (drop (i + 1) (els_of qs)) ≡ keeps_parents ls ms (els_of ps) (els_of qs)
    pair_kept t = rw t at pair_next

    pub pair_merged : keeps_pair ls ms (get_or ps.ids i d).0 (get_or qs.ids i e).0 ≡ false → false ≡ keeps_parents ls ms (els_of ps) (els_of qs)
    pair_merged t = rw t at pair_next

  -- the second list is passed
  pub parents_short : length (els_of qs) ≤ i → true ≡ keeps_parents ls ms (els_of ps) (els_of qs)
  unfolding keeps_parents
  parents_short h =
      sym (ap (λ (l : List ℕ). keeps_parents ls ms (drop i (els_of ps)) l) (view_done el_of qs.len qs.ids i h) ∙ none (drop i (els_of ps))) ∙ so_far
    where
      none : (l : List ℕ) → keeps_parents ls ms l [] ≡ true
      none [] = refl
      none (x ∷ xs) = refl

  -- the first list is passed
  pub parents_done : length (els_of ps) ≤ i → true ≡ keeps_parents ls ms (els_of ps) (els_of qs)
  unfolding keeps_parents
  parents_done h = sym (ap (λ (l : List ℕ). keeps_parents ls ms l (drop i (els_of qs))) (view_done el_of ps.len ps.ids i h)) ∙ so_far

-- The facts of an element and a type among others.

abbrev pub is_of : ℕ → ℕ → Fact → Bool
is_of e t g = eqb g.el e && eqb g.typ t

module _ (ls : List ℕ) (ms : List Bool) (root : ℕ) (f : Fact) where
  -- what is kept among the facts gs
  abbrev pub kept : List Fact → Bool
  kept gs = keeps_all ls ms f (facts_at root gs)

  module _ (g : Fact) (gs : List Fact) where
    -- a fact of another element or type says nothing
    pub kept_other : is_of root f.typ g ≡ false → kept (g ∷ gs) ≡ kept gs
    unfolding facts_at keeps_all keeps_fact
    kept_other = go (eqb g.el root) (eqb g.typ f.typ) refl refl
      where
        go : (a b : Bool) → eqb g.el root ≡ a → eqb g.typ f.typ ≡ b → (eqb g.el root && eqb g.typ f.typ) ≡ false
            → keeps_all ls ms f (facts_at root (g ∷ gs)) ≡ keeps_all ls ms f (facts_at root gs)
        go false b p q e = rw (p, facts_at)
        go true false p q e = rw (p, q, facts_at, keeps_all, keeps_fact)
        go true true p q e = no_test (rw (p, q)) e

    -- one of them has to be kept, and so have the others
    pub kept_here : is_of root f.typ g ≡ true → kept (g ∷ gs) ≡ (keeps_parents ls ms g.parents f.parents && kept gs)
    unfolding facts_at keeps_all keeps_fact
    kept_here = go (eqb g.el root) (eqb g.typ f.typ) refl refl
      where
        go : (a b : Bool) → eqb g.el root ≡ a → eqb g.typ f.typ ≡ b → (eqb g.el root && eqb g.typ f.typ) ≡ true
            → keeps_all ls ms f (facts_at root (g ∷ gs)) ≡ (keeps_parents ls ms g.parents f.parents && keeps_all ls ms f (facts_at root gs))
        go false b p q e = no_test e (rw p)
        go true false p q e = no_test e (rw (p, q))
        go true true p q e = rw (p, q, facts_at, keeps_all, keeps_fact)

  -- where none is of them all is kept
  pub kept_none : (gs : List Fact) → All (λ g. is_of root f.typ g ≡ false) gs → kept gs ≡ true
  unfolding facts_at keeps_all
  kept_none [] h = refl
  kept_none (g ∷ gs) h = kept_other g gs h.0 ∙ kept_none gs h.1

  -- those before an index are passed
  pub kept_from : (k : ℕ) (gs : List Fact) → All (λ g. is_of root f.typ g ≡ false) (take k gs) → kept (drop k gs) ≡ kept gs
  kept_from zero gs h = refl
  kept_from (suc k) [] h = refl
  kept_from (suc k) (g ∷ gs) h = kept_from k gs h.1 ∙ sym (kept_other g gs h.0)

abbrev is_equal : Ordering → Bool
is_equal o = elim o [ Less ↦ false | Equal ↦ true | Greater ↦ false ]

abbrev is_greater : Ordering → Bool
is_greater o = elim o [ Less ↦ false | Equal ↦ false | Greater ↦ true ]

-- The order of facts, beside the key of an element and a type with no parents.
module _ (root t : ℕ) where
  same_el : (a b : ℕ) → eqb a b ≡ true → order_of a b ≡ Equal
  same_el a b e = ap (λ (x : ℕ). order_of a x) (sym (eqb-true a b e)) ∙ order_ordered.self a

  -- a fact that is smaller than the key is not of them
  pub smaller_other : (g : Fact) → compare_fact g (fact root t []) ≡ Less → is_of root t g ≡ false
  unfolding compare_fact
  smaller_other g less = go (eqb g.el root) refl (eqb g.typ t) refl
    where
      never : (ps : List ℕ) → then_of Equal (then_of Equal (lex_of ps [])) ≡ Less → {A : Type 0} → A
      never [] e = no_test refl (ap is_equal e)
      never (p ∷ ps) e = no_test refl (ap is_greater e)

      go : (a : Bool) → eqb g.el root ≡ a → (b : Bool) → eqb g.typ t ≡ b → (eqb g.el root && eqb g.typ t) ≡ false
      go false p b q = rw p
      go true p false q = rw (p, q)
      go true p true q =
          never g.parents ((λ i. then_of (sym (same_el g.el root p) i) (then_of (sym (same_el g.typ t q) i) (lex_of g.parents []))) ∙ less)

  -- one that is not of them, and is smaller than one of them, is smaller than the key
  between : (g h : Fact) → is_of root t g ≡ false → is_of root t h ≡ true → compare_fact g h ≡ Less → is_less (compare_fact g (fact root t [])) ≡ true
  unfolding compare_fact is_less
  between g h other same less =
      go (order_of g.el root) (order_of g.typ t) (order_equal g.el root) (order_equal g.typ t) (lex_of g.parents h.parents) (lex_of g.parents [])
      ((λ i. then_of (order_of g.el (sym el i)) (then_of (order_of g.typ (sym typ i)) (lex_of g.parents h.parents))) ∙ less)
    where
      both : (a b : Bool) → (a && b) ≡ true → (a ≡ true) × (b ≡ true)
      both true true e = (refl, refl)
      both true false e = no_test e refl
      both false b e = no_test e refl

      el : h.el ≡ root
      el = eqb-true h.el root (both (eqb h.el root) (eqb h.typ t) same).0

      typ : h.typ ≡ t
      typ = eqb-true h.typ t (both (eqb h.el root) (eqb h.typ t) same).1

      go : (a b : Ordering) → (a ≡ Equal → g.el ≡ root) → (b ≡ Equal → g.typ ≡ t) → (l m : Ordering) → then_of a (then_of b l) ≡ Less
          → is_less (then_of a (then_of b m)) ≡ true
      go Less b p q l m e = refl
      go Greater b p q l m e = no_test refl (ap is_greater e)
      go Equal Less p q l m e = refl
      go Equal Greater p q l m e = no_test refl (ap is_greater e)
      go Equal Equal p q l m e = no_test (rw (eq-eqb g.el root (p refl), eq-eqb g.typ t (q refl))) other

  -- in order, past one that is neither smaller nor of them no other is
  pub later_other : (g : Fact) (gs : List Fact) → Sorted compare_fact (g ∷ gs) → is_of root t g ≡ false → is_less (compare_fact g (fact root t [])) ≡ false
      → All (λ h. is_of root t h ≡ false) (g ∷ gs)
  later_other g gs s other not-less = (other, all_map (λ h less. go h (is_of root t h) refl less) gs s.0)
    where
      go : (h : Fact) (b : Bool) → is_of root t h ≡ b → compare_fact g h ≡ Less → is_of root t h ≡ false
      go h false e less = e
      go h true e less = no_test (between g h other e less) not-less

all_drop : {A : Type 0} (P : A → Type 0) (k : ℕ) (l : List A) → All P l → All P (drop k l)
all_drop P zero l h = h
all_drop P (suc k) [] h = h
all_drop P (suc k) (x ∷ xs) h = all_drop P k xs h.1

sorted_drop : {A : Type 0} (cmp : A → A → Ordering) (k : ℕ) (l : List A) → Sorted cmp l → Sorted cmp (drop k l)
sorted_drop cmp zero l h = h
sorted_drop cmp (suc k) [] h = h
sorted_drop cmp (suc k) (x ∷ xs) h = sorted_drop cmp k xs h.1

-- the entry i of the slice that begins at the index k
pub slice_next : {A B : Type 0} (f : A → B) (xs : List A) (k i : ℕ) (d : A) → i < length (take (length xs - k) (drop k xs))
    → drop (k + i) (map f xs) ≡ f (get_or (take (length xs - k) (drop k xs)) i d) ∷ drop (k + i + 1) (map f xs)
slice_next f xs k i d h =
    let whole : take (length xs - k) (drop k xs) ≡ drop k xs = take_all (length xs - k) (drop k xs) (omega (arith, length-drop k xs)) in
    let at : k + i < length (map f xs) = omega (arith, length-take (length xs - k) (drop k xs), length-drop k xs, length-map xs f) in
    rw (whole, add-one (k + i), drop-cons (map f xs) (k + i) (f d) at, get_or-map f xs (k + i) d, get_or-drop k xs i d) refl

-- The look through the facts fs from an index on.
module _ (ls : List ℕ) (ms : List Bool) (root : ℕ) (f : Fact) (fs : List Fact) where
  abbrev said : List Fact → Bool
  said = kept ls ms root f

  -- it begins at the first fact that is not smaller
  pub look_start : {b : Bool} {r : ℕ} → FirstOf b (fact root f.typ []) fs r → said (drop r fs) ≡ said fs
  look_start {r = r} first = kept_from ls ms root f r fs (all_map (smaller_other root f.typ) (take r fs) first.smaller)

  module _ (i : ℕ) (so_far : said (drop i fs) ≡ said fs) where
    -- all are looked at
    pub look_done : length fs ≤ i → true ≡ said fs
    unfolding facts_at keeps_all
    look_done h = sym (ap said (drop_of_length-le fs {i = i} h)) ∙ so_far

    module _ (g : Fact) (next : drop i fs ≡ g ∷ drop (i + 1) fs) where
      from_here : said (g ∷ drop (i + 1) fs) ≡ said fs
      from_here = ap said (sym next) ∙ so_far

      pub look_kept : is_of root f.typ g ≡ true → keeps_parents ls ms g.parents f.parents ≡ true → said (drop (i + 1) fs) ≡ said fs
      look_kept same k = sym (kept_here ls ms root f g (drop (i + 1) fs) same ∙ rw k) ∙ from_here

      pub look_refined : is_of root f.typ g ≡ true → keeps_parents ls ms g.parents f.parents ≡ false → false ≡ said fs
      look_refined same k = sym (kept_here ls ms root f g (drop (i + 1) fs) same ∙ rw k) ∙ from_here

      pub look_other : is_of root f.typ g ≡ false → said (drop (i + 1) fs) ≡ said fs
      look_other other = sym (kept_other ls ms root f g (drop (i + 1) fs) other) ∙ from_here

      -- in order, none is of the element and the type from here on
      pub look_past : {b : Bool} {r : ℕ} → is_of root f.typ g ≡ false → FirstOf b (fact root f.typ []) fs r → b ≡ true → r ≤ i → Sorted compare_fact fs
          → true ≡ said fs
      look_past {r = r} other first in_order h s =
          let far : r + (i - r) ≡ i = omega arith in
          let there : drop (i - r) (drop r fs) ≡ g ∷ drop (i + 1) fs = drop-drop (i - r) r fs ∙ ap (λ (k : ℕ). drop k fs) far ∙ next in
          let rest = subst (All (λ h. is_less (compare_fact h (fact root f.typ [])) ≡ false)) there (all_drop _ (i - r) (drop r fs) (first.rest in_order)) in
          let sorted = subst (Sorted compare_fact) next (sorted_drop compare_fact i fs s) in
          sym (kept_none ls ms root f (g ∷ drop (i + 1) fs) (later_other root f.typ g (drop (i + 1) fs) sorted other rest.0)) ∙ from_here
