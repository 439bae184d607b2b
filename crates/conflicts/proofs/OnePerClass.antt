-- At most one conflict for each class, in root order: of every structure.
use mathlib.Core.Path.{◌≡◌, refl, sym, ap, ◌∙◌}
use mathlib.Core.Logic.{inl, inr}
use mathlib.Core.Bool.{Bool, true, false, ◌&&◌}
use mathlib.Core.List.Memᴰ
use mathlib.Core.List.{List, [], ◌∷◌, ◌++◌, Memᴰ}
use Prim.Native.Nat.{ℕ, zero, suc, ◌≤◌, ◌<◌}
use native.Mathlib.Omega.{arith}
use lib.ListN.{length}
use lib.Dec.{eqb, ltb}
use borrow.Author.Tests.{eqb-true}
use Rattle.ids.specs.declared.Ordering.{Ordering}
use Rattle.ids.specs.declared.Ordering.TheVariants.{Less}
use Rattle.ids.specs.Order.{order_of}
use Rattle.ids.specs.Sorted.{All, Sorted}
use Rattle.ids.proofs.Orders.{less}
use Rattle.ids.proofs.Sorted.{all_map, all_join, all_at}
use Rattle.unification.specs.Roots.{root_of}
use Rattle.semantics.specs.Structure.{Fact, Structure}
use Rattle.semantics.specs.Types.{facts_at, concrete_types_of}
use Rattle.semantics.specs.Conflicts.{Conflict, conflict, disagree, first_conflict, conflict_among, ordered_at, conflict_at, conflicts_below, type_conflicts_of}
use Rattle.semantics.proofs.Orders.{order_less}
use Rattle.conflicts.proofs.Laws.{at_length}

-- conflicts by their elements
abbrev pub by_el : Conflict → Conflict → Ordering
by_el c d = order_of c.el d.el

-- a conflict is at the root of its class, an element below n, and its two facts disagree
pub record Found (s : Structure) (n : ℕ) (c : Conflict) : Type 0 where
  pub there : c.el < n
  pub root : root_of s.links c.el ≡ c.el
  pub differ : disagree s.links c.a c.b ≡ true

-- The conflict of a class is that among its facts in order, where its element is a root with two stored facts or more; else there is none. So
-- `ordered_at`, which the finds of M-103 count over, leaves the conflicts as they were.
pub conflict_of_class : (s : Structure) (e : ℕ)
    → ◌≡◌ {A = List Conflict} (conflict_at s e)
    (elim (eqb (root_of s.links e) e && ltb 1 (length (facts_at e s.facts))) [
      | true ↦ conflict_among s.links e (concrete_types_of s.links s.facts e)
      | false ↦ []
    ])
unfolding conflict_at ordered_at conflict_among
conflict_of_class s e = go (eqb (root_of s.links e) e && ltb 1 (length (facts_at e s.facts)))
  where
    go : (t : Bool) → ◌≡◌ {A = List Conflict} (conflict_among s.links e (elim t [ true ↦ concrete_types_of s.links s.facts e | false ↦ [] ]))
        (elim t [ true ↦ conflict_among s.links e (concrete_types_of s.links s.facts e) | false ↦ [] ])
    go true = refl
    go false = refl

-- Sorted lists.
module _ {A : Type 0} (cmp : A → A → Ordering) where
  sorted_short : (l : List A) → length l ≤ 1 → Sorted cmp l
  sorted_short [] h = tt
  sorted_short (x ∷ []) h = (tt, tt)
  sorted_short (x ∷ y ∷ l) h = absurd (omega arith)

  sorted_join : (k l : List A) → Sorted cmp k → Sorted cmp l → All (λ x. All (λ y. cmp x y ≡ Less) l) k → Sorted cmp (k ++ l)
  sorted_join [] l hk hl h = hl
  sorted_join (x ∷ xs) l hk hl h = (all_join (λ y. cmp x y ≡ Less) xs l hk.0 h.0, sorted_join xs l hk.1 hl h.1)

-- The conflict of a class.

abbrev Differing : List ℕ → ℕ → Conflict → Type 0
Differing ls e c = (c.el ≡ e) × (disagree ls c.a c.b ≡ true)

abbrev Of : Structure → ℕ → Conflict → Type 0
Of s e c = (c.el ≡ e) × Found s (suc e) c

first_found : (ls : List ℕ) (e : ℕ) (f : Fact) (gs : List Fact)
    → All (Differing ls e) (first_conflict ls e f gs)
unfolding first_conflict
first_found ls e f [] = tt
first_found ls e f (g ∷ gs) = go (disagree ls f g) refl (first_found ls e f gs)
  where
    go : (t : Bool) → disagree ls f g ≡ t → All (Differing ls e) (first_conflict ls e f gs)
        → All (Differing ls e) (elim t [ true ↦ conflict e f g ∷ [] | false ↦ first_conflict ls e f gs ])
    go true d h = ((refl, d), tt)
    go false d h = h

among_found : (ls : List ℕ) (e : ℕ) (fs : List Fact)
    → All (Differing ls e) (conflict_among ls e fs)
unfolding conflict_among
among_found ls e [] = tt
among_found ls e (f ∷ fs) = first_found ls e f fs

found_at : (s : Structure) (e : ℕ) → root_of s.links e ≡ e → (c : Conflict) → Differing s.links e c → Of s e c
found_at s e root c h = (h.0, record { there = omega (arith, h.0); root = rw h.0 root; differ = h.1 })

at_found : (s : Structure) (e : ℕ) → All (Of s e) (conflict_at s e)
unfolding conflict_at ordered_at conflict_among
at_found s e = go (eqb (root_of s.links e) e) refl
  where
    go : (t : Bool) → eqb (root_of s.links e) e ≡ t
        → All (Of s e) (conflict_among s.links e (elim (t && ltb 1 (length (facts_at e s.facts))) [ true ↦ concrete_types_of s.links s.facts e | false ↦ [] ]))
    go true q =
        let fs : List Fact = elim (ltb 1 (length (facts_at e s.facts))) [ true ↦ concrete_types_of s.links s.facts e | false ↦ [] ] in
        all_map {P = Differing s.links e} {Q = Of s e} (found_at s e (eqb-true (root_of s.links e) e q)) (conflict_among s.links e fs) (among_found s.links e fs)
    go false q = tt

-- The conflicts of the classes below n.

found_later : (s : Structure) (e : ℕ) (c : Conflict) → Found s e c → Found s (suc e) c
found_later s e c h = record { there = omega (arith, h.there); root = h.root; differ = h.differ }

below_found : (s : Structure) (n : ℕ) → All (Found s n) (conflicts_below s n)
unfolding conflicts_below
below_found s zero = tt
below_found s (suc e) =
    all_join (Found s (suc e)) (conflicts_below s e) (conflict_at s e)
    (all_map {P = Found s e} {Q = Found s (suc e)} (found_later s e) (conflicts_below s e) (below_found s e))
    (all_map {P = Of s e} {Q = Found s (suc e)} (λ c h. h.1) (conflict_at s e) (at_found s e))

abbrev Above : Conflict → Conflict → Type 0
Above c d = by_el c d ≡ Less

above : (s : Structure) (e : ℕ) (c : Conflict) → Found s e c → (d : Conflict) → Of s e d → Above c d
above s e c h d k = less c.el d.el (omega (arith, h.there, k.0))

below_rises : (s : Structure) (n : ℕ) → Sorted by_el (conflicts_below s n)
unfolding conflicts_below
below_rises s zero = tt
below_rises s (suc e) =
    sorted_join by_el (conflicts_below s e) (conflict_at s e) (below_rises s e) (sorted_short by_el (conflict_at s e) (at_length s e))
    (all_map {P = Found s e} {Q = λ c. All (Above c) (conflict_at s e)} (λ c h. all_map {P = Of s e} {Q = Above c} (above s e c h) (conflict_at s e) (at_found s e)) (conflicts_below s e) (below_found s e))

-- "Classes in root order": the elements of the conflicts rise, so that no element has two.
pub conflicts_rise : (s : Structure) → Sorted by_el (type_conflicts_of s)
unfolding type_conflicts_of
conflicts_rise s = below_rises s (length s.links)

pub conflicts_found : (s : Structure) → All (Found s (length s.links)) (type_conflicts_of s)
unfolding type_conflicts_of
conflicts_found s = below_found s (length s.links)

-- an element that is smaller than those of a list is none of them
before : (x : Conflict) (l : List Conflict) → All (Above x) l → (d : Conflict) → Memᴰ d l → x.el ≡ d.el → ⊥
before x l h d m e =
    let smaller : x.el < d.el = order_less _ _ (all_at (Above x) l h d m) in
    omega arith

-- in a list that rises, conflicts at one element are one
same_el : (l : List Conflict) → Sorted by_el l → (c d : Conflict) → Memᴰ c l → Memᴰ d l → c.el ≡ d.el → c ≡ d
same_el [] h c d m k e = absurd (Memᴰ.not-nil m)
same_el (x ∷ xs) h c d m k e =
    elim (Memᴰ.cases_cons m) [
      | inl p ↦
          elim (Memᴰ.cases_cons k) [
            | inl q ↦ p ∙ sym q
            | inr q ↦ absurd (before x xs h.0 d q (ap (λ (y : Conflict). y.el) (sym p) ∙ e))
          ]
      | inr p ↦
          elim (Memᴰ.cases_cons k) [
            | inl q ↦ absurd (before x xs h.0 c p (ap (λ (y : Conflict). y.el) (sym q) ∙ sym e))
            | inr q ↦ same_el xs h.1 c d p q e
          ]
    ]

-- "the search moves on to the next class": two conflicts of one class are one
pub one_per_class : (s : Structure) (c d : Conflict) → Memᴰ c (type_conflicts_of s) → Memᴰ d (type_conflicts_of s)
    → root_of s.links c.el ≡ root_of s.links d.el → c ≡ d
one_per_class s c d m k e =
    let p = (all_at (Found s (length s.links)) _ (conflicts_found s) c m).root in
    let q = (all_at (Found s (length s.links)) _ (conflicts_found s) d k).root in
    same_el _ (conflicts_rise s) c d m k (sym p ∙ e ∙ q)
