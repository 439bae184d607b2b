-- Laws of slots: the table of their entries, over any type of entries that have a key.
use mathlib.Core.Path.{◌≡◌, refl, sym, ap, ◌∙◌}
use mathlib.Core.Logic.{◌⊎◌, inl, inr, ⊎_elim}
use mathlib.Core.Bool.{Bool, true, false}
use mathlib.Core.List.{List, [], ◌∷◌}
use mathlib.Core.Option.{none, some}
use Prim.Native.Nat.{ℕ, zero, suc, ◌+◌, ◌≤◌, ◌<◌}
use native.Mathlib.Omega.{arith}
use lib.ListN.{length, get_or, set, replicate}
use borrow.Author.Tests.{lt-ltb, le-ltb}
use Rattle.ids.specs.declared.Ordering.{Ordering}
use Rattle.ids.specs.declared.Ordering.TheVariants.{Less, Equal, Greater}
use Rattle.ids.specs.Order.{order_of}
use Rattle.ids.specs.Table.{present, placed, lookup_of}
use Rattle.ids.proofs.Tables.{is_some, present_found}
use Rattle.ids.proofs.Orders.{less, greater, equal}
use Rattle.bindings.specs.declared.Slot.{Slot}
use Rattle.semantics.specs.Structure.{variable, ambient, compare_var, compare_ambient}
use Rattle.bindings.specs.View.{slots_from, bound_of}

-- a slot that is given, or not, tells the entries
module _ {E : Type 0} (mk : ℕ → ℕ → E) (k : ℕ) (s : Slot) (ss : List Slot) where
  pub slot_given : s.given ≡ true → slots_from mk k (s ∷ ss) ≡ mk k s.el.0 ∷ slots_from mk (suc k) ss
  unfolding slots_from
  slot_given h = rw (h, slots_from)

  pub slot_empty : s.given ≡ false → slots_from mk k (s ∷ ss) ≡ slots_from mk (suc k) ss
  unfolding slots_from
  slot_empty h = rw (h, slots_from)

-- slots of which none is given
pub none_given : {E : Type 0} (mk : ℕ → ℕ → E) (n k : ℕ) (s : Slot) → s.given ≡ false → slots_from mk k (replicate n s) ≡ []
unfolding slots_from
none_given mk zero k s h = refl
none_given mk (suc n) k s h = slot_empty mk k s (replicate n s) h ∙ none_given mk n (suc k) s h

-- what stands for a slot past the end of the array
abbrev pub none_slot : Slot
none_slot = record { given = false; el = record { 0 = 0 } }

either : (b : Bool) → (b ≡ true) ⊎ (b ≡ false)
either true = inl refl
either false = inr refl

-- the order goes by the key, and the entry of a slot has the slot's key
module _ {E : Type 0} (mk : ℕ → ℕ → E) (key : E → ℕ) (cmp : E → E → Ordering)
    (by_key : (x y : E) → cmp x y ≡ order_of (key x) (key y)) (key_of : (k e : ℕ) → key (mk k e) ≡ k) (x : E) where
  smaller : (k e : ℕ) → k < key x → cmp (mk k e) x ≡ Less
  smaller k e h = by_key (mk k e) x ∙ ap (λ (n : ℕ). order_of n (key x)) (key_of k e) ∙ less k (key x) h

  same : (k e : ℕ) → key x ≡ k → cmp (mk k e) x ≡ Equal
  same k e h = by_key (mk k e) x ∙ ap (λ (n : ℕ). order_of n (key x)) (key_of k e) ∙ equal k (key x) (omega arith) (omega arith)

  larger : (k e : ℕ) → key x < k → cmp (mk k e) x ≡ Greater
  larger k e h = by_key (mk k e) x ∙ ap (λ (n : ℕ). order_of n (key x)) (key_of k e) ∙ greater k (key x) h

  -- One entry after the other.
  module _ (y : E) (ys : List E) where
    placed_less : cmp y x ≡ Less → placed cmp x (y ∷ ys) ≡ y ∷ placed cmp x ys
    unfolding placed
    placed_less e = rw (e, placed)

    placed_equal : cmp y x ≡ Equal → placed cmp x (y ∷ ys) ≡ y ∷ ys
    unfolding placed
    placed_equal e = rw (e, placed)

    placed_greater : cmp y x ≡ Greater → placed cmp x (y ∷ ys) ≡ x ∷ y ∷ ys
    unfolding placed
    placed_greater e = rw (e, placed)

    lookup_less : cmp y x ≡ Less → lookup_of cmp x (y ∷ ys) ≡ lookup_of cmp x ys
    unfolding lookup_of
    lookup_less e = rw (e, lookup_of)

    lookup_equal : cmp y x ≡ Equal → lookup_of cmp x (y ∷ ys) ≡ some y
    unfolding lookup_of
    lookup_equal e = rw (e, lookup_of)

    lookup_greater : cmp y x ≡ Greater → lookup_of cmp x (y ∷ ys) ≡ none
    unfolding lookup_of
    lookup_greater e = rw (e, lookup_of)

  -- slots past the key hold larger entries alone
  module _ where
    placed_past : (k : ℕ) (ss : List Slot) → key x < k → placed cmp x (slots_from mk k ss) ≡ x ∷ slots_from mk k ss
    unfolding slots_from placed
    placed_past k [] h = refl
    placed_past k (s ∷ ss) h =
        ⊎_elim (λ g. rw (slot_given mk k s ss g) (placed_greater (mk k s.el.0) (slots_from mk (suc k) ss) (larger k s.el.0 h)))
        (λ g. rw (slot_empty mk k s ss g) (placed_past (suc k) ss (omega arith))) (either s.given)

    lookup_past : (k : ℕ) (ss : List Slot) → key x < k → lookup_of cmp x (slots_from mk k ss) ≡ none
    unfolding slots_from lookup_of
    lookup_past k [] h = refl
    lookup_past k (s ∷ ss) h =
        ⊎_elim (λ g. ap (lookup_of cmp x) (slot_given mk k s ss g) ∙ lookup_greater (mk k s.el.0) (slots_from mk (suc k) ss) (larger k s.el.0 h))
        (λ g. ap (lookup_of cmp x) (slot_empty mk k s ss g) ∙ lookup_past (suc k) ss (omega arith)) (either s.given)

  -- the slot of the key tells the entry
  module _ (d : Slot) where
    lookup_empty : (k i : ℕ) (ss : List Slot) → key x ≡ k + i → i < length ss → (get_or ss i d).given ≡ false → lookup_of cmp x (slots_from mk k ss) ≡ none
    lookup_empty k i [] q h g = absurd (omega arith)
    lookup_empty k zero (s ∷ ss) q h g = ap (lookup_of cmp x) (slot_empty mk k s ss g) ∙ lookup_past (suc k) ss (omega arith)
    lookup_empty k (suc i) (s ∷ ss) q h g =
        let next : lookup_of cmp x (slots_from mk (suc k) ss) ≡ none = lookup_empty (suc k) i ss (omega arith) (omega arith) g in
        ⊎_elim (λ f. ap (lookup_of cmp x) (slot_given mk k s ss f) ∙ lookup_less (mk k s.el.0) (slots_from mk (suc k) ss) (smaller k s.el.0 (omega arith)) ∙ next)
        (λ f. ap (lookup_of cmp x) (slot_empty mk k s ss f) ∙ next) (either s.given)

    lookup_given : (k i : ℕ) (ss : List Slot) → key x ≡ k + i → i < length ss → (get_or ss i d).given ≡ true
        → lookup_of cmp x (slots_from mk k ss) ≡ some (mk (key x) (get_or ss i d).el.0)
    lookup_given k i [] q h g = absurd (omega arith)
    lookup_given k zero (s ∷ ss) q h g =
        let e : key x ≡ k = omega arith in
        rw (slot_given mk k s ss g, lookup_equal (mk k s.el.0) (slots_from mk (suc k) ss) (same k s.el.0 e), e)
    lookup_given k (suc i) (s ∷ ss) q h g =
        let next : lookup_of cmp x (slots_from mk (suc k) ss) ≡ some (mk (key x) (get_or ss i d).el.0) = lookup_given (suc k) i ss (omega arith) (omega arith) g in
        ⊎_elim (λ f. ap (lookup_of cmp x) (slot_given mk k s ss f) ∙ lookup_less (mk k s.el.0) (slots_from mk (suc k) ss) (smaller k s.el.0 (omega arith)) ∙ next)
        (λ f. ap (lookup_of cmp x) (slot_empty mk k s ss f) ∙ next) (either s.given)

    -- an entry in the slot of its key, which is given: nothing changes
    placed_given : (k i : ℕ) (ss : List Slot) → key x ≡ k + i → i < length ss → (get_or ss i d).given ≡ true → placed cmp x (slots_from mk k ss) ≡ slots_from mk k ss
    placed_given k i [] q h g = absurd (omega arith)
    placed_given k zero (s ∷ ss) q h g = rw (slot_given mk k s ss g) (placed_equal (mk k s.el.0) (slots_from mk (suc k) ss) (same k s.el.0 (omega arith)))
    placed_given k (suc i) (s ∷ ss) q h g =
        let next : placed cmp x (slots_from mk (suc k) ss) ≡ slots_from mk (suc k) ss = placed_given (suc k) i ss (omega arith) (omega arith) g in
        ⊎_elim (λ f. rw (slot_given mk k s ss f) (placed_less (mk k s.el.0) (slots_from mk (suc k) ss) (smaller k s.el.0 (omega arith)) ∙ ap (λ (l : List E). mk k s.el.0 ∷ l) next))
        (λ f. rw (slot_empty mk k s ss f) next) (either s.given)

    -- and which is not: the slot is then given, with the entry's element
    placed_empty : (new : Slot) → new.given ≡ true → mk (key x) new.el.0 ≡ x → (k i : ℕ) (ss : List Slot) → key x ≡ k + i → i < length ss
        → (get_or ss i d).given ≡ false → placed cmp x (slots_from mk k ss) ≡ slots_from mk k (set ss i new)
    placed_empty new t is k i [] q h g = absurd (omega arith)
    placed_empty new t is k zero (s ∷ ss) q h g =
        let e : k ≡ key x = omega arith in
        ap (placed cmp x) (slot_empty mk k s ss g) ∙ placed_past (suc k) ss (omega arith)
        ∙ sym (slot_given mk k new ss t ∙ ap (λ (y : E). y ∷ slots_from mk (suc k) ss) (ap (λ (n : ℕ). mk n new.el.0) e ∙ is))
    placed_empty new t is k (suc i) (s ∷ ss) q h g =
        let next : placed cmp x (slots_from mk (suc k) ss) ≡ slots_from mk (suc k) (set ss i new) = placed_empty new t is (suc k) i ss (omega arith) (omega arith) g in
        ⊎_elim (λ f. rw (slot_given mk k s ss f, slot_given mk k s (set ss i new) f) (placed_less (mk k s.el.0) (slots_from mk (suc k) ss) (smaller k s.el.0 (omega arith))
        ∙ ap (λ (l : List E). mk k s.el.0 ∷ l) next))
        (λ f. rw (slot_empty mk k s ss f, slot_empty mk k s (set ss i new) f) next) (either s.given)

    -- a key past the slots is not given
    lookup_out : (k : ℕ) (ss : List Slot) → k + length ss ≤ key x → lookup_of cmp x (slots_from mk k ss) ≡ none
    unfolding slots_from lookup_of
    lookup_out k [] h = refl
    lookup_out k (s ∷ ss) h =
        ⊎_elim (λ g. ap (lookup_of cmp x) (slot_given mk k s ss g) ∙ lookup_less (mk k s.el.0) (slots_from mk (suc k) ss) (smaller k s.el.0 (omega arith)) ∙ lookup_out (suc k) ss (omega arith))
        (λ g. ap (lookup_of cmp x) (slot_empty mk k s ss g) ∙ lookup_out (suc k) ss (omega arith)) (either s.given)

-- the order of a table's entries goes by their keys
pub record Keyed {E : Type 0} (mk : ℕ → ℕ → E) (cmp : E → E → Ordering) (key : E → ℕ) : Type 0 where
  pub by_key : (x y : E) → cmp x y ≡ order_of (key x) (key y)
  pub key_of : (k e : ℕ) → key (mk k e) ≡ k

pub vars : Keyed variable compare_var (λ v. v.key)
unfolding compare_var
vars = record { by_key = λ x y. refl; key_of = λ k e. refl }

pub ambients : Keyed ambient compare_ambient (λ a. a.typ)
unfolding compare_ambient
ambients = record { by_key = λ x y. refl; key_of = λ k e. refl }

-- What the code's tables of slots give, for the entry x.
module _ {E : Type 0} {mk : ℕ → ℕ → E} {cmp : E → E → Ordering} {key : E → ℕ} (t : Keyed mk cmp key) (x : E) (limit : ℕ) (ss : List Slot) (long : length ss ≡ limit) where
  pub found_past : limit ≤ key x → lookup_of cmp x (slots_from mk 0 ss) ≡ none
  found_past h = lookup_out mk key cmp t.by_key t.key_of x none_slot 0 ss (omega arith)

  pub bound_past : limit ≤ key x → slots_from mk 0 ss ≡ bound_of cmp limit (key x) x (slots_from mk 0 ss)
  unfolding bound_of
  bound_past h = sym (rw (le-ltb (key x) limit h, bound_of))

  module _ (d : Slot) (h : key x < limit) where
    in_range : key x < length ss
    in_range = omega arith

    pub found_given : (get_or ss (key x) d).given ≡ true → lookup_of cmp x (slots_from mk 0 ss) ≡ some (mk (key x) (get_or ss (key x) d).el.0)
    found_given g = lookup_given mk key cmp t.by_key t.key_of x d 0 (key x) ss (omega arith) in_range g

    pub found_empty : (get_or ss (key x) d).given ≡ false → lookup_of cmp x (slots_from mk 0 ss) ≡ none
    found_empty g = lookup_empty mk key cmp t.by_key t.key_of x d 0 (key x) ss (omega arith) in_range g

    pub bound_given : (get_or ss (key x) d).given ≡ true → slots_from mk 0 ss ≡ bound_of cmp limit (key x) x (slots_from mk 0 ss)
    unfolding bound_of
    bound_given g =
        sym (rw (lt-ltb (key x) limit h, bound_of)
        (placed_given mk key cmp t.by_key t.key_of x d 0 (key x) ss (omega arith) in_range g))

    pub bound_empty : (new : Slot) → new.given ≡ true → mk (key x) new.el.0 ≡ x → (get_or ss (key x) d).given ≡ false
        → slots_from mk 0 (set ss (key x) new) ≡ bound_of cmp limit (key x) x (slots_from mk 0 ss)
    unfolding bound_of
    bound_empty new n is g =
        sym (rw (lt-ltb (key x) limit h, bound_of)
        (placed_empty mk key cmp t.by_key t.key_of x d new n is 0 (key x) ss (omega arith) in_range g))

    -- whether the key is given
    pub given_present : (get_or ss (key x) d).given ≡ present cmp x (slots_from mk 0 ss)
    unfolding is_some
    given_present =
        ⊎_elim (λ g. g ∙ sym (present_found cmp x (slots_from mk 0 ss) ∙ ap is_some (found_given g)))
        (λ g. g ∙ sym (present_found cmp x (slots_from mk 0 ss) ∙ ap is_some (found_empty g))) (either (get_or ss (key x) d).given)

  pub past_absent : limit ≤ key x → false ≡ present cmp x (slots_from mk 0 ss)
  unfolding is_some
  past_absent h = sym (present_found cmp x (slots_from mk 0 ss) ∙ ap is_some (found_past h))
