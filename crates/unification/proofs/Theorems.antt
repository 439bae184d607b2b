-- What 01, "Roots", says of roots, for every list of links in which none rises. The calls make no others.
use mathlib.Core.Path.{◌≡◌, refl, sym, ap, subst, ◌∙◌}
use mathlib.Core.Logic.{◌≢◌, ◌↔◌, ◌⊎◌, inl, inr, ⊎_elim}
use mathlib.Core.List.{List, [], ◌∷◌, ◌++◌}
use Prim.Native.Nat.{ℕ, suc, ◌≤◌, ◌<◌}
use native.Mathlib.Omega.{arith}
use native.Mathlib.Numerals.{add-one}
use lib.ListN.{length, set, length-append, get_or-append}
use lib.Seq.{set_out, get_or_at}
use Rattle.ids.proofs.Tables.{push_room, push_full}
use Rattle.unification.specs.Roots.{max_els, link, root_of, depth_of, short_of, merged_of, added_of, Formed, Walk, ends, goes}
use Rattle.unification.proofs.Numbers.{less_or, same_or, strong}
use Rattle.unification.proofs.Laws.{along, link_same, link_other, root_le, root_ends, root_stop, root_pass, root_set}
use Rattle.unification.proofs.Laws.{depth_le, depth_stop, depth_pass, short_stop, short_pass, short_first, merged_less}
use Rattle.unification.proofs.Laws.{merged_more, merged_same, merged_swap, joined, joined_at, joined_other, root_merged}
use Rattle.unification.proofs.Arrays.{link_past}
use lib.ListN.{length-set}

-- The links that calls can make: none at first, and each call keeps that no link rises.

pub none_formed : Formed []
none_formed = record { falls = λ e. omega (arith, link_past [] e (omega arith)) }

set_formed : (ls : List ℕ) (e v : ℕ) → v ≤ e → Formed ls → Formed (set ls e v)
set_formed ls e v low f = record {
  falls = λ x.
      ⊎_elim (λ p.
      ⊎_elim (λ h. rw p (rw (link_same ls e v h) low)) (λ h. rw (set_out ls e v h) (f.falls x)) (less_or e (length ls)))
      (λ n. rw (link_other ls e v x n) (f.falls x)) (same_or x e);
}

pub added_formed : (ls : List ℕ) → Formed ls → Formed (added_of ls)
unfolding added_of
added_formed ls f =
    ⊎_elim (λ h. rw (push_room max_els ls (length ls) h) (record { falls = more }))
    (λ h. rw (push_full max_els ls (length ls) h) f) (less_or (length ls) max_els)
  where
    more : (e : ℕ) → link (ls ++ (length ls ∷ [])) e ≤ e
    more e =
        ⊎_elim (λ (h : e < length ls). omega (arith, get_or-append ls (length ls ∷ []) e e h, f.falls e))
        (λ (h : length ls ≤ e). ⊎_elim (λ p. rw p (omega (arith, get_or_at ls (length ls) [] (length ls) (length ls) refl)))
        (λ (n : e ≢ length ls).
        omega (arith, link_past (ls ++ (length ls ∷ [])) e (omega (arith, length-append ls (length ls ∷ []))))) (same_or e (length ls)))
        (less_or e (length ls))

pub short_formed : (ls : List ℕ) (e : ℕ) → Formed ls → Formed (short_of ls e)
short_formed ls e f =
    along ls (λ e. Formed (short_of ls e)) (λ e h. rw (short_stop ls e h) f)
    (λ e h ih. rw (short_pass ls e h)
    (set_formed (short_of ls (link ls e)) e (link ls (link ls e)) (omega (arith, f.falls (link ls e))) ih)) e

pub merged_formed : (ls : List ℕ) (a b : ℕ) → Formed ls → Formed (merged_of ls a b)
merged_formed ls a b f =
    ⊎_elim (λ h. rw (merged_less ls a b h) (set_formed ls b a (omega arith) f))
    (λ (h : b ≤ a).
    ⊎_elim (λ (g : b < a). rw (merged_more ls a b g) (set_formed ls a b h f)) (λ g. rw (merged_same ls a b g h) f) (less_or b a))
    (less_or a b)

module _ (ls : List ℕ) (f : Formed ls) where
  -- "The root is the end of the links": it is at most the element, and links to itself.
  pub root_below : (e : ℕ) → root_of ls e ≤ e
  root_below = root_le ls

  pub root_own : (e : ℕ) → link ls (root_of ls e) ≡ root_of ls e
  root_own e = omega (arith, f.falls (root_of ls e), root_ends ls e)

  -- "the depth stays below the element count"
  pub depth_below : (e : ℕ) → e < length ls → depth_of ls e < length ls
  depth_below e h = omega (arith, depth_le ls e)

  -- Following the links one at a time until an element links to itself gives the root and the count ..
  pub walk_found : (e : ℕ) → Walk ls e (root_of ls e) (depth_of ls e)
  walk_found =
      along ls (λ e. Walk ls e (root_of ls e) (depth_of ls e))
      (λ e h. rw (root_stop ls e h, depth_stop ls e h) (ends {e = e} (omega (arith, f.falls e))))
      (λ e h ih. rw (root_pass ls e h, depth_pass ls e h, add-one) (goes (λ (q : link ls e ≡ e). omega arith) ih))

  -- .. and nothing else.
  pub walk_only : {e r n : ℕ} → Walk ls e r n → (r ≡ root_of ls e) × (n ≡ depth_of ls e)
  walk_only {e} (ends h) = (sym (root_stop ls e (omega arith)), sym (depth_stop ls e (omega arith)))
  walk_only {e} (goes n w) =
      let low : link ls e < e = omega (arith, f.falls e) in
      let on = walk_only w in
      (on.0 ∙ sym (root_pass ls e low), ap suc on.1 ∙ sym (add-one (depth_of ls (link ls e))) ∙ sym (depth_pass ls e low))

-- Shortening changes no element's root.
pub short_root : (ls : List ℕ) (e : ℕ) → e < length ls → Formed ls → (x : ℕ) → root_of (short_of ls e) x ≡ root_of ls x
short_root ls e at f = strong P step e ls at f
  where
    P : ℕ → Type 0
    P e = (ls : List ℕ) → e < length ls → Formed ls → (x : ℕ) → root_of (short_of ls e) x ≡ root_of ls x

    step : (e : ℕ) → ((k : ℕ) → k < e → P k) → P e
    step e ih ls at f x = ⊎_elim passes (λ h. ap (λ (l : List ℕ). root_of l x) (short_stop ls e h)) (less_or (link ls e) e)
      where
        passes : link ls e < e → root_of (short_of ls e) x ≡ root_of ls x
        passes h =
            let y : ℕ = link ls (link ls e) in
            let low : y ≤ link ls e = f.falls (link ls e) in
            let same : root_of ls e ≡ root_of ls y =
            root_pass ls e h
            ∙ ⊎_elim (λ g. root_pass ls (link ls e) g) (λ g. ap (root_of ls) (omega arith)) (less_or y (link ls e)) in
            ap (λ (l : List ℕ). root_of l x) (short_first ls e h)
            ∙ ih (link ls e) h (set ls e y) (rw length-set (omega arith)) (set_formed ls e y (omega arith) f) x
            ∙ root_set ls e y at (omega arith) (λ r. r) (λ x n. refl) same x

-- A merge of two roots makes exactly their two classes one.

-- in one class: with one root
abbrev pub Same : List ℕ → ℕ → ℕ → Type 0
Same ls x y = root_of ls x ≡ root_of ls y

-- x is of the class of the root a or of that of the root b
abbrev pub InOne : List ℕ → ℕ → ℕ → ℕ → Type 0
InOne ls a b x = (root_of ls x ≡ a) ⊎ (root_of ls x ≡ b)

joined_one : (a b r : ℕ) → (r ≡ a) ⊎ (r ≡ b) → joined a b r ≡ a
joined_one a b r (inl e) = ⊎_elim (λ p. rw p (joined_at a b)) (λ n. joined_other a b r n ∙ e) (same_or r b)
joined_one a b r (inr e) = rw e (joined_at a b)

-- two numbers are joined where they are equal or both are a or b, and nowhere else
joined_same : (a b r s : ℕ) → joined a b r ≡ joined a b s ↔ ((r ≡ s) ⊎ (((r ≡ a) ⊎ (r ≡ b)) × ((s ≡ a) ⊎ (s ≡ b))))
joined_same a b r s =
    (to (same_or r b) (same_or s b), ⊎_elim (λ e. ap (joined a b) e) (λ o. joined_one a b r o.0 ∙ sym (joined_one a b s o.1)))
  where
    to : (r ≡ b) ⊎ (r ≢ b) → (s ≡ b) ⊎ (s ≢ b) → joined a b r ≡ joined a b s
        → (r ≡ s) ⊎ (((r ≡ a) ⊎ (r ≡ b)) × ((s ≡ a) ⊎ (s ≡ b)))
    to (inl p) (inl q) e = inl (p ∙ sym q)
    to (inl p) (inr m) e = inr (inr p, inl (sym (joined_other a b s m) ∙ sym e ∙ joined_one a b r (inr p)))
    to (inr n) (inl q) e = inr (inl (sym (joined_other a b r n) ∙ e ∙ joined_one a b s (inr q)), inr q)
    to (inr n) (inr m) e = inl (sym (joined_other a b r n) ∙ e ∙ joined_other a b s m)

merged_below : (ls : List ℕ) (a b : ℕ) → a < b → b < length ls → root_of ls a ≡ a → root_of ls b ≡ b → (x y : ℕ)
    → Same (merged_of ls a b) x y ↔ (Same ls x y ⊎ (InOne ls a b x × InOne ls a b y))
merged_below ls a b low at ra rb x y =
    rw (root_merged ls a b low at ra rb x, root_merged ls a b low at ra rb y) (joined_same a b (root_of ls x) (root_of ls y))

-- for two different roots, given in either order
pub merged_classes : (ls : List ℕ) (a b : ℕ) → a ≢ b → a < length ls → b < length ls → root_of ls a ≡ a → root_of ls b ≡ b
    → (x y : ℕ) → Same (merged_of ls a b) x y ↔ (Same ls x y ⊎ (InOne ls a b x × InOne ls a b y))
merged_classes ls a b n ha hb ra rb x y =
    ⊎_elim (λ h. merged_below ls a b h hb ra rb x y)
    (λ (h : b ≤ a).
    let m = merged_below ls b a (omega arith) ha rb ra x y in (
      λ e. turn b a (m.0 (subst (λ (l : List ℕ). Same l x y) (merged_swap ls a b) e)),
      λ e. subst (λ (l : List ℕ). Same l x y) (merged_swap ls b a) (m.1 (turn a b e)),
    ))
    (less_or a b)
  where
    flip : (p q z : ℕ) → (root_of ls z ≡ p) ⊎ (root_of ls z ≡ q) → (root_of ls z ≡ q) ⊎ (root_of ls z ≡ p)
    flip p q z (inl h) = inr h
    flip p q z (inr h) = inl h

    turn : (p q : ℕ) → Same ls x y ⊎ (InOne ls p q x × InOne ls p q y) → Same ls x y ⊎ (InOne ls q p x × InOne ls q p y)
    turn p q (inl h) = inl h
    turn p q (inr h) = inr (flip p q x h.0, flip p q y h.1)
