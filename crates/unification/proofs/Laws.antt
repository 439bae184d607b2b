-- Laws of roots, depths and shortened links, for every list of links.
use mathlib.Core.Path.{◌≡◌, refl, sym, ap, ◌∙◌}
use mathlib.Core.Logic.{◌≢◌, ◌⊎◌, inl, inr, ⊎_elim}
use mathlib.Core.Bool.{true, false}
use mathlib.Core.List.{List}
use Prim.Native.Nat.{ℕ, zero, suc, ◌+◌, ◌≤◌, ◌<◌}
use native.Mathlib.Omega.{arith}
use lib.ListN.{length, set, length-set}
use lib.Seq.{get_or-set_same, get_or-set_other, set_comm}
use lib.Dec.{eqb}
use borrow.Author.Tests.{lt-ltb, le-ltb, eq-eqb, ne_eqb}
use Rattle.unification.specs.Roots.{link, follow, root_of, depth_of, short_of, merged_of}
use Rattle.unification.proofs.Numbers.{less_or, same_or, strong}

module _ {A : Type 0} (ls : List ℕ) (stop : ℕ → A) (pass : ℕ → A → A) where
  -- any number of steps that is at least e will do from e
  follow_fuel : (n m e : ℕ) → e ≤ n → e ≤ m → follow ls stop pass n e ≡ follow ls stop pass m e
  unfolding follow
  follow_fuel zero zero e p q = refl
  follow_fuel zero (suc m) e p q = rw (le-ltb (link ls e) e (omega arith), follow)
  follow_fuel (suc n) zero e p q = rw (le-ltb (link ls e) e (omega arith), follow)
  follow_fuel (suc n) (suc m) e p q =
      go (λ k h. follow_fuel n m k (omega arith) (omega arith)) (less_or (link ls e) e)
    where
      go : ((k : ℕ) → k < e → follow ls stop pass n k ≡ follow ls stop pass m k) → (link ls e < e) ⊎ (e ≤ link ls e)
          → follow ls stop pass (suc n) e ≡ follow ls stop pass (suc m) e
      go ih (inl h) = rw (lt-ltb (link ls e) e h, follow) (ap (pass e) (ih (link ls e) h))
      go ih (inr h) = rw (le-ltb (link ls e) e h, follow)

  follow_stop : (e : ℕ) → e ≤ link ls e → follow ls stop pass e e ≡ stop e
  unfolding follow
  follow_stop zero h = refl
  follow_stop (suc e) h = rw (le-ltb (link ls (suc e)) (suc e) h, follow)

  follow_pass : (e : ℕ) → link ls e < e → follow ls stop pass e e ≡ pass e (follow ls stop pass (link ls e) (link ls e))
  unfolding follow
  follow_pass zero h = absurd (omega arith)
  follow_pass (suc e) h =
      rw (lt-ltb (link ls (suc e)) (suc e) h, follow)
      (ap (pass (suc e)) (follow_fuel e (link ls (suc e)) (link ls (suc e)) (omega arith) (omega arith)))

-- One link at a time.

module _ (ls : List ℕ) (e : ℕ) where
  pub root_stop : e ≤ link ls e → root_of ls e ≡ e
  unfolding root_of
  root_stop h = follow_stop ls (λ r. r) (λ x r. r) e h

  pub root_pass : link ls e < e → root_of ls e ≡ root_of ls (link ls e)
  unfolding root_of
  root_pass h = follow_pass ls (λ r. r) (λ x r. r) e h

  pub depth_stop : e ≤ link ls e → depth_of ls e ≡ 0
  unfolding depth_of
  depth_stop h = follow_stop ls (λ r. 0) (λ x n. n + 1) e h

  pub depth_pass : link ls e < e → depth_of ls e ≡ depth_of ls (link ls e) + 1
  unfolding depth_of
  depth_pass h = follow_pass ls (λ r. 0) (λ x n. n + 1) e h

  pub short_stop : e ≤ link ls e → short_of ls e ≡ ls
  unfolding short_of
  short_stop h = follow_stop ls (λ r. ls) (λ x after. set after x (link ls (link ls x))) e h

  pub short_pass : link ls e < e → short_of ls e ≡ set (short_of ls (link ls e)) e (link ls (link ls e))
  unfolding short_of
  short_pass h = follow_pass ls (λ r. ls) (λ x after. set after x (link ls (link ls x))) e h

-- what holds at each end, and at e where it holds at e's link, holds everywhere
pub along : (ls : List ℕ) (P : ℕ → Type 0) → ((e : ℕ) → e ≤ link ls e → P e)
    → ((e : ℕ) → link ls e < e → P (link ls e) → P e) → (e : ℕ) → P e
along ls P end pass =
    strong P (λ e ih. ⊎_elim (λ h. pass e h (ih (link ls e) h)) (λ h. end e h) (less_or (link ls e) e))

module _ (ls : List ℕ) where
  pub root_le : (e : ℕ) → root_of ls e ≤ e
  root_le =
      along ls (λ e. root_of ls e ≤ e) (λ e h. omega (arith, root_stop ls e h)) (λ e h ih. omega (arith, root_pass ls e h))

  -- a root's own link does not fall
  pub root_ends : (e : ℕ) → root_of ls e ≤ link ls (root_of ls e)
  root_ends =
      along ls (λ e. root_of ls e ≤ link ls (root_of ls e)) (λ e h. rw (root_stop ls e h) h) (λ e h ih. rw (root_pass ls e h) ih)

  pub root_root : (e : ℕ) → root_of ls (root_of ls e) ≡ root_of ls e
  root_root e = root_stop ls (root_of ls e) (root_ends e)

  pub depth_le : (e : ℕ) → depth_of ls e ≤ e
  depth_le =
      along ls (λ e. depth_of ls e ≤ e) (λ e h. omega (arith, depth_stop ls e h)) (λ e h ih. omega (arith, depth_pass ls e h))

-- Links altered at one element.

pub link_same : (ls : List ℕ) (e v : ℕ) → e < length ls → link (set ls e v) e ≡ v
link_same ls e v h = get_or-set_same ls e v e h

pub link_other : (ls : List ℕ) (e v x : ℕ) → x ≢ e → link (set ls e v) x ≡ link ls x
link_other ls e v x n = get_or-set_other ls e x v x n

-- where e is linked to y below it, and f joins the roots of e and y and leaves all others, f gives the roots
module _ (ls : List ℕ) (e y : ℕ) (at : e < length ls) (low : y < e) (f : ℕ → ℕ)
    (kept : (x : ℕ) → x ≢ e → f x ≡ x) (same : f (root_of ls e) ≡ f (root_of ls y)) where
  pub root_set : (x : ℕ) → root_of (set ls e y) x ≡ f (root_of ls x)
  root_set =
      strong (λ x. root_of (set ls e y) x ≡ f (root_of ls x))
      (λ x ih. ⊎_elim (λ p. rw p (at_e (ih y (omega arith)))) (λ n. other x n ih (less_or (link ls x) x)) (same_or x e))
    where
      at_e : root_of (set ls e y) y ≡ f (root_of ls y) → root_of (set ls e y) e ≡ f (root_of ls e)
      at_e ih =
          let l : link (set ls e y) e ≡ y = link_same ls e y at in
          root_pass (set ls e y) e (omega arith) ∙ ap (root_of (set ls e y)) l ∙ ih ∙ sym same

      other : (x : ℕ) → x ≢ e → ((k : ℕ) → k < x → root_of (set ls e y) k ≡ f (root_of ls k))
          → (link ls x < x) ⊎ (x ≤ link ls x) → root_of (set ls e y) x ≡ f (root_of ls x)
      other x n ih (inl h) =
          let l : link (set ls e y) x ≡ link ls x = link_other ls e y x n in
          root_pass (set ls e y) x (omega arith) ∙ ap (root_of (set ls e y)) l ∙ ih (link ls x) h ∙ ap f (sym (root_pass ls x h))
      other x n ih (inr h) =
          let l : link (set ls e y) x ≡ link ls x = link_other ls e y x n in
          root_stop (set ls e y) x (omega arith) ∙ sym (kept x n) ∙ ap f (sym (root_stop ls x h))

-- a store above e is not met on the way from e: what is found on the way is the same
module _ (ls : List ℕ) (b v : ℕ) where
  apart : (e : ℕ) → e < b → link (set ls b v) e ≡ link ls e
  apart e g = link_other ls b v e (λ q. omega arith)

  pub root_above : (e : ℕ) → e < b → root_of (set ls b v) e ≡ root_of ls e
  root_above =
      along ls (λ e. e < b → root_of (set ls b v) e ≡ root_of ls e)
      (λ e h g. root_stop (set ls b v) e (rw (apart e g) h) ∙ sym (root_stop ls e h))
      (λ e h ih g. root_pass (set ls b v) e (omega (arith, apart e g)) ∙ rw (apart e g) (ih (omega arith)) ∙ sym (root_pass ls e h))

  pub depth_above : (e : ℕ) → e < b → depth_of (set ls b v) e ≡ depth_of ls e
  depth_above =
      along ls (λ e. e < b → depth_of (set ls b v) e ≡ depth_of ls e)
      (λ e h g. depth_stop (set ls b v) e (rw (apart e g) h) ∙ sym (depth_stop ls e h))
      (λ e h ih g. depth_pass (set ls b v) e (omega (arith, apart e g)) ∙ rw (apart e g) (ap (λ (n : ℕ). n + 1) (ih (omega arith)))
      ∙ sym (depth_pass ls e h))

  pub short_above : (e : ℕ) → e < b → short_of (set ls b v) e ≡ set (short_of ls e) b v
  short_above =
      along ls (λ e. e < b → short_of (set ls b v) e ≡ set (short_of ls e) b v)
      (λ e h g. short_stop (set ls b v) e (rw (apart e g) h) ∙ sym (ap (λ (l : List ℕ). set l b v) (short_stop ls e h)))
      (λ e h ih g.
      let l₁ : link (set ls b v) e ≡ link ls e = apart e g in
      let l₂ : link (set ls b v) (link ls e) ≡ link ls (link ls e) = apart (link ls e) (omega arith) in
      short_pass (set ls b v) e (omega arith)
      ∙ rw (l₁, l₂, ih (omega arith)) (set_comm (short_of ls (link ls e)) b e v (link ls (link ls e)) (λ q. omega arith))
      ∙ sym (ap (λ (l : List ℕ). set l b v) (short_pass ls e h)))

-- The shortened links.

pub short_length : (ls : List ℕ) (e : ℕ) → length (short_of ls e) ≡ length ls
short_length ls =
    along ls (λ e. length (short_of ls e) ≡ length ls) (λ e h. ap length (short_stop ls e h))
    (λ e h ih. ap length (short_pass ls e h) ∙ length-set (short_of ls (link ls e)) e (link ls (link ls e)) ∙ ih)

-- the first store may be made first, and the way goes on from there
pub short_first : (ls : List ℕ) (e : ℕ) → link ls e < e → short_of ls e ≡ short_of (set ls e (link ls (link ls e))) (link ls e)
short_first ls e h = short_pass ls e h ∙ sym (short_above ls e (link ls (link ls e)) (link ls e) h)

-- The merged links.

pub merged_less : (ls : List ℕ) (a b : ℕ) → a < b → merged_of ls a b ≡ set ls b a
unfolding merged_of
merged_less ls a b h = rw (lt-ltb a b h, merged_of)

pub merged_more : (ls : List ℕ) (a b : ℕ) → b < a → merged_of ls a b ≡ set ls a b
unfolding merged_of
merged_more ls a b h = rw (le-ltb a b (omega arith), lt-ltb b a h, merged_of)

pub merged_same : (ls : List ℕ) (a b : ℕ) → a ≤ b → b ≤ a → merged_of ls a b ≡ ls
unfolding merged_of
merged_same ls a b h g = rw (le-ltb a b g, le-ltb b a h, merged_of)

pub merged_swap : (ls : List ℕ) (a b : ℕ) → merged_of ls a b ≡ merged_of ls b a
merged_swap ls a b =
    ⊎_elim (λ h. merged_less ls a b h ∙ sym (merged_more ls b a h))
    (λ h. ⊎_elim (λ g. merged_more ls a b g ∙ sym (merged_less ls b a g))
    (λ g. merged_same ls a b g h ∙ sym (merged_same ls b a h g)) (less_or b a)) (less_or a b)

-- r, or a in the place of b
unfoldable pub joined : ℕ → ℕ → ℕ → ℕ
joined a b r = elim (eqb r b) [ true ↦ a | false ↦ r ]

pub joined_at : (a b : ℕ) → joined a b b ≡ a
unfolding joined
joined_at a b = rw (eq-eqb b b refl, joined)

pub joined_other : (a b r : ℕ) → r ≢ b → joined a b r ≡ r
unfolding joined
joined_other a b r n = rw (ne_eqb r b n, joined)

-- b's class, b a root, is put below the root a
pub root_merged : (ls : List ℕ) (a b : ℕ) → a < b → b < length ls → root_of ls a ≡ a → root_of ls b ≡ b
    → (x : ℕ) → root_of (merged_of ls a b) x ≡ joined a b (root_of ls x)
root_merged ls a b low at ra rb =
    rw (merged_less ls a b low)
    (root_set ls b a at low (joined a b) (λ x n. joined_other a b x n)
    (ap (joined a b) rb ∙ joined_at a b ∙ sym (joined_other a b a (λ q. omega arith)) ∙ ap (joined a b) (sym ra)))
