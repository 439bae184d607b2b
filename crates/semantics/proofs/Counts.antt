-- How many roots a table of links has.
use mathlib.Core.Path.{◌≡◌, refl, sym, ap, ◌∙◌}
use mathlib.Core.Logic.{◌≢◌, inl, inr}
use mathlib.Core.Bool.{Bool, true, false}
use mathlib.Core.List.{List}
use Prim.Native.Nat.{ℕ, zero, suc, ◌≤◌, ◌<◌}
use native.Mathlib.Omega.{arith}
use lib.ListN.{length, length-set}
use lib.Dec.{eqb}
use borrow.Author.Tests.{eq-eqb, ne_eqb}
use Rattle.ids.specs.Count.{count}
use Rattle.unification.specs.Roots.{root_of, merged_of}
use Rattle.unification.proofs.Numbers.{same_or}
use Rattle.unification.proofs.Laws.{joined, joined_at, joined_other, root_merged, merged_less}

pub count_yes : (p : ℕ → Bool) (n : ℕ) → p n ≡ true → count p (suc n) ≡ suc (count p n)
unfolding count
count_yes p n e = rw (e, count)

pub count_no : (p : ℕ → Bool) (n : ℕ) → p n ≡ false → count p (suc n) ≡ count p n
unfolding count
count_no p n e = rw (e, count)

pub count_alike : (p q : ℕ → Bool) (n : ℕ) → ((e : ℕ) → e < n → p e ≡ q e) → count p n ≡ count q n
count_alike p q zero h = (unfold count in refl)
count_alike p q (suc n) h = go (q n) refl (count_alike p q n (λ e l. h e (omega arith)))
  where
    go : (b : Bool) → q n ≡ b → count p n ≡ count q n → count p (suc n) ≡ count q (suc n)
    go true e r = count_yes p n (h n (omega arith) ∙ e) ∙ ap suc r ∙ sym (count_yes q n e)
    go false e r = count_no p n (h n (omega arith) ∙ e) ∙ r ∙ sym (count_no q n e)

-- q is p but at i
pub count_less : (p q : ℕ → Bool) (i : ℕ) → ((e : ℕ) → e ≢ i → p e ≡ q e) → p i ≡ true → q i ≡ false
    → (n : ℕ) → i < n → count p n ≡ suc (count q n)
count_less p q i h t f zero l = absurd (omega arith)
count_less p q i h t f (suc n) l = elim (same_or n i) [
  | inl z ↦ rw z (count_yes p i t ∙ ap suc (count_alike p q i (λ e k. h e (λ r. omega arith)) ∙ sym (count_no q i f)))
  | inr z ↦ go (q n) refl z (count_less p q i h t f n (omega arith))
]
  where
    go : (b : Bool) → q n ≡ b → n ≢ i → count p n ≡ suc (count q n) → count p (suc n) ≡ suc (count q (suc n))
    go true e z r = count_yes p n (h n z ∙ e) ∙ ap suc (r ∙ sym (count_yes q n e))
    go false e z r = count_no p n (h n z ∙ e) ∙ r ∙ ap suc (sym (count_no q n e))

pub count_most : (p : ℕ → Bool) (n : ℕ) → count p n ≤ n
unfolding count
count_most p zero = omega arith
count_most p (suc n) = go (p n) (count_most p n)
  where
    go : (b : Bool) → count p n ≤ n → (elim b [ true ↦ suc (count p n) | false ↦ count p n ]) ≤ suc n
    go true h = omega arith
    go false h = omega arith

unfoldable pub is_root : List ℕ → ℕ → Bool
is_root ls e = eqb (root_of ls e) e

unfoldable pub roots : List ℕ → ℕ
roots ls = count (is_root ls) (length ls)

pub roots_most : (ls : List ℕ) → roots ls ≤ length ls
unfolding roots
roots_most ls = count_most (is_root ls) (length ls)

-- a merge of two roots makes one fewer
pub roots_merged : (ls : List ℕ) (a b : ℕ) → a < b → b < length ls → root_of ls a ≡ a → root_of ls b ≡ b → roots ls ≡ suc (roots (merged_of ls a b))
unfolding roots is_root
roots_merged ls a b low at ra rb =
    let long : length (merged_of ls a b) ≡ length ls = rw (merged_less ls a b low) (length-set ls b a) in
    rw long (count_less (is_root ls) (is_root (merged_of ls a b)) b other (eq-eqb (root_of ls b) b rb) gone (length ls) at)
  where
    root : (x : ℕ) → root_of (merged_of ls a b) x ≡ joined a b (root_of ls x)
    root = root_merged ls a b low at ra rb

    gone : eqb (root_of (merged_of ls a b) b) b ≡ false
    gone = rw (root b ∙ ap (joined a b) rb ∙ joined_at a b) (ne_eqb a b (λ q. omega arith))

    other : (e : ℕ) → e ≢ b → eqb (root_of ls e) e ≡ eqb (root_of (merged_of ls a b) e) e
    other e n = elim (same_or (root_of ls e) b) [
      | inl q ↦
          let moved : root_of (merged_of ls a b) e ≡ a = root e ∙ ap (joined a b) q ∙ joined_at a b in
          ne_eqb (root_of ls e) e (λ p. n (sym p ∙ q))
          ∙ sym (ne_eqb (root_of (merged_of ls a b) e) e (λ p. clash (sym moved ∙ p) q))
      | inr q ↦ ap (λ (x : ℕ). eqb x e) (sym (root e ∙ joined_other a b (root_of ls e) q))
    ]
      where
        clash : a ≡ e → root_of ls e ≡ b → ⊥
        clash p q = let r : a ≡ b = sym ra ∙ ap (root_of ls) p ∙ q in omega arith

-- links with the same roots
pub roots_alike : (ls ks : List ℕ) → length ks ≡ length ls → ((e : ℕ) → root_of ks e ≡ root_of ls e) → roots ks ≡ roots ls
unfolding roots is_root
roots_alike ls ks l h = rw l (count_alike (is_root ks) (is_root ls) (length ls) (λ e _. rw (h e)))
