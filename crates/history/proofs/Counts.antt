-- Roots merged, and an element added.
use mathlib.Core.Path.{◌≡◌, ap, ◌∙◌}
use mathlib.Core.List.{List}
use Prim.Native.Nat.{ℕ, suc, ◌<◌}
use native.Mathlib.Omega.{arith}
use lib.ListN.{length, length-set}
use borrow.Author.Tests.{eq-eqb}
use Rattle.unification.specs.Roots.{max_els, root_of, merged_of, added_of}
use Rattle.unification.proofs.Laws.{root_stop, merged_less, joined, root_merged}
use Rattle.unification.proofs.Arrays.{link_past}
use Rattle.semantics.proofs.Counts.{is_root, roots, roots_merged, count_alike, count_yes}
use Rattle.semantics.proofs.Links.{length_push, added_is, root_push}

-- two roots, the smaller first
pub record TwoRootsInOrder (ls : List ℕ) (keep drop : ℕ) : Type 0 where
  pub keeps : root_of ls keep ≡ keep
  pub drops : root_of ls drop ≡ drop
  pub low : keep < drop
  pub inside : drop < length ls

module _ (ls : List ℕ) (keep drop : ℕ) (m : TwoRootsInOrder ls keep drop) where
  pub merged_length : length (merged_of ls keep drop) ≡ length ls
  merged_length = rw (merged_less ls keep drop m.low) (length-set ls drop keep)

  pub merged_root : (e : ℕ) → root_of (merged_of ls keep drop) e ≡ joined keep drop (root_of ls e)
  merged_root = root_merged ls keep drop m.low m.inside m.keeps m.drops

  -- a merge makes one root fewer
  pub two_merged : roots ls ≡ suc (roots (merged_of ls keep drop))
  two_merged = roots_merged ls keep drop m.low m.inside m.keeps m.drops

-- An element added, where there is room.
module _ (ls : List ℕ) (room : length ls < max_els) where
  pub added_length : length (added_of ls) ≡ suc (length ls)
  added_length = rw (added_is ls room) (length_push ls (length ls))

  pub added_root : (e : ℕ) → root_of (added_of ls) e ≡ root_of ls e
  added_root e = rw (added_is ls room) (root_push ls e)

  pub roots_added : roots (added_of ls) ≡ suc (roots ls)
  unfolding roots is_root
  roots_added =
      rw added_length
      (count_yes (is_root (added_of ls)) (length ls)
      (eq-eqb (root_of (added_of ls) (length ls)) (length ls)
      (added_root (length ls) ∙ root_stop ls (length ls) (omega (arith, link_past ls (length ls) (omega arith)))))
      ∙ ap suc (count_alike (is_root (added_of ls)) (is_root ls) (length ls) (λ e _. rw (added_root e))))
