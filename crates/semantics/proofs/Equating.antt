-- `equate` says whether the two roots differ: on every table that calls can make, shortening the first path changes no root. Of two roots it
-- shortens nothing and queues the pair, which is what imposing does with two parents. Links that it shortens lead to the same roots.
use mathlib.Core.Path.{◌≡◌, ap, ◌∙◌}
use mathlib.Core.Logic.{⊎_elim}
use mathlib.Core.Bool.{not}
use mathlib.Core.List.{List, ◌∷◌}
use Prim.Native.Nat.{ℕ, ◌≤◌, ◌<◌}
use native.Mathlib.Omega.{arith}
use lib.ListN.{length}
use lib.Dec.{eqb}
use Rattle.unification.specs.Roots.{link, root_of, short_of, Formed}
use Rattle.unification.proofs.Numbers.{less_or}
use Rattle.unification.proofs.Laws.{root_le, root_pass, short_stop, short_length}
use Rattle.unification.proofs.Theorems.{short_formed, short_root}
use Rattle.semantics.specs.Structure.{Pair, pair}
use Rattle.semantics.specs.Applying.{equating, equate}

pub differ_says : (ls : List ℕ) (ps : List Pair) (a b : ℕ) → Formed ls → a < length ls
    → (equate ls ps a b).differ ≡ not (eqb (root_of ls a) (root_of ls b))
unfolding equate
differ_says ls ps a b f h = ap (λ (r : ℕ). not (eqb (root_of ls a) r)) (short_root ls a h f b)

-- the path of a root is no longer
short_own : (ls : List ℕ) (e : ℕ) → root_of ls e ≡ e → short_of ls e ≡ ls
short_own ls e r =
    ⊎_elim (λ (h : link ls e < e). absurd (omega (arith, root_le ls (link ls e), root_pass ls e h, r))) (λ (h : e ≤ link ls e). short_stop ls e h)
    (less_or (link ls e) e)

pub equate_roots : (ls : List ℕ) (ps : List Pair) (a b : ℕ) → root_of ls a ≡ a → root_of ls b ≡ b
    → equate ls ps a b ≡ equating ls (pair a b ∷ ps) (not (eqb a b))
unfolding equate
equate_roots ls ps a b p q =
    let one = short_own ls a p in
    let two : short_of (short_of ls a) b ≡ ls = ap (λ (ks : List ℕ). short_of ks b) one ∙ short_own ls b q in
    let root : root_of (short_of ls a) b ≡ b = ap (λ (ks : List ℕ). root_of ks b) one ∙ q in
    λ i. equating (two i) (pair a b ∷ ps) (not (eqb (p i) (root i)))

-- The links that a find shortens.

-- other links of as many elements, with the same roots
pub record Relinked (ls ks : List ℕ) : Type 0 where
  pub formed : Formed ks
  pub long : length ks ≡ length ls
  pub roots : (e : ℕ) → root_of ks e ≡ root_of ls e

pub short_relinked : (ls : List ℕ) (e : ℕ) → Formed ls → e < length ls → Relinked ls (short_of ls e)
short_relinked ls e f h = record { formed = short_formed ls e f; long = short_length ls e; roots = short_root ls e h f }

pub equate_relinked : (ls : List ℕ) (ps : List Pair) (a b : ℕ) → Formed ls → a < length ls → b < length ls → Relinked ls (equate ls ps a b).links
unfolding equate
equate_relinked ls ps a b f la lb =
    let one = short_relinked ls a f la in
    let two = short_relinked (short_of ls a) b one.formed (omega (arith, one.long)) in
    record { formed = two.formed; long = two.long ∙ one.long; roots = λ e. two.roots e ∙ one.roots e }
