-- A drain: what it does to counts, to partitions and to marks.
use mathlib.Core.Path.{◌≡◌, refl, subst, ap, ◌∙◌}
use mathlib.Core.Logic.{⊎_elim}
use mathlib.Core.Bool.{Bool, true, false, ◌&&◌}
use mathlib.Core.List.{List, [], ◌∷◌}
use Prim.Native.Nat.{ℕ, ◌+◌, ◌≤◌, ◌<◌, min, max}
use native.Mathlib.Omega.{arith}
use native.Mathlib.Nat.{le_refl}
use lib.ListN.{length, set}
use lib.Seq.{get_or-set_same, get_or-set_other, set_out}
use lib.Dec.{eqb}
use borrow.Author.Tests.{eqb-true, eqb-false, eq-eqb}
use Rattle.ids.proofs.Sorted.{All}
use Rattle.unification.specs.Roots.{root_of, merged_of, Formed}
use Rattle.unification.proofs.Numbers.{less_or, same_or}
use Rattle.unification.proofs.Laws.{root_le, root_root, joined, joined_at, joined_other}
use Rattle.unification.proofs.Theorems.{merged_formed}
use Rattle.semantics.specs.Structure.{Pair}
use Rattle.semantics.specs.Types.{Core, with_pairs, marked, merged_marks, merge, join, join_roots, drain, drain_pairs}
use Rattle.validity.proofs.Drain.{ordered}
use Rattle.history.proofs.Relation.{Equivalence, Rooted}
use Rattle.history.proofs.Counts.{TwoRootsInOrder, merged_length, merged_root, two_merged}
use Rattle.semantics.proofs.Counts.{roots}

-- Merges are counted, and a drain that counts none does nothing but empty the queue; no drain adds a fact. This holds of every core.

pub record Counted (w v : Core) : Type 0 where
  pub grew : w.merges ≤ v.merges
  pub still : v.merges ≡ w.merges → v ≡ w
  pub added : v.added ≡ w.added

pub counted_none : (w : Core) → Counted w w
counted_none w = record { grew = le_refl w.merges; still = λ q. refl; added = refl }

pub counted_then : (w v u : Core) → Counted w v → Counted v u → Counted w u
counted_then w v u a b = record {
  grew = omega (arith, a.grew, b.grew);
  still = λ q. b.still (omega (arith, a.grew, b.grew)) ∙ a.still (omega (arith, a.grew, b.grew));
  added = b.added ∙ a.added;
}

join_counted : (p : Pair) (w : Core) → Counted w (join p w)
unfolding join join_roots merge
join_counted p w = go (root_of w.links p.lhs) (root_of w.links p.rhs) (eqb (root_of w.links p.lhs) (root_of w.links p.rhs))
  where
    go : (a b : ℕ) (t : Bool) → Counted w (elim t [ true ↦ w | false ↦ merge (min a b) (max a b) w ])
    go a b true = counted_none w
    go a b false = record { grew = omega arith; still = λ q. absurd (omega arith); added = refl }

pub drain_pairs_counted : (ps : List Pair) (w : Core) → Counted w (drain_pairs ps w)
unfolding drain_pairs
drain_pairs_counted [] w = counted_none w
drain_pairs_counted (p ∷ ps) w = counted_then w (join p w) (drain_pairs ps (join p w)) (join_counted p w) (drain_pairs_counted ps (join p w))

pub drain_counted : (w : Core) → Counted (with_pairs [] w) (drain w)
unfolding drain
drain_counted w = drain_pairs_counted w.pairs (with_pairs [] w)

-- the two elements of a pair have one root
abbrev pub WithinClass : List ℕ → Pair → Type 0
WithinClass ls p = root_of ls p.lhs ≡ root_of ls p.rhs

join_same : (p : Pair) (w : Core) → WithinClass w.links p → join p w ≡ w
unfolding join join_roots
join_same p w e = rw (join, join_roots, eq-eqb (root_of w.links p.lhs) (root_of w.links p.rhs) e)

drain_pairs_same : (ps : List Pair) (w : Core) → All (WithinClass w.links) ps → drain_pairs ps w ≡ w
unfolding drain_pairs
drain_pairs_same [] w h = refl
drain_pairs_same (p ∷ ps) w h = ap (drain_pairs ps) (join_same p w h.0) ∙ drain_pairs_same ps w h.1

-- pairs within one class are dropped
pub drain_same : (w : Core) → All (WithinClass w.links) w.pairs → drain w ≡ with_pairs [] w
unfolding drain
drain_same w h = drain_pairs_same w.pairs (with_pairs [] w) h

-- conversely, where nothing was merged all pairs were within one class

join_within : (p : Pair) (w : Core) → (join p w).merges ≡ w.merges → WithinClass w.links p
unfolding join join_roots merge
join_within p w = go (eqb a b) refl
  where
    a : ℕ
    a = root_of w.links p.lhs

    b : ℕ
    b = root_of w.links p.rhs

    go : (t : Bool) → eqb a b ≡ t → (elim t as (λ _. Core) [ true ↦ w | false ↦ merge (min a b) (max a b) w ]).merges ≡ w.merges → a ≡ b
    go true q e = eqb-true a b q
    go false q e = absurd (omega arith)

drain_pairs_within : (ps : List Pair) (w : Core) → (drain_pairs ps w).merges ≡ w.merges → All (WithinClass w.links) ps
unfolding drain_pairs
drain_pairs_within [] w e = tt
drain_pairs_within (p ∷ ps) w e =
    let a = join_counted p w in
    let one : (join p w).merges ≡ w.merges = omega (arith, a.grew, (drain_pairs_counted ps (join p w)).grew, e) in
    (join_within p w one, drain_pairs_within ps w (subst (λ (v : Core). (drain_pairs ps v).merges ≡ w.merges) (a.still one) e))

pub drain_within : (w : Core) → (drain w).merges ≡ w.merges → All (WithinClass w.links) w.pairs
unfolding drain
drain_within w = drain_pairs_within w.pairs (with_pairs [] w)

-- What a drain keeps of n elements, so many of them roots or merged.

pub record RootsAndMerges (n total : ℕ) (w : Core) : Type 0 where
  pub formed : Formed w.links
  pub long : length w.links ≡ n
  pub sum : roots w.links + w.merges ≡ total

-- a partition puts the two elements of a pair together
abbrev pub HoldsOfPair : (ℕ → ℕ → Type 0) → Pair → Type 0
HoldsOfPair R p = R p.lhs p.rhs

-- both are elements
abbrev pub Inside : ℕ → Pair → Type 0
Inside n p = (p.lhs < n) × (p.rhs < n)

abbrev pub Unmarked : List Bool → Type 0
Unmarked l = (e : ℕ) → marked l e ≡ false

set_unmarked : (l : List Bool) (i : ℕ) (b : Bool) → b ≡ false → Unmarked l → Unmarked (set l i b)
set_unmarked l i b q u e =
    ⊎_elim (λ (z : e ≡ i).
    ⊎_elim (λ h. rw z (get_or-set_same l i b false h ∙ q)) (λ h. rw (set_out l i b h) (u e)) (less_or i (length l)))
    (λ z. get_or-set_other l i e b false z ∙ u e) (same_or e i)

merged_unmarked : (l : List Bool) (keep drop : ℕ) → Unmarked l → Unmarked (merged_marks l keep drop)
unfolding merged_marks
merged_unmarked l keep drop u =
    set_unmarked (set l keep (marked l keep && marked l drop)) drop false refl
    (set_unmarked l keep (marked l keep && marked l drop) (rw (u keep)) u)

-- from w to v by joining the pairs for which Q asks
pub record Joined (n total : ℕ) (w v : Core) (Q : (ℕ → ℕ → Type 0) → Type 0) : Type 1 where
  pub kept : RootsAndMerges n total v
  pub on : (R : ℕ → ℕ → Type 0) → Equivalence R → Rooted R w.links → Q R → Rooted R v.links
  pub back : (R : ℕ → ℕ → Type 0) → Equivalence R → Rooted R v.links → Rooted R w.links × Q R
  pub plain : Unmarked w.marks → Unmarked v.marks

module _ (n total : ℕ) (w : Core) (k : RootsAndMerges n total w) (keep drop : ℕ) (m : TwoRootsInOrder w.links keep drop) where
  merge_rooted : (R : ℕ → ℕ → Type 0) → Equivalence R → Rooted R w.links → R keep drop → Rooted R (merged_of w.links keep drop)
  merge_rooted R v r q e =
      rw (merged_root w.links keep drop m e)
      (⊎_elim (λ (z : root_of w.links e ≡ drop).
      rw (z, joined_at keep drop) (v.trans q (subst (λ x. R x e) z (r e))))
      (λ z. rw (joined_other keep drop (root_of w.links e) z) (r e)) (same_or (root_of w.links e) drop))

  merge_was : (R : ℕ → ℕ → Type 0) → Equivalence R → Rooted R (merged_of w.links keep drop) → Rooted R w.links × R keep drop
  merge_was R v r = (was, one)
    where
      one : R keep drop
      one = subst (λ x. R x drop) (merged_root w.links keep drop m drop ∙ ap (joined keep drop) m.drops ∙ joined_at keep drop) (r drop)

      was : (e : ℕ) → R (root_of w.links e) e
      was e =
          ⊎_elim (λ (z : root_of w.links e ≡ drop).
          rw z
          (v.trans (v.flip one)
          (subst (λ x. R x e) (merged_root w.links keep drop m e ∙ ap (joined keep drop) z ∙ joined_at keep drop) (r e))))
          (λ z. subst (λ x. R x e) (merged_root w.links keep drop m e ∙ joined_other keep drop (root_of w.links e) z) (r e))
          (same_or (root_of w.links e) drop)

  merge_joined : (Q : (ℕ → ℕ → Type 0) → Type 0) → ((R : ℕ → ℕ → Type 0) → Equivalence R → Rooted R w.links → Q R → R keep drop)
      → ((R : ℕ → ℕ → Type 0) → Equivalence R → Rooted R w.links → R keep drop → Q R) → Joined n total w (merge keep drop w) Q
  unfolding merge
  merge_joined Q f g = record {
    kept = record {
      formed = merged_formed w.links keep drop k.formed;
      long = merged_length w.links keep drop m ∙ k.long;
      sum = omega (arith, two_merged w.links keep drop m, k.sum);
    };
    on = λ R v r q. merge_rooted R v r (f R v r q);
    back = λ R v r. let z = merge_was R v r in (z.0, g R v z.0 z.1);
    plain = merged_unmarked w.marks keep drop;
  }

module _ (n total : ℕ) (w : Core) (k : RootsAndMerges n total w) where
  two : (a b : ℕ) → root_of w.links a < root_of w.links b → b < n → TwoRootsInOrder w.links (root_of w.links a) (root_of w.links b)
  two a b l h = record {
    keeps = root_root w.links a;
    drops = root_root w.links b;
    low = l;
    inside = omega (arith, root_le w.links b, k.long);
  }

  join_law : (p : Pair) → Inside n p → Joined n total w (join p w) (λ R. HoldsOfPair R p)
  unfolding join join_roots
  join_law p h = go (eqb a b) refl
    where
      a : ℕ
      a = root_of w.links p.lhs

      b : ℕ
      b = root_of w.links p.rhs

      go : (t : Bool) → eqb a b ≡ t → Joined n total w (elim t [ true ↦ w | false ↦ merge (min a b) (max a b) w ]) (λ R. HoldsOfPair R p)
      go true e = record {
        kept = k;
        on = λ R v r q. r;
        back = λ R v r. (r, v.trans (v.flip (subst (λ x. R x p.lhs) (eqb-true a b e) (r p.lhs))) (r p.rhs));
        plain = λ u. u;
      }
      go false e =
          ⊎_elim (λ (o : (min a b ≡ a) × (max a b ≡ b) × (a < b)).
          rw (o.0, o.1)
          (merge_joined n total w k a b (two p.lhs p.rhs o.2 h.1) (λ R. HoldsOfPair R p)
          (λ R v r q. v.trans (r p.lhs) (v.trans q (v.flip (r p.rhs))))
          (λ R v r q. v.trans (v.flip (r p.lhs)) (v.trans q (r p.rhs)))))
          (λ (o : (min a b ≡ b) × (max a b ≡ a) × (b < a)).
          rw (o.0, o.1)
          (merge_joined n total w k b a (two p.rhs p.lhs o.2 h.0) (λ R. HoldsOfPair R p)
          (λ R v r q. v.trans (r p.rhs) (v.trans (v.flip q) (v.flip (r p.lhs))))
          (λ R v r q. v.trans (v.flip (r p.lhs)) (v.trans (v.flip q) (r p.rhs)))))
          (ordered a b (eqb-false a b e))

pub drain_pairs_law : (n total : ℕ) (ps : List Pair) (w : Core) → RootsAndMerges n total w → All (Inside n) ps
    → Joined n total w (drain_pairs ps w) (λ R. All (HoldsOfPair R) ps)
unfolding drain_pairs
drain_pairs_law n total [] w k i =
    record { kept = k; on = λ R v r q. r; back = λ R v r. (r, tt); plain = λ u. u }
drain_pairs_law n total (p ∷ ps) w k i =
    let j = join_law n total w k p i.0 in
    let d = drain_pairs_law n total ps (join p w) j.kept i.1 in
    record {
      kept = d.kept;
      on = λ R v r q. d.on R v (j.on R v r q.0) q.1;
      back = λ R v r. let x = d.back R v r in let y = j.back R v x.0 in (y.0, (y.1, x.1));
      plain = λ u. d.plain (j.plain u);
    }

-- the whole queue
pub drain_law : (n total : ℕ) (w : Core) → RootsAndMerges n total w → All (Inside n) w.pairs
    → Joined n total (with_pairs [] w) (drain w) (λ R. All (HoldsOfPair R) w.pairs)
unfolding drain
drain_law n total w k i =
    drain_pairs_law n total w.pairs (with_pairs [] w) (record { formed = k.formed; long = k.long; sum = k.sum }) i
