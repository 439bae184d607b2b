-- What merges and drains keep of a valid structure, and what they lower.
use mathlib.Core.Path.{◌≡◌, refl, sym, ap, subst, ◌∙◌}
use mathlib.Core.Logic.{◌≢◌, ◌⊎◌, inl, inr}
use mathlib.Core.Bool.{Bool, true, false, not, ◌&&◌, ◌||◌}
use mathlib.Core.List.{List, [], ◌∷◌, Memᴰ}
use mathlib.Core.Option.{Option, none, some}
use Prim.Native.Nat.{ℕ, ◌+◌, ◌-◌, ◌*◌, ◌≤◌, ◌<◌, min, max}
use native.Mathlib.Omega.{arith}
use lib.ListN.{length, set, length-set}
use lib.Dec.{eqb}
use borrow.Author.Tests.{eqb-false, eq-eqb, ne_eqb}
use Rattle.ids.proofs.Sorted.{All, all_map, rewrite_all, rewrite_sorted, rewrite_length, no_test}
use Rattle.unification.specs.Roots.{root_of, merged_of, Formed}
use Rattle.unification.proofs.Numbers.{less_or, same_or}
use Rattle.unification.proofs.Laws.{root_le, root_root, joined, joined_other, root_merged, merged_less}
use Rattle.unification.proofs.Theorems.{merged_formed, Same}
use Rattle.semantics.specs.Structure.{Fact, Pair, compare_fact, fact_at, max_facts, max_func_apps}
use Rattle.semantics.specs.Types.{Core, with_links, with_pairs, with_met, first_met, merged_marks, marked, moved_facts, merge, join_roots, join, drain_pairs}
use Rattle.semantics.specs.Types.{drain}
use Rattle.semantics.specs.Valid.{Counts, FactValid, PairValid, OnRoot, Table}
use Rattle.semantics.proofs.Orders.{fact_ordered}
use Rattle.semantics.proofs.Counts.{roots, roots_merged, roots_alike}
use Rattle.validity.specs.Numbers.{close_numbers, MayMeet}

-- what is valid of the part of a structure that merges and imposed facts alter
pub record ValidCore (c : Counts) (w : Core) : Type 0 where
  pub els : length w.links ≡ c.els
  pub links : Formed w.links
  pub marks : length w.marks ≡ c.els
  pub facts : Table (FactValid c) compare_fact max_facts w.facts
  pub rooted : All (OnRoot w.links) w.facts
  -- each pair that waits, however many do: imposing queues one more and drains them all at once
  pub pairs : All (PairValid c) w.pairs
  pub met : MayMeet w.met

-- what merges and insertions of facts can still do: a merge may free every fact and every key of the applications
unfoldable pub remaining : Core → ℕ
remaining w = (max_facts + max_func_apps + 2) * roots w.links + (max_facts + 1 - length w.facts)

-- from w to v: what v holds is valid, and each merge and each added fact lowers what remains to do, a merge by more than there are applications
pub record Advances (c : Counts) (w v : Core) : Type 0 where
  pub valid : ValidCore c v
  pub merges : w.merges ≤ v.merges
  pub added : w.added ≤ v.added
  -- each merge makes one root fewer, marks or not
  pub sum : roots v.links + v.merges ≡ roots w.links + w.merges
  pub lowered : remaining v + ((max_func_apps + 2) * v.merges + v.added) ≤ remaining w + ((max_func_apps + 2) * w.merges + w.added)
  -- a number that was met stays
  pub met : v.met ≡ none → w.met ≡ none

pub advances_none : (c : Counts) (w : Core) → ValidCore c w → Advances c w w
advances_none c w h = record { valid = h; merges = omega arith; added = omega arith; sum = refl; lowered = omega arith; met = λ q. q }

pub advances_then : (c : Counts) (w v u : Core) → Advances c w v → Advances c v u → Advances c w u
advances_then c w v u a b = record {
  valid = b.valid;
  merges = omega (arith, a.merges, b.merges);
  added = omega (arith, a.added, b.added);
  sum = b.sum ∙ a.sum;
  lowered = omega (arith, a.lowered, b.lowered);
  met = λ q. a.met (b.met q);
}

-- other links with the same roots, and other pairs
pub relinked_advances : (c : Counts) (ls : List ℕ) (ps : List Pair) (w : Core) → ValidCore c w → Formed ls → length ls ≡ length w.links
    → ((e : ℕ) → root_of ls e ≡ root_of w.links e) → All (PairValid c) ps → Advances c w (with_links ls (with_pairs ps w))
unfolding remaining
relinked_advances c ls ps w h f l same q =
    let alike = roots_alike w.links ls l same in
    record {
      valid = record {
        els = l ∙ h.els;
        links = f;
        marks = h.marks;
        facts = h.facts;
        rooted = all_map (λ (x : Fact) (k : OnRoot w.links x). same x.el ∙ k) w.facts h.rooted;
        pairs = q;
        met = h.met;
      };
      merges = omega arith;
      added = omega arith;
      sum = omega (arith, alike);
      lowered = omega (arith, alike);
      met = λ z. z;
    }

-- other pairs
pub requeued_advances : (c : Counts) (ps : List Pair) (w : Core) → ValidCore c w → All (PairValid c) ps → Advances c w (with_pairs ps w)
requeued_advances c ps w h q = relinked_advances c w.links ps w h h.links refl (λ e. refl) q

-- a number that refuses a close is met
pub met_advances : (c : Counts) (n : ℕ) → Memᴰ n close_numbers → (w : Core) → ValidCore c w → Advances c w (with_met n w)
unfolding remaining
met_advances c n listed w h = record {
  valid = record {
    els = h.els;
    links = h.links;
    marks = h.marks;
    facts = h.facts;
    rooted = h.rooted;
    pairs = h.pairs;
    met = first w.met h.met;
  };
  merges = omega arith;
  added = omega arith;
  sum = refl;
  lowered = omega arith;
  met = back w.met;
}
  where
    first : (o : Option ℕ) → MayMeet o → MayMeet (first_met n o)
    first none m = listed
    first (some k) m = m

    back : (o : Option ℕ) → first_met n o ≡ none → o ≡ none
    back none q = refl
    back (some k) q = q

-- A merge.

-- it makes no fact more
pub moved_few : (keep drop : ℕ) (fs : List Fact) → length (moved_facts keep drop fs) ≤ length fs
unfolding moved_facts
moved_few keep drop fs =
    omega (arith, rewrite_length compare_fact (λ (f : Fact). elim (eqb f.el drop) [ true ↦ fact_at keep f | false ↦ f ]) fs [])

module _ (c : Counts) (keep drop : ℕ) (w : Core) (h : ValidCore c w) (low : keep < drop) (at : drop < c.els)
    (rk : root_of w.links keep ≡ keep) (rd : root_of w.links drop ≡ drop) where
  inside : drop < length w.links
  inside = omega (arith, h.els)

  root : (x : ℕ) → root_of (merged_of w.links keep drop) x ≡ joined keep drop (root_of w.links x)
  root = root_merged w.links keep drop low inside rk rd

  moved : Fact → Fact
  moved f = elim (eqb f.el drop) [ true ↦ fact_at keep f | false ↦ f ]

  moved_valid : (f : Fact) → FactValid c f → FactValid c (moved f)
  unfolding moved
  moved_valid f v = go (eqb f.el drop)
    where
      go : (t : Bool) → FactValid c (elim t [ true ↦ fact_at keep f | false ↦ f ])
      go true = record { el = omega arith; typ = v.typ; parents = v.parents; parent_count = v.parent_count }
      go false = v

  moved_rooted : (f : Fact) → OnRoot w.links f → OnRoot (merged_of w.links keep drop) (moved f)
  unfolding moved
  moved_rooted f r = go (eqb f.el drop) refl
    where
      go : (t : Bool) → eqb f.el drop ≡ t → OnRoot (merged_of w.links keep drop) (elim t [ true ↦ fact_at keep f | false ↦ f ])
      go true e = root keep ∙ ap (joined keep drop) rk ∙ joined_other keep drop keep (λ q. omega arith)
      go false e = root f.el ∙ ap (joined keep drop) r ∙ joined_other keep drop f.el (eqb-false f.el drop e)

  pub merge_advances : Advances c w (merge keep drop w)
  unfolding merge merged_marks moved_facts remaining moved
  merge_advances = record {
    valid = record {
      els = long ∙ h.els;
      links = merged_formed w.links keep drop h.links;
      marks = length-set (set w.marks keep (marked w.marks keep && marked w.marks drop)) drop false
          ∙ length-set w.marks keep (marked w.marks keep && marked w.marks drop) ∙ h.marks;
      facts = record {
        each = rewrite_all compare_fact moved (FactValid c) w.facts [] (all_map moved_valid w.facts h.facts.each) tt;
        sorted = rewrite_sorted fact_ordered moved w.facts [] tt;
        most = omega (arith, fewer, h.facts.most);
      };
      rooted = rewrite_all compare_fact moved (OnRoot (merged_of w.links keep drop)) w.facts [] (all_map moved_rooted w.facts h.rooted) tt;
      pairs = h.pairs;
      met = h.met;
    };
    merges = omega arith;
    added = omega arith;
    sum = omega (arith, roots_merged w.links keep drop low inside rk rd);
    lowered = omega (arith, fewer, h.facts.most, roots_merged w.links keep drop low inside rk rd);
    met = λ q. q;
  }
    where
      long : length (merged_of w.links keep drop) ≡ length w.links
      long = rw (merged_less w.links keep drop low) (length-set w.links drop keep)

      fewer : length (moved_facts keep drop w.facts) ≤ length w.facts
      fewer = moved_few keep drop w.facts

-- A pair drained.

pub ordered : (a b : ℕ) → a ≢ b → ((min a b ≡ a) × (max a b ≡ b) × (a < b)) ⊎ ((min a b ≡ b) × (max a b ≡ a) × (b < a))
ordered a b n = elim (less_or a b) [ inl l ↦ inl (omega arith) | inr l ↦ inr (omega arith) ]

module _ (c : Counts) where
  join_roots_advances : (a b : ℕ) (w : Core) → ValidCore c w → a < c.els → b < c.els → root_of w.links a ≡ a → root_of w.links b ≡ b
      → Advances c w (join_roots a b w)
  unfolding join_roots
  join_roots_advances a b w h la lb ra rb = go (eqb a b) refl
    where
      go : (t : Bool) → eqb a b ≡ t → Advances c w (elim t [ true ↦ w | false ↦ merge (min a b) (max a b) w ])
      go true e = advances_none c w h
      go false e = elim (ordered a b (eqb-false a b e)) [
        | inl o ↦ rw (o.0, o.1) (merge_advances c a b w h o.2 lb ra rb)
        | inr o ↦ rw (o.0, o.1) (merge_advances c b a w h o.2 la rb ra)
      ]

  join_advances : (p : Pair) (w : Core) → ValidCore c w → PairValid c p → Advances c w (join p w)
  unfolding join
  join_advances p w h v =
      join_roots_advances (root_of w.links p.lhs) (root_of w.links p.rhs) w h
      (omega (arith, root_le w.links p.lhs, v.lhs)) (omega (arith, root_le w.links p.rhs, v.rhs))
      (root_root w.links p.lhs) (root_root w.links p.rhs)

-- two elements with different roots
abbrev pub TwoRoots : List ℕ → Pair → Type 0
TwoRoots ls p = root_of ls p.lhs ≢ root_of ls p.rhs

-- a pair of one class leaves all as it was, one of two roots is merged
join_either : (p : Pair) (w : Core)
    → (Same w.links p.lhs p.rhs × (join p w ≡ w)) ⊎ (TwoRoots w.links p × (w.merges < (join p w).merges))
unfolding join join_roots merge
join_either p w = elim (same_or (root_of w.links p.lhs) (root_of w.links p.rhs)) [
  | inl e ↦ inl (e, rw (join, join_roots, eq-eqb (root_of w.links p.lhs) (root_of w.links p.rhs) e))
  | inr n ↦ inr (n, rw (join, join_roots, ne_eqb (root_of w.links p.lhs) (root_of w.links p.rhs) n) (omega arith))
]

join_more : (p : Pair) (w : Core) → w.merges ≤ (join p w).merges
join_more p w = elim (join_either p w) [ inl e ↦ omega (arith, ap (λ (v : Core). v.merges) e.1) | inr e ↦ omega (arith, e.1) ]

drain_pairs_more : (ps : List Pair) (w : Core) → w.merges ≤ (drain_pairs ps w).merges
unfolding drain_pairs
drain_pairs_more [] w = omega arith
drain_pairs_more (p ∷ ps) w = omega (arith, join_more p w, drain_pairs_more ps (join p w))

-- whether some pair of a list has two roots
unfoldable pub some_apart : List ℕ → List Pair → Bool
some_apart ls [] = false
some_apart ls (p ∷ ps) = not (eqb (root_of ls p.lhs) (root_of ls p.rhs)) || some_apart ls ps

-- the first of a list has one root, or two
apart_rest : (ls : List ℕ) (p : Pair) (ps : List Pair) → Same ls p.lhs p.rhs → some_apart ls (p ∷ ps) ≡ some_apart ls ps
unfolding some_apart
apart_rest ls p ps e = rw (eq-eqb (root_of ls p.lhs) (root_of ls p.rhs) e)

pub apart_first : (ls : List ℕ) (p : Pair) (ps : List Pair) → TwoRoots ls p → some_apart ls (p ∷ ps) ≡ true
unfolding some_apart
apart_first ls p ps n = rw (ne_eqb (root_of ls p.lhs) (root_of ls p.rhs) n)

-- where some pair has two roots they are drained with a merge
drain_pairs_apart : (ps : List Pair) (w : Core) → some_apart w.links ps ≡ true → w.merges < (drain_pairs ps w).merges
unfolding drain_pairs
drain_pairs_apart [] w q = no_test q (unfold some_apart in refl)
drain_pairs_apart (p ∷ ps) w q = elim (join_either p w) [
  | inl e ↦
      subst (λ (v : Core). w.merges < (drain_pairs ps v).merges) (sym e.1) (drain_pairs_apart ps w (sym (apart_rest w.links p ps e.0) ∙ q))
  | inr e ↦ omega (arith, e.1, drain_pairs_more ps (join p w))
]

pub drain_apart : (w : Core) → some_apart w.links w.pairs ≡ true → w.merges < (drain w).merges
unfolding drain
drain_apart w q = drain_pairs_apart w.pairs (with_pairs [] w) q

pub drain_merges : (w : Core) (p : Pair) (ps : List Pair) → w.pairs ≡ p ∷ ps → TwoRoots w.links p → w.merges < (drain w).merges
drain_merges w p ps q two = drain_apart w (ap (some_apart w.links) q ∙ apart_first w.links p ps two)

-- other links with the same roots, and one more pair

pub apart_alike : (ls ks : List ℕ) → ((e : ℕ) → root_of ks e ≡ root_of ls e) → (ps : List Pair) → some_apart ks ps ≡ some_apart ls ps
unfolding some_apart
apart_alike ls ks same [] = refl
apart_alike ls ks same (p ∷ ps) = rw (same p.lhs, same p.rhs, apart_alike ls ks same ps)

pub apart_more : (ls : List ℕ) (p : Pair) (ps : List Pair) → some_apart ls ps ≡ true → some_apart ls (p ∷ ps) ≡ true
unfolding some_apart
apart_more ls p ps q = rw q (or_true (not (eqb (root_of ls p.lhs) (root_of ls p.rhs))))
  where
    or_true : (b : Bool) → (b || true) ≡ true
    or_true true = refl
    or_true false = refl

-- either no link is altered, or there was a merge
drain_pairs_place : (ps : List Pair) (w : Core) → ((drain_pairs ps w).links ≡ w.links) ⊎ (w.merges < (drain_pairs ps w).merges)
unfolding drain_pairs
drain_pairs_place [] w = inl refl
drain_pairs_place (p ∷ ps) w = elim (join_either p w) [
  | inl e ↦
      subst (λ (v : Core). ((drain_pairs ps v).links ≡ w.links) ⊎ (w.merges < (drain_pairs ps v).merges)) (sym e.1) (drain_pairs_place ps w)
  | inr e ↦ inr (omega (arith, e.1, drain_pairs_more ps (join p w)))
]

pub drain_place : (w : Core) → ((drain w).links ≡ w.links) ⊎ (w.merges < (drain w).merges)
unfolding drain
drain_place w = drain_pairs_place w.pairs (with_pairs [] w)

drain_pairs_advances : (c : Counts) (ps : List Pair) (w : Core) → ValidCore c w → All (PairValid c) ps → Advances c w (drain_pairs ps w)
unfolding drain_pairs
drain_pairs_advances c [] w h v = advances_none c w h
drain_pairs_advances c (p ∷ ps) w h v =
    let a = join_advances c p w h v.0 in
    advances_then c w (join p w) (drain_pairs ps (join p w)) a (drain_pairs_advances c ps (join p w) a.valid v.1)

module _ (c : Counts) (w : Core) (h : ValidCore c w) where
  start : Core
  start = with_pairs [] w

  first : Advances c w start
  unfolding start
  first = requeued_advances c [] w h tt

  pub drain_advances : Advances c w (drain w)
  unfolding drain start
  drain_advances = advances_then c w start (drain_pairs w.pairs start) first (drain_pairs_advances c w.pairs start first.valid h.pairs)
