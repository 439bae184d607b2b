-- 02, M-105: every fact has as many parents as its type, so that facts of one type have equally many. "up to the shorter length" (01, "The conflict
-- line") is then the whole length: two facts of a class, as roots, that agree are one, and the conflict of a class is its first two facts, as roots.
use mathlib.Core.Path.{◌≡◌, refl, sym, ap, ◌∙◌}
use mathlib.Core.Bool.{Bool, true, false, not, ◌&&◌}
use mathlib.Core.List.{List, [], ◌∷◌, ◌++◌, map, Memᴰ}
use Prim.Native.Nat.{ℕ, zero, suc, ◌≤◌}
use native.Mathlib.Omega.{arith}
use lib.ListN.{length}
use lib.Dec.{eqb, ltb}
use borrow.Author.Tests.{eqb-true, eq-eqb, ltb-false, not-false}
use Rattle.ids.specs.Sorted.{All, Sorted}
use Rattle.ids.proofs.Sorted.{all_of, all_at, no_test, less_equal, rewrite_all, rewrite_sorted, rewrite_length}
use Rattle.unification.specs.Roots.{root_of}
use Rattle.signature.specs.Model.{Sig}
use Rattle.signature.specs.Calls.{parent_count}
use Rattle.semantics.specs.Structure.{Fact, fact, Structure, compare_fact, canonical_fact, with_facts}
use Rattle.semantics.specs.Types.{facts_at, concrete_types_of}
use Rattle.semantics.specs.Conflicts.{Conflict, conflict, parents_match, disagree, first_conflict, conflict_among, ordered_at, conflict_at, conflicts_below, type_conflicts_of}
use Rattle.semantics.specs.Calls.{Call, equate_els, close, Machine, start, after_calls}
use Rattle.semantics.specs.Valid.{Counts, counts_of, FactValid, Valid}
use Rattle.semantics.proofs.Cases.{and_first, and_second, and_fails, or_first, or_second}
use Rattle.semantics.proofs.Canonical.{map_root}
use Rattle.semantics.proofs.Computes.{everything}
use Rattle.semantics.proofs.Orders.{fact_ordered}
use Rattle.semantics.proofs.ProvedCases.{plain_el, app, signature2, declared105}
use Rattle.validity.proofs.Imposing.{facts_at_all, types_valid}
use Rattle.validity.proofs.Calls.{calls_valid}

-- two facts of one type have equally many parents
pub equally_many : (c : Counts) (f g : Fact) → FactValid c f → FactValid c g → f.typ ≡ g.typ → length f.parents ≡ length g.parents
equally_many c f g v w e = v.parent_count ∙ ap c.parents e ∙ sym w.parent_count

-- a fact of the element e, with parents as roots
pub record AsRoots (ls : List ℕ) (e : ℕ) (f : Fact) : Type 0 where
  pub el : f.el ≡ e
  pub parents : map (root_of ls) f.parents ≡ f.parents

module _ (ls : List ℕ) where
  -- lists of one length that agree up to it have the same roots
  matched_roots : (ps qs : List ℕ) → length ps ≡ length qs → parents_match ls ps qs ≡ true → map (root_of ls) ps ≡ map (root_of ls) qs
  unfolding parents_match
  matched_roots [] [] n m = refl
  matched_roots [] (q ∷ qs) n m = absurd (omega arith)
  matched_roots (p ∷ ps) [] n m = absurd (omega arith)
  matched_roots (p ∷ ps) (q ∷ qs) n m =
      let here = eqb (root_of ls p) (root_of ls q) in
      let first = eqb-true (root_of ls p) (root_of ls q) (and_first here (parents_match ls ps qs) m) in
      let rest = matched_roots ps qs (omega arith) (and_second here (parents_match ls ps qs) m) in
      λ i. first i ∷ rest i

  -- two facts of one element, as roots, that agree are one
  pub agreeing_same : (c : Counts) (e : ℕ) (f g : Fact) → FactValid c f → FactValid c g → AsRoots ls e f → AsRoots ls e g → disagree ls f g ≡ false → f ≡ g
  unfolding disagree
  agreeing_same c e f g v w a b d =
      let other = not (eqb f.typ g.typ) in
      let apart = not (parents_match ls f.parents g.parents) in
      let typ = eqb-true f.typ g.typ (not-false (eqb f.typ g.typ) (or_first other apart d)) in
      let match = not-false (parents_match ls f.parents g.parents) (or_second other apart d) in
      let same = matched_roots f.parents g.parents (equally_many c f g v w typ) match in
      let el = a.el ∙ sym b.el in
      let parents = sym a.parents ∙ same ∙ b.parents in
      λ i. fact (el i) (typ i) (parents i)

-- the first two facts of a class, where there are two
unfoldable pub first_two : ℕ → List Fact → List Conflict
first_two e [] = []
first_two e (f ∷ []) = []
first_two e (f ∷ g ∷ fs) = conflict e f g ∷ []

first_two_short : (e : ℕ) (fs : List Fact) → length fs ≤ 1 → first_two e fs ≡ []
unfolding first_two
first_two_short e [] h = refl
first_two_short e (f ∷ []) h = refl
first_two_short e (f ∷ g ∷ fs) h = absurd (omega arith)

-- of facts in order, as roots
among_first_two : (c : Counts) (ls : List ℕ) (e : ℕ) (fs : List Fact) → All (FactValid c) fs → All (AsRoots ls e) fs → Sorted compare_fact fs
    → conflict_among ls e fs ≡ first_two e fs
unfolding conflict_among first_conflict first_two
among_first_two c ls e [] v a s = refl
among_first_two c ls e (f ∷ []) v a s = refl
among_first_two c ls e (f ∷ g ∷ fs) v a s = go (disagree ls f g) refl
  where
    go : (t : Bool) → disagree ls f g ≡ t → ◌≡◌ {A = List Conflict} (elim t [ true ↦ conflict e f g ∷ [] | false ↦ first_conflict ls e f fs ]) (conflict e f g ∷ [])
    go true d = refl
    go false d =
        let same = agreeing_same ls c e f g v.0 v.1.0 a.0 a.1.0 d in
        less_equal s.0.0 (ap (λ (x : Fact). compare_fact f x) (sym same) ∙ fact_ordered.self f)

-- the first two facts of each class that has two, as roots, or more, in root order: of the elements below n
unfoldable pub first_twos_below : Structure → ℕ → List Conflict
first_twos_below s zero = []
first_twos_below s (suc e) =
    first_twos_below s e ++ elim (eqb (root_of s.links e) e) [ true ↦ first_two e (concrete_types_of s.links s.facts e) | false ↦ [] ]

-- In a valid structure.
module _ (g : Sig) (s : Structure) (v : Valid g s) where
  abbrev ls : List ℕ
  ls = s.links

  -- the facts of a class, as roots
  abbrev types : ℕ → List Fact
  types e = concrete_types_of ls s.facts e

  as_roots : (e : ℕ) → root_of ls e ≡ e → All (AsRoots ls e) (types e)
  unfolding concrete_types_of canonical_fact
  as_roots e r =
      let image : (f : Fact) → f.el ≡ root_of ls e → AsRoots ls e (canonical_fact ls f) =
      λ f k. record { el = ap (root_of ls) (k ∙ r) ∙ r; parents = map_root ls f.parents } in
      rewrite_all compare_fact (canonical_fact ls) (AsRoots ls e) (facts_at (root_of ls e) s.facts) []
      (facts_at_all (λ (f : Fact). AsRoots ls e (canonical_fact ls f)) (root_of ls e) s.facts (all_of image s.facts)) tt

  in_order : (e : ℕ) → Sorted compare_fact (types e)
  unfolding concrete_types_of
  in_order e = rewrite_sorted fact_ordered (canonical_fact ls) (facts_at (root_of ls e) s.facts) [] tt

  few : (e : ℕ) → root_of ls e ≡ e → length (types e) ≤ length (facts_at e s.facts)
  unfolding concrete_types_of
  few e r =
      let stored = ap (λ (x : ℕ). length (facts_at x s.facts)) r in
      omega (arith, rewrite_length compare_fact (canonical_fact ls) (facts_at (root_of ls e) s.facts) [])

  -- the conflict of a class is its first two facts, as roots, and one is reported wherever there are two
  pub conflict_first_two : (e : ℕ) → root_of ls e ≡ e → conflict_at s e ≡ first_two e (types e)
  unfolding conflict_at ordered_at conflict_among
  conflict_first_two e r = go (here && many) refl
    where
      here : Bool
      here = eqb (root_of ls e) e

      many : Bool
      many = ltb 1 (length (facts_at e s.facts))

      go : (t : Bool) → (here && many) ≡ t → conflict_among ls e (elim t [ true ↦ types e | false ↦ [] ]) ≡ first_two e (types e)
      go true q = among_first_two (counts_of g s) ls e (types e) (types_valid (counts_of g s) ls s.facts e v.structure.facts.each) (as_roots e r) (in_order e)
      go false q =
          let fewer = ltb-false 1 (length (facts_at e s.facts)) (and_fails here many (eq-eqb (root_of ls e) e r) q) in
          sym (first_two_short e (types e) (omega (arith, few e r, fewer)))

  no_root : (e : ℕ) → eqb (root_of ls e) e ≡ false → conflict_at s e ≡ []
  unfolding conflict_at ordered_at conflict_among
  no_root e = go (eqb (root_of ls e) e)
    where
      go : (t : Bool) → t ≡ false → conflict_among ls e (elim (t && ltb 1 (length (facts_at e s.facts))) [ true ↦ types e | false ↦ [] ]) ≡ []
      go true q = no_test refl q
      go false q = refl

  below_first_two : (n : ℕ) → conflicts_below s n ≡ first_twos_below s n
  unfolding conflicts_below first_twos_below
  below_first_two zero = refl
  below_first_two (suc e) = λ i. below_first_two e i ++ at (eqb (root_of ls e) e) refl i
    where
      at : (t : Bool) → eqb (root_of ls e) e ≡ t → conflict_at s e ≡ elim t [ true ↦ first_two e (types e) | false ↦ [] ]
      at true q = conflict_first_two e (eqb-true (root_of ls e) e q)
      at false q = no_root e q

  -- the report
  pub conflicts_first_two : type_conflicts_of s ≡ first_twos_below s (length ls)
  unfolding type_conflicts_of
  conflicts_first_two = below_first_two (length ls)

-- After any calls.

module _ (ks : List Call) where
  abbrev m : Machine
  m = after_calls ks start

  -- each fact has as many parents as its type
  pub facts_parents : (f : Fact) → Memᴰ f m.structure.facts → length f.parents ≡ parent_count m.sig.types f.typ
  facts_parents f k = (all_at (FactValid (counts_of m.sig m.structure)) m.structure.facts (calls_valid ks).structure.facts.each f k).parent_count

  -- and so has each imposition
  pub impositions_parents : (f : Fact) → Memᴰ f m.structure.impositions → length f.parents ≡ parent_count m.sig.types f.typ
  impositions_parents f k =
      (all_at (FactValid (counts_of m.sig m.structure)) m.structure.impositions (calls_valid ks).structure.impositions.each f k).parent_count

  pub calls_first_two : type_conflicts_of m.structure ≡ first_twos_below m.structure (length m.structure.links)
  calls_first_two = conflicts_first_two m.sig m.structure (calls_valid ks)

-- P7 as it was without M-105: two facts of one type with one parent and two. They agree, so that no conflict is reported, and they are two.

abbrev unequal : Structure
unequal = with_facts (fact 0 2 (1 ∷ []) ∷ fact 0 2 (1 ∷ 2 ∷ []) ∷ []) (after_calls declared105 start).structure

pub unequal_apart : type_conflicts_of unequal ≡ first_twos_below unequal (length unequal.links) → ⊥
unfolding everything first_two first_twos_below
unequal_apart e = let z : ◌≡◌ {A = ℕ} 0 1 = ap length e in omega arith

-- P2 has two facts as roots, and they are its conflict.

abbrev closed2 : List Call
closed2 =
    signature2
    ++ (plain_el ∷ plain_el ∷ plain_el ∷ plain_el ∷ app 0 (0 ∷ []) [] 2 ∷ app 0 (1 ∷ []) [] 3 ∷ equate_els 2 3 ∷ close ∷ [])

pub worked : first_twos_below (after_calls closed2 start).structure 4 ≡ (conflict 2 (fact 2 1 (0 ∷ [])) (fact 2 1 (1 ∷ [])) ∷ [])
unfolding everything first_two first_twos_below
worked = refl
