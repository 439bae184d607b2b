-- Where no parents are merged, the types of an element stay as they are.
use mathlib.Core.Path.{◌≡◌, refl, sym, ap, ◌∙◌}
use mathlib.Core.Bool.{Bool, true, false, not, ◌&&◌, ◌||◌}
use mathlib.Core.List.{List, [], ◌∷◌, map}
use Prim.Native.Nat.{ℕ, zero, suc}
use lib.Dec.{eqb}
use Rattle.ids.specs.Sorted.{All}
use Rattle.ids.proofs.Sorted.{no_test, rewrite_all}
use Rattle.unification.specs.Roots.{root_of}
use Rattle.unification.proofs.Laws.{root_root}
use Rattle.semantics.specs.Structure.{Fact, pair, compare_fact, canonical_fact}
use Rattle.semantics.specs.Types.{Core, with_pairs, marked, any_marked, drain, refine_roots, refine, refine_parents, refine_all, facts_at, concrete_types_of}
use Rattle.semantics.proofs.Cases.{and_first, and_second}
use Rattle.imposing.specs.Keeps.{keeps_roots, keeps_pair, keeps_parents, keeps_fact, keeps_all, keeps_types}
use Rattle.imposing.specs.View.{refined}

-- Where a test says that parents stay apart, nothing changes.

pair_stays : (p q : ℕ) (w : Core) → keeps_pair w.links w.marks p q ≡ true → refine p q w ≡ w
unfolding keeps_pair keeps_roots refine refine_roots
pair_stays p q w = go (eqb a b) (marked w.marks a || marked w.marks b)
  where
    a : ℕ
    a = root_of w.links p

    b : ℕ
    b = root_of w.links q

    go : (t m : Bool) → (t || not m) ≡ true → (elim (not t && m) as (λ _. Core) [ true ↦ drain (with_pairs (pair a b ∷ w.pairs) w) | false ↦ w ]) ≡ w
    go true m k = refl
    go false true k = no_test k refl
    go false false k = refl

parents_stay : (ps qs : List ℕ) (w : Core) → keeps_parents w.links w.marks ps qs ≡ true → refine_parents ps qs w ≡ w
unfolding keeps_parents refine_parents
parents_stay [] qs w k = refl
parents_stay (p ∷ ps) [] w k = refl
parents_stay (p ∷ ps) (q ∷ qs) w k =
    let here = keeps_pair w.links w.marks p q in
    let rest = keeps_parents w.links w.marks ps qs in
    ap (refine_parents ps qs) (pair_stays p q w (and_first here rest k)) ∙ parents_stay ps qs w (and_second here rest k)

all_stay : (f : Fact) (gs : List Fact) (w : Core) → All (λ g. keeps_fact w.links w.marks f g ≡ true) gs → refine_all gs f w ≡ w
unfolding refine_all keeps_fact
all_stay f [] w k = refl
all_stay f (g ∷ gs) w k = ap (refine_all gs f) (go (eqb g.typ f.typ) k.0) ∙ all_stay f gs w k.1
  where
    go : (t : Bool) → (not t || keeps_parents w.links w.marks g.parents f.parents) ≡ true
        → (elim t as (λ _. Core) [ true ↦ refine_parents g.parents f.parents w | false ↦ w ]) ≡ w
    go true h = parents_stay g.parents f.parents w h
    go false h = refl

-- The types of an element are its stored facts with parents as roots: they stay where those stay.
module _ (ls : List ℕ) (ms : List Bool) where
  roots_kept : (ps qs : List ℕ) → keeps_parents ls ms (map (root_of ls) ps) qs ≡ keeps_parents ls ms ps qs
  unfolding keeps_parents keeps_pair
  roots_kept [] qs = refl
  roots_kept (p ∷ ps) [] = refl
  roots_kept (p ∷ ps) (q ∷ qs) = λ i. keeps_roots ms (root_root ls p i) (root_of ls q) && roots_kept ps qs i

  module _ (f : Fact) where
    canonical_kept : (g : Fact) → keeps_fact ls ms f (canonical_fact ls g) ≡ keeps_fact ls ms f g
    unfolding keeps_fact canonical_fact
    canonical_kept g = ap (λ (b : Bool). not (eqb g.typ f.typ) || b) (roots_kept g.parents f.parents)

    each_kept : (gs : List Fact) → keeps_all ls ms f gs ≡ true → All (λ g. keeps_fact ls ms f (canonical_fact ls g) ≡ true) gs
    unfolding keeps_all
    each_kept [] k = tt
    each_kept (g ∷ gs) k =
        let here = keeps_fact ls ms f g in
        let rest = keeps_all ls ms f gs in
        (canonical_kept g ∙ and_first here rest k, each_kept gs (and_second here rest k))

    types_kept : (fs : List Fact) → keeps_types ls ms f fs ≡ true → All (λ g. keeps_fact ls ms f g ≡ true) (concrete_types_of ls fs f.el)
    unfolding concrete_types_of
    types_kept fs k =
        rewrite_all compare_fact (canonical_fact ls) (λ g. keeps_fact ls ms f g ≡ true) (facts_at (root_of ls f.el) fs) [] (each_kept _ k) tt

pub kept_same : (f : Fact) (w : Core) → keeps_types w.links w.marks f w.facts ≡ true → w ≡ refined f w
unfolding refined
kept_same f w k = sym (all_stay f (concrete_types_of w.links w.facts f.el) w (types_kept w.links w.marks f w.facts k))

-- Where no element is marked all stays.

none_marked : (ms : List Bool) → any_marked ms ≡ false → (e : ℕ) → marked ms e ≡ false
unfolding any_marked
none_marked [] h e = refl
none_marked (true ∷ ms) h e = no_test refl h
none_marked (false ∷ ms) h zero = refl
none_marked (false ∷ ms) h (suc e) = none_marked ms h e

module _ (ls : List ℕ) (ms : List Bool) (none : any_marked ms ≡ false) where
  parents_free : (ps qs : List ℕ) → keeps_parents ls ms ps qs ≡ true
  unfolding keeps_parents keeps_pair keeps_roots
  parents_free [] qs = refl
  parents_free (p ∷ ps) [] = refl
  parents_free (p ∷ ps) (q ∷ qs) =
      ap (λ (t : Bool). t && keeps_parents ls ms ps qs) (go (eqb (root_of ls p) (root_of ls q)) (none_marked ms none (root_of ls p)) (none_marked ms none (root_of ls q)))
      ∙ parents_free ps qs
    where
      go : (e : Bool) {m n : Bool} → m ≡ false → n ≡ false → (e || not (m || n)) ≡ true
      go true h k = refl
      go false h k = rw (h, k)

  all_free : (f : Fact) (gs : List Fact) → keeps_all ls ms f gs ≡ true
  unfolding keeps_all keeps_fact
  all_free f [] = refl
  all_free f (g ∷ gs) = ap (λ (t : Bool). t && keeps_all ls ms f gs) (go (eqb g.typ f.typ)) ∙ all_free f gs
    where
      go : (t : Bool) → (not t || keeps_parents ls ms g.parents f.parents) ≡ true
      go true = parents_free g.parents f.parents
      go false = refl

pub unmarked_same : (f : Fact) (w : Core) → any_marked w.marks ≡ false → w ≡ refined f w
unmarked_same f w none = kept_same f w (all_free w.links w.marks none f (facts_at (root_of w.links f.el) w.facts))
