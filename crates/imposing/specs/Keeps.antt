-- When imposing a fact merges no parents (01, "To impose a fact"): the look that comes before the types of an element are taken.
use Rattle.std.specs.Prelude.{ℕ, Bool, true, not, ◌&&◌, ◌||◌, List, [], ◌∷◌, eqb}
use Rattle.unification.specs.Roots.{root_of}
use Rattle.semantics.specs.Structure.{Fact}
use Rattle.semantics.specs.Types.{marked, facts_at}

-- "Where two roots differ and either is marked": whether these two are not merged
unfoldable pub keeps_roots : List Bool → ℕ → ℕ → Bool
keeps_roots ms a b = eqb a b || not (marked ms a || marked ms b)

-- with the links ls and the marks ms
module _ (ls : List ℕ) (ms : List Bool) where
  -- whether these two parents are not merged
  unfoldable pub keeps_pair : ℕ → ℕ → Bool
  keeps_pair p q = keeps_roots ms (root_of ls p) (root_of ls q)

  -- whether none of those paired "up to the shorter length" are merged
  unfoldable pub keeps_parents : List ℕ → List ℕ → Bool
  keeps_parents [] qs = true
  keeps_parents (p ∷ ps) [] = true
  keeps_parents (p ∷ ps) (q ∷ qs) = keeps_pair p q && keeps_parents ps qs

  -- "For each of the same type"
  unfoldable pub keeps_fact : Fact → Fact → Bool
  keeps_fact f g = not (eqb g.typ f.typ) || keeps_parents g.parents f.parents

  unfoldable pub keeps_all : Fact → List Fact → Bool
  keeps_all f [] = true
  keeps_all f (g ∷ gs) = keeps_fact f g && keeps_all f gs

  -- of the facts fs, those stored at the root of the element
  abbrev pub keeps_types : Fact → List Fact → Bool
  keeps_types f fs = keeps_all f (facts_at (root_of ls f.el) fs)
