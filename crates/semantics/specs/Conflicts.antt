-- The conflicts (01, "The conflict line"), and the finds of a report (02, M-103).
use Rattle.std.specs.Prelude.{ℕ, zero, suc, ◌+◌, Bool, true, false, not, ◌&&◌, ◌||◌, List, [], ◌∷◌, ◌++◌, length, eqb, ltb}
use Rattle.unification.specs.Roots.{root_of}
use Rattle.semantics.specs.Structure.{Fact, Structure}
use Rattle.semantics.specs.Types.{facts_at, concrete_types_of}

-- `TypeConflict`: an element, and two facts of its class that disagree
pub record Conflict : Type 0 where
  pub el : ℕ
  pub a : Fact
  pub b : Fact

abbrev pub conflict : ℕ → Fact → Fact → Conflict
conflict e f g = record { el = e; a = f; b = g }

-- "differing roots up to the shorter length"
unfoldable pub parents_match : List ℕ → List ℕ → List ℕ → Bool
parents_match ls [] qs = true
parents_match ls (p ∷ ps) [] = true
parents_match ls (p ∷ ps) (q ∷ qs) = eqb (root_of ls p) (root_of ls q) && parents_match ls ps qs

-- "Disagree means other type, or differing roots up to the shorter length."
unfoldable pub disagree : List ℕ → Fact → Fact → Bool
disagree ls f g = not (eqb f.typ g.typ) || not (parents_match ls f.parents g.parents)

-- "the first later fact that disagrees is reported and the search moves on to the next class"
unfoldable pub first_conflict : List ℕ → ℕ → Fact → List Fact → List Conflict
first_conflict ls e f [] = []
first_conflict ls e f (g ∷ gs) = elim (disagree ls f g) [ true ↦ conflict e f g ∷ [] | false ↦ first_conflict ls e f gs ]

unfoldable pub conflict_among : List ℕ → ℕ → List Fact → List Conflict
conflict_among ls e [] = []
conflict_among ls e (f ∷ fs) = first_conflict ls e f fs

-- "A class with two stored facts or more is ordered": its facts in that order; none where e is no root, or where fewer are stored
unfoldable pub ordered_at : Structure → ℕ → List Fact
ordered_at s e =
    elim (eqb (root_of s.links e) e && ltb 1 (length (facts_at e s.facts))) [
      | true ↦ concrete_types_of s.links s.facts e
      | false ↦ []
    ]

unfoldable pub conflict_at : Structure → ℕ → List Conflict
conflict_at s e = conflict_among s.links e (ordered_at s e)

-- "Classes in root order": of the elements below n
unfoldable pub conflicts_below : Structure → ℕ → List Conflict
conflicts_below s zero = []
conflicts_below s (suc e) = conflicts_below s e ++ conflict_at s e

unfoldable pub type_conflicts_of : Structure → List Conflict
type_conflicts_of s = conflicts_below s (length s.links)

-- M-103: "find the root of each parent of a class's first fact exactly once where the class has two stored facts or more": in a class with these
-- facts a find for each parent of the first
unfoldable pub finds_among : List Fact → ℕ
finds_among [] = 0
finds_among (f ∷ fs) = length f.parents

unfoldable pub finds_at : Structure → ℕ → ℕ
finds_at s e = finds_among (ordered_at s e)

unfoldable pub finds_below : Structure → ℕ → ℕ
finds_below s zero = 0
finds_below s (suc e) = finds_below s e + finds_at s e

-- "the number of these finds", over all classes
unfoldable pub conflict_finds : Structure → ℕ
conflict_finds s = finds_below s (length s.links)
