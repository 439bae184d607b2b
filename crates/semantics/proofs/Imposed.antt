-- Laws of facts imposed one after the other.
use mathlib.Core.Path.{◌≡◌, refl}
use mathlib.Core.List.{List, [], ◌∷◌, ◌++◌}
use Rattle.semantics.specs.Structure.{Fact}
use Rattle.semantics.specs.Types.{Core, impose, impose_all}

pub impose_all_none : (w : Core) → impose_all [] w ≡ w
unfolding impose_all
impose_all_none w = refl

-- two lists of facts, one after the other
pub impose_all_append : (xs ys : List Fact) (w : Core) → impose_all (xs ++ ys) w ≡ impose_all ys (impose_all xs w)
unfolding impose_all
impose_all_append [] ys w = refl
impose_all_append (x ∷ xs) ys w = impose_all_append xs ys (impose x w)
