-- Laws of the queue of impositions.
use mathlib.Core.Path.{◌≡◌}
use mathlib.Core.Bool.{Bool, true}
use mathlib.Core.List.{List, ◌∷◌}
use Rattle.ids.specs.declared.Ordering.TheVariants.{Less, Equal, Greater}
use Rattle.semantics.specs.Structure.{Fact, compare_fact}
use Rattle.semantics.specs.Calls.{is_imposed}

-- a turn of the search for an entry: past another one, or at it
module _ {R : Bool} (f g : Fact) (gs : List Fact) (turn : is_imposed f (g ∷ gs) ≡ R) where
  pub past_smaller : compare_fact f g ≡ Less → is_imposed f gs ≡ R
  unfolding is_imposed
  past_smaller e = rw (e, is_imposed) at turn

  pub past_greater : compare_fact f g ≡ Greater → is_imposed f gs ≡ R
  unfolding is_imposed
  past_greater e = rw (e, is_imposed) at turn

  pub at_equal : compare_fact f g ≡ Equal → true ≡ R
  unfolding is_imposed
  at_equal e = rw (e, is_imposed) at turn
