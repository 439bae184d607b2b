-- The order of two numbers, and of two lists of numbers, a shorter list before its extension.
use Rattle.std.specs.Prelude.{ℕ, true, false, List, [], ◌∷◌, ltb}
use Rattle.ids.specs.declared.Ordering.{Ordering}
use Rattle.ids.specs.declared.Ordering.TheVariants.{Less, Equal, Greater}

abbrev pub order_of : ℕ → ℕ → Ordering
order_of a b = elim (ltb a b) [ true ↦ Less | false ↦ elim (ltb b a) [ true ↦ Greater | false ↦ Equal ] ]

-- the first order, and where it says that two are equal, the second
abbrev pub then_of : Ordering → Ordering → Ordering
then_of o p = elim o [ Less ↦ Less | Equal ↦ p | Greater ↦ Greater ]

-- the first place at which two lists differ decides
abbrev pub lex_of : List ℕ → List ℕ → Ordering
lex_of [] [] = Equal
lex_of [] (y ∷ ys) = Less
lex_of (x ∷ xs) [] = Greater
lex_of (x ∷ xs) (y ∷ ys) = then_of (order_of x y) (lex_of xs ys)
