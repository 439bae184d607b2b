-- Numbers counted by a test.
use Rattle.std.specs.Prelude.{ℕ, zero, suc, Bool, true, false}

-- how many numbers below n pass a test
unfoldable pub count : (ℕ → Bool) → ℕ → ℕ
count p zero = 0
count p (suc n) = elim (p n) [ true ↦ suc (count p n) | false ↦ count p n ]
