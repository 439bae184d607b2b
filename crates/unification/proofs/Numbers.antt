-- Numbers compared, and induction over all smaller ones.
use mathlib.Core.Path.{◌≡◌}
use mathlib.Core.Logic.{◌≢◌, ◌⊎◌, inl, inr}
use Prim.Native.Nat.{ℕ, zero, suc, ◌≤◌, ◌<◌}
use native.Mathlib.Omega.{arith}
use native.Mathlib.Decide.{dec_lt, ℕ_discrete}

pub less_or : (a b : ℕ) → (a < b) ⊎ (b ≤ a)
less_or a b = elim (dec_lt a b) [ yes h ↦ inl h | no n ↦ inr (omega arith) ]

pub same_or : (a b : ℕ) → (a ≡ b) ⊎ (a ≢ b)
same_or a b = elim (ℕ_discrete a b) [ yes h ↦ inl h | no n ↦ inr n ]

-- what holds of e where it holds of all below e holds of all
pub strong : (P : ℕ → Type 0) → ((e : ℕ) → ((k : ℕ) → k < e → P k) → P e) → (e : ℕ) → P e
strong P f e = below (suc e) e (omega arith)
  where
    below : (n k : ℕ) → k < n → P k
    below zero k h = absurd (omega arith)
    below (suc n) k h = f k (λ j g. below n j (omega arith))
