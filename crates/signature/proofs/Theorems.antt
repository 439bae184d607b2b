-- Theorems about the type lookup, for a reader of `specs/Calls.antt`.
use Prim.Native.Nat.{ℕ, ◌≤◌, ◌<◌}
use native.Mathlib.Omega.{arith}
use mathlib.Core.Logic.{◌↔◌}
use mathlib.Core.Path.{◌≡◌, refl, sym}
use mathlib.Core.Bool.{Bool, true, false}
use mathlib.Core.List.{List}
use lib.Dec.{ltb}
use borrow.Author.Tests.{ltb-true}
use Rattle.signature.specs.Model.{TypeM}
use Rattle.signature.specs.Calls.{TypedM, at, absent, parent_count, concrete_type_at}
use Rattle.signature.proofs.Laws.{too_few, enough}

-- The type lookup is absent exactly when the type has more parents than were given, and else gives the type with that many.
module _ (ts : List TypeM) (t given : ℕ) where
  unless_fewer : (b : Bool) (n : ℕ) → ltb given n ≡ b → ◌≡◌ {A = TypedM} (elim b [ true ↦ absent | false ↦ at t n ]) absent → given < n
  unless_fewer true n e h = ltb-true given n e
  unless_fewer false n e h = let z : ◌≡◌ {A = ℕ} 0 1 = cc in absurd (omega arith)

  pub absent_exactly : concrete_type_at ts t given ≡ absent ↔ given < parent_count ts t
  unfolding concrete_type_at
  absent_exactly = (unless_fewer _ _ refl, λ h. sym (too_few ts t given _ refl h))

  pub leading : parent_count ts t ≤ given → concrete_type_at ts t given ≡ at t (parent_count ts t)
  leading h = sym (enough ts t given _ refl h)
