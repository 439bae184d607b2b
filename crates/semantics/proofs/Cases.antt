-- Case analysis on tests, for an `elim .. [ inl q ↦ .. | inr q ↦ .. ]` in a clause's body.
use mathlib.Core.Path.{◌≡◌, refl}
use mathlib.Core.Logic.{◌⊎◌, inl, inr}
use mathlib.Core.Bool.{Bool, true, false, ◌&&◌, ◌||◌}
use mathlib.Core.Option.{Option, none, some, none-ne-some}
use Rattle.ids.proofs.Sorted.{no_test}

pub test : (b : Bool) → (b ≡ true) ⊎ (b ≡ false)
test true = inl refl
test false = inr refl

-- what a test that joins two says of each

pub and_first : (a b : Bool) → (a && b) ≡ true → a ≡ true
and_first true b t = refl
and_first false b t = t

pub and_second : (a b : Bool) → (a && b) ≡ true → b ≡ true
and_second true b t = t
and_second false b t = no_test t refl

-- where the first holds, the second fails
pub and_fails : (a b : Bool) → a ≡ true → (a && b) ≡ false → b ≡ false
and_fails true b e t = t
and_fails false b e t = no_test e refl

pub or_first : (a b : Bool) → (a || b) ≡ false → a ≡ false
or_first true b t = t
or_first false b t = refl

pub or_second : (a b : Bool) → (a || b) ≡ false → b ≡ false
or_second true b t = no_test refl t
or_second false b t = t

pub or_either : (a b : Bool) → (a || b) ≡ true → (a ≡ true) ⊎ (b ≡ true)
or_either true b t = inl refl
or_either false b t = inr t

-- an option is not both
pub none_some : {A X : Type 0} {x : A} → ◌≡◌ {A = Option A} none (some x) → X
none_some {x = x} e = absurd (none-ne-some x e)
