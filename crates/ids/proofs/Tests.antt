-- Tests that calls answer, and how they came out.
use mathlib.Core.Path.{◌≡◌, refl, sym, ◌∙◌}
use mathlib.Core.Bool.{Bool, true, false, not, ◌&&◌, ◌||◌}
use borrow.Author.Tests.{not-true, not-false}

-- What a call that answers a test ensures, and how the test came out, tell of what it tests.

pub told : {r a b : Bool} → r ≡ a → r ≡ b → a ≡ b
told e h = sym e ∙ h

pub holds : {r a : Bool} → r ≡ a → not r ≡ false → a ≡ true
holds e h = sym e ∙ not-false _ h

pub fails : {r a : Bool} → r ≡ a → not r ≡ true → a ≡ false
fails e h = sym e ∙ not-true _ h

-- a test of two that comes to its second
pub and_then : {a b r : Bool} → a ≡ true → b ≡ r → (a && b) ≡ r
and_then h e = rw h e

pub or_then : {a b r : Bool} → a ≡ false → b ≡ r → (a || b) ≡ r
or_then h e = rw h e

-- what a test chooses
module _ {S : Type 0} {b : Bool} where
  pub chosen : {s : S} (t : S) → b ≡ true → ◌≡◌ {A = S} s (elim b [ true ↦ s | false ↦ t ])
  chosen t h = rw h

  pub unchosen : (s : S) {t : S} → b ≡ false → ◌≡◌ {A = S} t (elim b [ true ↦ s | false ↦ t ])
  unchosen s h = rw h

-- the last of several tests
pub last : {b r : Bool} → r ≡ b → ◌≡◌ {A = Bool} r (elim b [ true ↦ true | false ↦ false ])
last {b} e = e ∙ same b where
  same : (b : Bool) → ◌≡◌ {A = Bool} b (elim b [ true ↦ true | false ↦ false ])
  same true = refl
  same false = refl
