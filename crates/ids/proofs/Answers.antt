-- A test that joins several: what decides it.
use mathlib.Core.Path.{◌≡◌, refl}
use mathlib.Core.Bool.{Bool, true, false, not, ◌&&◌, ◌||◌}
use Rattle.ids.proofs.Sorted.{no_test}

pub not_false : {a : Bool} → a ≡ false → not a ≡ true
not_false h = rw h

pub not_true : {a : Bool} → a ≡ true → not a ≡ false
not_true h = rw h

pub and_left : {a : Bool} (b : Bool) → a ≡ false → (a && b) ≡ false
and_left b h = rw h

pub and_right : (a : Bool) {b : Bool} → b ≡ false → (a && b) ≡ false
and_right true h = h
and_right false h = refl

pub or_left : {a : Bool} (b : Bool) → a ≡ true → (a || b) ≡ true
or_left b h = rw h

pub or_neither : {a b : Bool} → a ≡ false → b ≡ false → (a || b) ≡ false
or_neither h k = rw (h, k)

pub neither : (a b : Bool) → (a || b) ≡ false → (a ≡ false) × (b ≡ false)
neither true b h = (h, no_test refl h)
neither false b h = (refl, h)
