-- Laws of orders.
use mathlib.Core.Path.{◌≡◌}
use Prim.Native.Nat.{ℕ, ◌<◌, ◌≤◌}
use native.Mathlib.Nat.{le_of_lt}
use borrow.Author.Tests.{lt-ltb, le-ltb}
use Rattle.ids.specs.declared.Ordering.TheVariants.{Less, Equal, Greater}
use Rattle.ids.specs.declared.Ordering.{Ordering}
use Rattle.ids.specs.Order.{order_of, then_of}

pub less : (a b : ℕ) → a < b → order_of a b ≡ Less
less a b h = rw (lt-ltb a b h, order_of)

pub greater : (a b : ℕ) → b < a → order_of a b ≡ Greater
greater a b h = rw (le-ltb a b (le_of_lt h), lt-ltb b a h, order_of)

pub equal : (a b : ℕ) → b ≤ a → a ≤ b → order_of a b ≡ Equal
equal a b h k = rw (le-ltb a b h, le-ltb b a k, order_of)

-- the first order decides, unless it says that two are equal
pub then_less : (o p : Ordering) → o ≡ Less → then_of o p ≡ Less
then_less o p h = rw h

pub then_greater : (o p : Ordering) → o ≡ Greater → then_of o p ≡ Greater
then_greater o p h = rw h

pub then_equal : (o p : Ordering) → o ≡ Equal → then_of o p ≡ p
then_equal o p h = rw h
