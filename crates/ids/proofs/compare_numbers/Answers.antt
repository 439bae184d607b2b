-- `compare_numbers` meets its contract.
use mathlib.Core.Path.{sym}
use Rattle.ids.proofs.Orders.{less, greater, equal}
use Rattle.ids.proofs.compare_numbers.Goals as goal

pub returns-then-a-b : goal.returns-then-a-b
returns-then-a-b c = sym (less _ _ c.if-a-b.true)

pub returns-then-b-a : goal.returns-then-b-a
returns-then-b-a c = sym (greater _ _ c.if-b-a.true)

pub returns : goal.returns
returns c = sym (equal _ _ c.if-a-b.false c.if-b-a.false)
