-- `is_clear` meets its contract.
use mathlib.Core.Path.{◌≡◌, refl, ap, ◌∙◌}
use Prim.Native.Nat.{◌-◌}
use native.Mathlib.Omega.{arith}
use borrow.Author.Rules.{rules}
use lib.ListN.{length, take, drop, length-drop}
use lib.Seq.{take_all}
use Rattle.semantics.specs.Sheet.{all_zero}
use Rattle.records.proofs.Laws.{clear_on, clear_off, clear_end}
use Rattle.records.proofs.is_clear.Goals as goal
use Rattle.records.proofs.is_clear.Goals.{Start}

-- the slots that are looked at
looked : (c : Start) → take (4 - c.args.n) (drop c.args.n c.args.slots) ≡ drop c.args.n c.args.slots
looked c =
    let four : length c.args.slots ≡ 4 = search rules in
    take_all (4 - c.args.n) (drop c.args.n c.args.slots) (omega (arith, four, length-drop c.args.n c.args.slots))

pub loop-slot-init : goal.loop-slot-init
loop-slot-init c = refl

pub returns-then-start-ge-MAX_LEN : goal.returns-then-start-ge-MAX_LEN
returns-then-start-ge-MAX_LEN c =
    let four : length c.args.slots ≡ 4 = search rules in
    clear_end c.args.slots c.args.n refl (omega (arith, four, c.if-start-ge-MAX_LEN.true))

pub returns-then-slot-ne0 : goal.returns-then-slot-ne0
returns-then-slot-ne0 c =
    clear_off _ _ c.loop-slot.invariant c.loop-slot-test.true c.if-slot-ne0.true ∙ ap all_zero (looked (goal.at.returns-then-slot-ne0 c).Start)

pub loop-slot-preserved : goal.loop-slot-preserved
loop-slot-preserved c = clear_on _ _ c.loop-slot.invariant c.loop-slot-test.true c.if-slot-ne0.false

pub returns : goal.returns
returns c = clear_end _ _ c.loop-slot.invariant c.loop-slot-test.false ∙ ap all_zero (looked (goal.at.returns c).Start)
