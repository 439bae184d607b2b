-- `fill_slots` meets its contract.
use native.Mathlib.Omega.{arith}
use Rattle.bindings.proofs.Slots.{none_slot}
use Rattle.storing.proofs.Bound.{filling_none, filling_empty, filling_given, filling_all}
use Rattle.storing.proofs.fill_slots.Goals as goal
use Rattle.storing.proofs.fill_slots.Goals.{then-slot, else-slot}

pub loop-key-init : goal.loop-key-init
loop-key-init c = filling_none _ _ c.requires.rows

pub bounds-rows-n : goal.bounds-rows-n
bounds-rows-n c =
    let f = c.loop-key.invariant in
    omega (arith, f.few, f.so_far.long, c.loop-key-test.true)

pub loop-key-preserved : goal.loop-key-preserved
loop-key-preserved c =
    let f = c.loop-key.invariant in
    let below = c.loop-key-test.true in
    elim c.if-slot.branch [
      | then-slot w ↦ rw (w.rows-is, w.n-is) (filling_given _ f none_slot below w.if-slot.true w.pair_row.result w.pair_row.ensures)
      | else-slot w ↦ rw (w.rows-is, w.n-is) (filling_empty _ f none_slot below w.if-slot.false)
    ]

pub shape_of-rows : goal.shape_of-rows
shape_of-rows c = omega (arith, c.loop-key.invariant.so_far.long, c.requires.rows)

pub returns : goal.returns
returns c = filling_all _ c.loop-key.invariant c.loop-key-test.false
