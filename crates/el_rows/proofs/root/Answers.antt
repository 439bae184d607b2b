-- `root` meets its contract: the way from x on, in the rows as they are now, gives what the way from the start gave.
use mathlib.Core.Path.{refl}
use native.Mathlib.Omega.{arith}
use Rattle.el_rows.proofs.Laws.{short_begins, short_past, short_on, short_ends}
use Rattle.el_rows.proofs.root.Goals as goal

pub returns-then-els-at : goal.returns-then-els-at
returns-then-els-at c = let a = c.args in short_past a.el.0 a.els.now c.if-els-at.true

pub loop-parent-init : goal.loop-parent-init
loop-parent-init c =
    let a = c.args in
    short_begins a.el.0 a.els.now _ c.if-els-at.false

pub bounds-els-here : goal.bounds-els-here
bounds-els-here c =
    omega (arith, c.loop-parent.invariant.there, c.loop-parent.invariant.long)

pub loop-parent-preserved : goal.loop-parent-preserved
loop-parent-preserved c =
    short_on c.loop-parent.invariant _ _ c.loop-parent-test.true refl refl

pub returns : goal.returns
returns c = short_ends c.loop-parent.invariant c.loop-parent-test.false
