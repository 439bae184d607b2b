-- `Unification::shorten` meets its contract: the way from x on, in the table as it is now, gives what the way from the start gave.
use mathlib.Core.Path.{refl, sym, ◌∙◌}
use Prim.Native.Nat.{◌≤◌, ◌<◌}
use native.Mathlib.Omega.{arith}
use lib.ListN.{length}
use Rattle.unification.specs.Roots.{links_of, link}
use Rattle.unification.proofs.Laws.{root_stop, depth_stop, depth_le, short_stop}
use Rattle.unification.proofs.Arrays.{link_read, short_is, short_past, turned}
use Rattle.unification.proofs.Unification.shorten.Goals as goal

pub returns-then-size-at : goal.returns-then-size-at
returns-then-size-at c = short_past _ _ (omega (arith, c.size.ensures.is))

pub bounds-u-at : goal.bounds-u-at
bounds-u-at c = omega (arith, c.size.ensures.most)

pub loop-parent-init : goal.loop-parent-init
loop-parent-init c =
    let a = c.args in
    let n = c.size.ensures in
    let there : a.el.0 < length (links_of a.self) = omega (arith, n.is) in
    (omega arith, there, omega (arith, n.most), sym (link_read a.self a.el.0 there), refl, omega arith, refl)

pub overflow_add-passed : goal.overflow_add-passed
overflow_add-passed c =
    let a = c.args in
    omega (arith, depth_le (links_of a.self) a.el.0)

pub loop-parent-preserved : goal.loop-parent-preserved
loop-parent-preserved c =
    let l = c.loop-parent in
    let t = turned l.u l.x l.parent (omega arith) l.invariant.3 c.loop-parent-test.true in
    (omega arith, omega (arith, t.many), l.invariant.2, t.linked, l.invariant.4 ∙ t.root, omega (arith, t.depth), l.invariant.6 ∙ t.short)

pub returns : goal.returns
returns c =
    let a = c.args in
    let l = c.loop-parent in
    let ls = links_of l.u in
    let h : l.x ≤ link ls l.x = omega arith in
    short_is (links_of a.self) a.el.0 l.x l.passed ls (l.invariant.4 ∙ root_stop ls l.x h)
    (omega (arith, depth_stop ls l.x h)) (l.invariant.6 ∙ short_stop ls l.x h)
