-- `Unification::find` meets its contract: the way from x on gives what the way from the start gives.
use mathlib.Core.Path.{◌≡◌, refl, sym, ◌∙◌}
use Prim.Native.Nat.{◌≤◌, ◌<◌}
use native.Mathlib.Omega.{arith}
use lib.ListN.{length}
use Rattle.unification.specs.Roots.{links_of, link}
use Rattle.unification.proofs.Laws.{root_stop, root_pass, depth_stop, depth_pass, depth_le}
use Rattle.unification.proofs.Arrays.{link_read, find_is, find_past}
use Rattle.unification.proofs.Unification.find.Goals as goal

pub returns-then-size-at : goal.returns-then-size-at
returns-then-size-at c = find_past _ _ (omega (arith, c.size.ensures.is))

pub bounds-self-at : goal.bounds-self-at
bounds-self-at c = omega (arith, c.size.ensures.most)

pub loop-to-init : goal.loop-to-init
loop-to-init c =
    let a = c.args in
    let n = c.size.ensures in
    let there : a.el.0 < length (links_of a.self) = omega (arith, n.is) in
    (omega arith, there, omega (arith, n.most), sym (link_read a.self a.el.0 there), refl, omega arith)

pub overflow_add-count : goal.overflow_add-count
overflow_add-count c =
    let a = c.args in
    omega (arith, depth_le (links_of a.self) a.el.0)

pub loop-to-preserved : goal.loop-to-preserved
loop-to-preserved c =
    let t = c.args.self in
    let ls = links_of t in
    let l = c.loop-to in
    let p : l.to ≡ link ls l.x = l.invariant.3 in
    let h : link ls l.x < l.x = omega arith in (
      omega arith,
      l.invariant.1,
      l.invariant.2,
      sym (link_read t l.to (omega arith)),
      rw p (l.invariant.4 ∙ root_pass ls l.x h),
      rw p (omega (arith, depth_pass ls l.x h)),
    )

pub returns : goal.returns
returns c =
    let a = c.args in
    let ls = links_of a.self in
    let l = c.loop-to in
    let h : l.x ≤ link ls l.x = omega arith in
    find_is ls a.el.0 l.x l.count (l.invariant.4 ∙ root_stop ls l.x h) (omega (arith, depth_stop ls l.x h))
