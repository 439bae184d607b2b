-- `find` meets its contract: the way from x on ends where the way from the start ends.
use mathlib.Core.Path.{refl, sym, ◌∙◌}
use Prim.Native.Nat.{◌≤◌, ◌<◌}
use native.Mathlib.Omega.{arith}
use lib.ListN.{length}
use Rattle.unification.specs.Roots.{link}
use Rattle.unification.proofs.Laws.{root_stop, root_pass}
use Rattle.el_rows.specs.View.{links_in}
use Rattle.el_rows.proofs.Laws.{link_read, root_past}
use Rattle.el_rows.proofs.find.Goals as goal

pub returns-then-els-at : goal.returns-then-els-at
returns-then-els-at c =
    let a = c.args in
    root_past a.els.now a.el.0 c.if-els-at.true

pub loop-to-init : goal.loop-to-init
loop-to-init c =
    let a = c.args in
    (c.if-els-at.false, sym (link_read a.els.now a.el.0 c.if-els-at.false _), refl)

pub loop-to-preserved : goal.loop-to-preserved
loop-to-preserved c =
    let l = c.loop-to in
    let a = c.args in
    let ls = links_in a.els.now in
    let h : link ls l.x < l.x = omega arith in
    let there : l.to < length a.els.now = omega arith in
    (there, sym (link_read a.els.now l.to there _), l.invariant.2 ∙ root_pass ls l.x h ∙ rw l.invariant.1 refl)

pub returns : goal.returns
returns c =
    let l = c.loop-to in
    let a = c.args in
    let ls = links_in a.els.now in
    let h : l.x ≤ link ls l.x = omega arith in
    sym (l.invariant.2 ∙ root_stop ls l.x h)
