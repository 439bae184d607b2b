-- `refine_parents` meets its contract.
use Prim.Native.Nat.{◌+◌, ◌≤◌, ◌<◌}
use native.Mathlib.Omega.{arith}
use lib.ListN.{length}
use Rattle.ids.specs.Ids.{els_of}
use Rattle.ids.specs.Limits.{max_list}
use Rattle.merging.proofs.Laws.{begins, stays, turn, idle_turn, room_turn}
use Rattle.imposing.specs.Bounds.{one_pair}
use Rattle.imposing.proofs.Laws.{parents_next, parents_short, parents_done}
use Rattle.imposing.proofs.refine_parents.Goals as goal

pub loop-i-init : goal.loop-i-init
loop-i-init c =
    (omega arith, begins _ c.requires.0 _)

pub loop-i-preserved-then-k-i : goal.loop-i-preserved-then-k-i
loop-i-preserved-then-k-i c =
    let a = c.args in
    let l = c.loop-i in
    let past : length (els_of a.qs) ≤ l.i = omega (arith, c.size-k.ensures.is, c.if-k-i.true) in
    (omega (arith, c.loop-i-test.true), idle_turn one_pair l.i l.invariant.1 (parents_short a.ps a.qs l.i past))

pub refine-now-requires : goal.refine-now-requires
refine-now-requires c =
    let l = c.loop-i in
    let most : l.i + 1 ≤ max_list = omega (arith, c.loop-i-test.true, c.size-n.ensures.most) in
    (l.invariant.1.holds, room_turn one_pair l.i l.invariant.1 c.requires.1 most)

pub loop-i-preserved : goal.loop-i-preserved
loop-i-preserved c =
    let a = c.args in
    let l = c.loop-i in
    let at : l.i < length (els_of a.ps) = omega (arith, c.size-n.ensures.is, c.loop-i-test.true) in
    let at2 : l.i < length (els_of a.qs) = omega (arith, c.size-k.ensures.is, c.if-k-i.false) in (
      omega (arith, c.loop-i-test.true),
      turn one_pair l.i l.invariant.1 c.refine-now.ensures (parents_next a.ps a.qs l.i _ _ at at2),
    )

pub returns : goal.returns
returns c =
    let a = c.args in
    let l = c.loop-i in
    let past : length (els_of a.ps) ≤ l.i = omega (arith, c.size-n.ensures.is, c.loop-i-test.false) in
    stays l.invariant.1 (omega (arith, l.invariant.0, c.size-n.ensures.most)) (parents_done a.ps a.qs l.i past)
