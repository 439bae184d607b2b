-- `drain_equalities` meets its contract.
use mathlib.Core.Path.{refl}
use native.Mathlib.Omega.{arith}
use Rattle.merging.proofs.Laws.{begins, takes, stays, room_left}
use Rattle.merging.proofs.Merged.{unqueued_holds, drained, drain_last, drain_none}
use Rattle.merging.proofs.drain_equalities.Goals as goal

pub loop-i-init : goal.loop-i-init
loop-i-init c = stays (begins _ (unqueued_holds c.requires.0) _) (omega arith) (λ w. refl)

pub loop-i-preserved : goal.loop-i-preserved
loop-i-preserved c =
    let l = c.loop-i in
    let q = c.requires.0.pairs_held in
    stays (takes l.invariant (c.join-now.ensures c.args.pairs.now l.invariant.holds.pairs_held)
    (drain_last c.args.pairs.now l.i _ c.loop-i-test.true (omega (arith, l.auto.i, q.long, q.few))))
    (omega (arith, l.auto.i, c.loop-i-test.true)) (λ w. refl)

pub join-now-requires : goal.join-now-requires
join-now-requires c =
    let l = c.loop-i in
    let q = c.requires.0.pairs_held in
    (l.invariant.holds.els_held, (l.invariant.holds.facts_held, room_left l.invariant 1 c.requires.1 (omega (arith, l.auto.i, c.loop-i-test.true, q.few))))

pub returns : goal.returns
returns c =
    let l = c.loop-i in
    drained (stays l.invariant (omega (arith, c.requires.0.pairs_held.few)) (drain_none c.args.pairs.now l.i c.loop-i-test.false))
