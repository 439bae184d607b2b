-- `apply_pending_type_impositions` meets its contract.
use Prim.Native.Nat.{◌+◌, ◌≤◌}
use native.Mathlib.Omega.{arith}
use Rattle.semantics.specs.Structure.{max_impositions}
use Rattle.facts.specs.View.{no_fact}
use Rattle.merging.proofs.Laws.{begins, stays, turn, room_turn}
use Rattle.imposing.specs.Bounds.{one_imposed}
use Rattle.imposing.proofs.Laws.{impositions_next, impositions_done}
use Rattle.imposing.proofs.apply_pending_type_impositions.Goals as goal

pub loop-fact-init : goal.loop-fact-init
loop-fact-init c = begins _ c.requires.0 _

pub impose_concrete_type-now-requires : goal.impose_concrete_type-now-requires
impose_concrete_type-now-requires c =
    let l = c.loop-fact in
    let most : l.fact-index + 1 ≤ max_impositions = omega (arith, c.loop-fact-test.true, c.requires.1.1) in
    (l.invariant.holds, room_turn one_imposed l.fact-index l.invariant c.requires.1.0 most)

pub loop-fact-preserved : goal.loop-fact-preserved
loop-fact-preserved c =
    let l = c.loop-fact in
    turn one_imposed l.fact-index l.invariant c.impose_concrete_type-now.ensures.passes (impositions_next c.args.impositions.now l.fact-index no_fact c.loop-fact-test.true)

pub returns : goal.returns
returns c =
    let l = c.loop-fact in
    stays l.invariant (omega (arith, l.auto.fact-index-end, c.requires.1.1)) (impositions_done c.args.impositions.now l.fact-index c.loop-fact-test.false)
