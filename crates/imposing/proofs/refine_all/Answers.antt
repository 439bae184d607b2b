-- `refine_all` meets its contract.
use mathlib.Core.Path.{refl}
use Prim.Native.Nat.{◌+◌, ◌≤◌}
use native.Mathlib.Omega.{arith}
use lib.ListN.{length-take}
use Rattle.semantics.specs.Structure.{max_facts}
use Rattle.facts.specs.View.{fact_of, no_fact}
use Rattle.merging.specs.View.{lent, core_of}
use Rattle.merging.proofs.Laws.{begins, stays, counts_as, turn, idle_turn, room_turn}
use Rattle.imposing.specs.Bounds.{one_list}
use Rattle.imposing.proofs.Laws.{all_same, all_other, all_done, types_refined}
use Rattle.imposing.proofs.refine_all.Goals as goal

pub slice_bounds-concrete_types_of-end : goal.slice_bounds-concrete_types_of-end
slice_bounds-concrete_types_of-end c = let held = c.requires.0.facts_held in omega (arith, held.few, held.long)

pub concrete_types_of-n-requires : goal.concrete_types_of-n-requires
concrete_types_of-n-requires c =
    (omega (arith, length-take c.args.counts.facts c.args.facts.now, c.requires.0.facts_held.few), refl)

pub loop-here-init : goal.loop-here-init
loop-here-init c = begins _ c.requires.0 _

pub loop-here-preserved-then-here-fact : goal.loop-here-preserved-then-here-fact
loop-here-preserved-then-here-fact c =
    let l = c.loop-here in
    idle_turn one_list l.here-index l.invariant (all_other _ l.here-index (fact_of c.args.fact) no_fact c.loop-here-test.true c.if-here-fact.true)

pub refine_parents-now-requires : goal.refine_parents-now-requires
refine_parents-now-requires c =
    let l = c.loop-here in
    let most : l.here-index + 1 ≤ max_facts = omega (arith, c.loop-here-test.true, length-take c.concrete_types_of-n.result c.concrete_types_of-n.new.types, c.concrete_types_of-n.ensures.most) in
    (l.invariant.holds, room_turn one_list l.here-index l.invariant c.requires.1 most)

pub loop-here-preserved : goal.loop-here-preserved
loop-here-preserved c =
    let l = c.loop-here in
    turn one_list l.here-index l.invariant c.refine_parents-now.ensures
    (all_same _ l.here-index (fact_of c.args.fact) no_fact c.loop-here-test.true c.if-here-fact.false)

pub returns : goal.returns
returns c =
    let a = c.args in
    let l = c.loop-here in
    let there = c.concrete_types_of-n.ensures in
    let whole = types_refined (fact_of a.fact) (core_of (lent a.els.now a.facts.now a.pairs.now a.counts)) there.is in
    stays (counts_as l.invariant whole)
    (omega (arith, l.auto.here-index-end, length-take c.concrete_types_of-n.result c.concrete_types_of-n.new.types, there.most))
    (all_done _ l.here-index (fact_of a.fact) c.loop-here-test.false)
