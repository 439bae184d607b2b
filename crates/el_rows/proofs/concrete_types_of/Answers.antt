-- `concrete_types_of` meets its contract.
use native.Mathlib.Omega.{arith}
use Rattle.facts.specs.View.{no_fact}
use Rattle.el_rows.proofs.Taking.{taking_none, other_el, this_el, taken}
use Rattle.el_rows.proofs.concrete_types_of.Goals as goal

pub loop-here-init : goal.loop-here-init
loop-here-init c = taking_none _ _ _ _ c.requires.1

pub loop-here-preserved-then-here-root : goal.loop-here-preserved-then-here-root
loop-here-preserved-then-here-root c = other_el _ _ _ c.loop-here.invariant no_fact c.loop-here-test.true c.if-here-root.true

pub insert-k-requires : goal.insert-k-requires
insert-k-requires c =
    let l = c.loop-here in
    (omega (arith, l.invariant.few, l.invariant.long, c.loop-here-test.true, c.requires.0), l.invariant.sorted)

pub loop-here-preserved : goal.loop-here-preserved
loop-here-preserved c =
    this_el _ _ _ c.loop-here.invariant no_fact c.loop-here-test.true c.if-here-root.false c.canonical_fact-entry.ensures c.insert-k.ensures

pub returns : goal.returns
returns c =
    taken _ _ _ c.loop-here.invariant c.loop-here-test.false (omega arith) c.args.el.0 c.requires.0 c.find-root.ensures
