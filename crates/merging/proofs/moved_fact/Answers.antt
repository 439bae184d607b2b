-- `moved_fact` meets its contract.
use Rattle.facts.specs.View.{fact_of}
use Rattle.merging.proofs.Merged.{moved, unmoved}
use Rattle.merging.proofs.moved_fact.Goals as goal

pub returns-then-fact-drop : goal.returns-then-fact-drop
returns-then-fact-drop c = let a = c.args in unmoved a.keep.0 a.drop.0 (fact_of a.fact) c.if-fact-drop.true

pub returns : goal.returns
returns c =
    let a = c.args in
    moved a.keep.0 a.drop.0 (fact_of a.fact) c.if-fact-drop.false
