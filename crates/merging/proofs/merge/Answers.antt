-- `merge` meets its contract.
use native.Mathlib.Omega.{arith}
use Rattle.std.proofs.Common.{rules, of_calls}
use Rattle.rows.specs.Table.{InPlaceRewritten}
use Rattle.semantics.specs.Structure.{compare_fact}
use Rattle.facts.specs.View.{fact_of}
use Rattle.merging.specs.View.{moved_fact}
use Rattle.merging.proofs.Merged.{merged}
use Rattle.merging.proofs.merge.Goals as goal
use Rattle.merging.proofs.merge.Goals.{After-rewrite-moved}

pub union_roots-requires : goal.union_roots-requires
union_roots-requires c = c.requires.1.1.1

pub rewrite-moved-requires-clause-there : goal.rewrite-moved-requires-clause-there
rewrite-moved-requires-clause-there c = let f = c.requires.1.0 in omega (arith, f.long, f.few)

done : (c : After-rewrite-moved) →
    let a = c.args in
    InPlaceRewritten compare_fact fact_of (moved_fact a.keep.0 a.drop.0) a.counts.facts a.facts.now c.rewrite-moved.new.rows c.rewrite-moved.result
done c = c.rewrite-moved.ensures (moved_fact c.args.keep.0 c.args.drop.0) (λ row r k. search (rules, of_calls))

pub overflow_cast-next : goal.overflow_cast-next
overflow_cast-next c = omega (arith, (done (goal.at.overflow_cast-next c).After-rewrite-moved).most, c.requires.1.0.few)

pub overflow_add-next : goal.overflow_add-next
overflow_add-next c = omega (arith, c.requires.1.1.0)

pub returns : goal.returns
returns c =
    merged c.args.els.now c.union_roots.new.els c.args.facts.now c.rewrite-moved.new.rows c.args.counts
    c.args.keep.0 c.args.drop.0 c.rewrite-moved.result c.requires.0 c.requires.1.0 c.union_roots.ensures (done (goal.at.returns c).After-rewrite-moved)
