-- `facts_in` meets its contract.
use native.Mathlib.Omega.{arith}
use Rattle.ids.proofs.Views.{long}
use Rattle.file.specs.Rows.{fact_in}
use Rattle.decoding.proofs.Reading.{filled_none, read_with, filled_all}
use borrow.Author.Rules.{rules}
use Rattle.decoding.proofs.facts_in.Goals as goal

pub loop-i-init : goal.loop-i-init
loop-i-init c = filled_none _ _ _ _ _ (search (rules, long))

pub row_at-requires : goal.row_at-requires
row_at-requires c =
    let pre = c.requires in
    (c.loop-i-test.true, (omega arith, (omega (arith, pre.0), pre.1)))

pub loop-i-preserved : goal.loop-i-preserved
loop-i-preserved c =
    read_with _ fact_in _ _ _ c.args.owners.now _ c.loop-i.invariant c.loop-i-test.true c.requires.0 c.fact_of.ensures c.row_at.ensures

pub returns : goal.returns
returns c = filled_all _ _ _ _ c.loop-i.invariant c.loop-i-test.false
