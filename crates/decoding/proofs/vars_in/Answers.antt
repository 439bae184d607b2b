-- `vars_in` meets its contract.
use native.Mathlib.Omega.{arith}
use Rattle.semantics.specs.Structure.{Var, variable}
use Rattle.file.specs.Rows.{var_in}
use Rattle.decoding.proofs.Reading.{two_cells}
use Rattle.decoding.proofs.Bindings.{bound_none, bound_next, bound_all}
use Rattle.decoding.proofs.vars_in.Goals as goal

pub loop-i-init : goal.loop-i-init
loop-i-init c = bound_none _ _ _ _ _ _ _ c.new-table.ensures

pub row_at-row-requires : goal.row_at-row-requires
row_at-row-requires c =
    let pre = c.requires in
    (c.loop-i-test.true, (omega arith, (omega (arith, pre.0), pre.1)))

pub loop-i-preserved : goal.loop-i-preserved
unfolding var_in
loop-i-preserved c =
    bound_next _ (λ (v : Var). v.key) _ var_in _ _ _ c.loop-i.invariant c.loop-i-test.true c.insert-table.ensures
    (two_cells variable c.row_at-row.result) c.row_at-row.ensures

pub returns : goal.returns
returns c = bound_all _ _ _ _ _ _ _ c.loop-i.invariant c.loop-i-test.false
