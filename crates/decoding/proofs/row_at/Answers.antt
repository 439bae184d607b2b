-- `row_at` meets its contract.
use mathlib.Core.Path.{ap, ◌∙◌}
use Prim.Native.Nat.{ℕ}
use native.Mathlib.Omega.{arith}
use lib.ListN.{get_or}
use Rattle.decoding.proofs.Reading.{filled_none, filled_next, filled_by, row_cells, column_ends}
use borrow.Author.Rules.{rules}
use Rattle.decoding.proofs.row_at.Goals as goal

pub loop-j-init : goal.loop-j-init
loop-j-init c = (omega arith, filled_none _ _ _ _ _ (search rules))

pub bounds-columns-from : goal.bounds-columns-from
bounds-columns-from c =
    let a = c.args in
    omega (arith, column_ends c.loop-j.j a.k a.n c.loop-j-test.true, c.loop-j.invariant.0)

pub overflow_add-from : goal.overflow_add-from
overflow_add-from c =
    let a = c.args in
    omega (arith, column_ends c.loop-j.j a.k a.n c.loop-j-test.true, c.loop-j.invariant.0)

pub loop-j-preserved : goal.loop-j-preserved
loop-j-preserved c =
    let l = c.loop-j in
    let a = c.args in (
      omega (arith, l.invariant.0),
      filled_next _ _ _ _ l.invariant.1 c.loop-j-test.true (omega (arith, c.requires)) (c.from.ensures ∙ ap (λ (p : ℕ). get_or a.columns.now p 0) l.invariant.0),
    )

pub returns : goal.returns
returns c =
    let a = c.args in
    filled_by _ _ _ c.loop-j.invariant.1 c.loop-j-test.false ∙ row_cells a.k a.n a.columns.now a.i
