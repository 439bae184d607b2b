-- `put_columns` meets its contract.
use Prim.Native.Nat.{suc}
use mathlib.Core.Path.{◌≡◌, refl}
use native.Mathlib.Nat.{mul-le-mul_right}
use native.Mathlib.Omega.{arith}
use lib.ListN.{length}
use Rattle.file.specs.Layout.{by_columns}
use Rattle.file.proofs.LayoutLaws.{columns_length}
use Rattle.storing.proofs.Writing.{written_nothing, written_as, written_then, columns_next}
use Rattle.storing.proofs.put_columns.Goals as goal

pub loop-j-init : goal.loop-j-init
unfolding by_columns
loop-j-init c = written_nothing _ _

pub put_column-end-requires : goal.put_column-end-requires
put_column-end-requires c =
    let l = c.loop-j in
    let n = length c.args.rows.now in
    omega (arith, l.invariant.end, columns_length l.j c.args.rows.now, l.invariant.long, c.requires, mul-le-mul_right {m = suc l.j} {n = c.args.k} n c.loop-j-test.true)

pub loop-j-preserved : goal.loop-j-preserved
loop-j-preserved c =
    let l = c.loop-j in
    written_as (written_then l.invariant c.put_column-end.ensures) (columns_next l.j c.args.rows.now) refl

pub returns : goal.returns
returns c =
    let l = c.loop-j in
    let all : l.j ≡ c.args.k = omega (arith, c.loop-j-test.false) in
    rw all at l.invariant
