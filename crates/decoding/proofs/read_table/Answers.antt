-- `read_table` meets its contract.
use mathlib.Core.Path.{◌≡◌, refl, subst}
use Prim.Native.Nat.{ℕ}
use native.Mathlib.Omega.{arith}
use lib.ListN.{length}
use Rattle.decoding.specs.View.{Said}
use Rattle.decoding.proofs.Reading.{said_none, said_next}
use Rattle.decoding.proofs.read_table.Goals as goal

pub loop-i-init : goal.loop-i-init
loop-i-init g c = said_none _ _ _ _ _ refl

pub row_at-requires : goal.row_at-requires
row_at-requires g c =
    rw c.COLUMNS.ensures (c.loop-i-test.true, (c.requires.narrow, (c.requires.many, c.requires.bytes)))

pub loop-i-preserved : goal.loop-i-preserved
loop-i-preserved g c =
    said_next g.T.Table.Says _ _ _ c.loop-i.invariant c.loop-i-test.true c.entry.ensures (rw c.COLUMNS.ensures at c.row_at.ensures)

pub returns : goal.returns
returns g c =
    let n = length c.args.entries.now in
    let all : c.loop-i.i ≡ n = omega (arith, c.loop-i-test.false) in
    subst (λ (i : ℕ). Said g.T.Table.Says g.T.Table.COLUMNS n c.args.columns.now c.loop-i.entries i) all c.loop-i.invariant
