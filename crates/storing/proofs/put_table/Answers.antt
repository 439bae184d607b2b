-- `put_table` meets its contract.
use mathlib.Core.Path.{◌≡◌, refl, sym, ap, ◌∙◌}
use mathlib.Core.List.{map}
use Prim.Native.Nat.{ℕ}
use native.Mathlib.Omega.{arith}
use lib.ListN.{length, take}
use lib.Seq.{take_all, length-take-le}
use Rattle.rows.proofs.Copying.{copied_none, copied_next, copied_all}
use Rattle.file.specs.Layout.{by_columns}
use Rattle.file.proofs.LayoutLaws.{columns_take}
use Rattle.storing.proofs.Writing.{written_as}
use Rattle.storing.proofs.put_table.Goals as goal

pub loop-i-init : goal.loop-i-init
loop-i-init g c = copied_none _ _ _ _ _ _ refl

pub loop-i-preserved : goal.loop-i-preserved
loop-i-preserved g c =
    let entry = c.index-entries-i in
    copied_next _ _ _ _ _ c.loop-i.invariant entry.result c.loop-i-test.true (omega arith) c.requires.rows (c.row.ensures ∙ ap g.T.Table.row_of entry.is)

pub put_columns-requires : goal.put_columns-requires
put_columns-requires g c =
    let n = length c.args.entries.now in
    let many : length (take n c.loop-i.rows) ≡ n = length-take-le n c.loop-i.rows (omega (arith, c.requires.rows, c.loop-i.invariant.long)) in
    rw (c.COLUMNS.ensures, many) c.requires.bytes

pub returns : goal.returns
returns g c =
    let k = g.T.Table.COLUMNS in
    let entries = c.args.entries.now in
    let rows = take (length entries) c.loop-i.rows in
    written_as c.put_columns.ensures
    (ap (λ (j : ℕ). by_columns j rows) c.COLUMNS.ensures
    ∙ sym (columns_take k rows)
    ∙ ap (by_columns k) (copied_all _ _ _ _ _ c.loop-i.invariant c.loop-i-test.false ∙ ap (map g.T.Table.row_of) (take_all (length entries) entries (omega arith)))) refl
