-- `write_apps` meets its contract.
use mathlib.Core.List.{map}
use native.Mathlib.Omega.{arith}
use lib.ListN.{length-take}
use Rattle.facts.specs.View.{fact_of}
use Rattle.apps.specs.View.{func_app_of, func_apps_of, pred_app_of, pred_apps_of}
use Rattle.file.specs.Layout.{by_columns, joined}
use Rattle.file.specs.Rows.{func_app_columns, pred_app_columns, imposition_columns, func_app_row, pred_app_row, imposition_row}
use Rattle.storing.specs.View.{Written}
use Rattle.storing.proofs.Columns.{table_written}
use Rattle.storing.proofs.Writing.{written_nothing, written_then}
use Rattle.storing.proofs.Parts.{table_length}
use Rattle.storing.proofs.write_apps.Goals as goal
use Rattle.storing.proofs.write_apps.Goals.{After-put_table-applied, After-put_table-said}

-- the applications, as the definitions speak of them
applied : (c : After-put_table-applied) →
    let s = c.args.structure in
    Written c.args.file.now c.args.at (by_columns func_app_columns (map func_app_row (func_apps_of s.func_apps))) c.put_table-applied.new.buffer c.put_table-applied.result
applied c =
    let t = c.args.structure.func_apps in
    table_written func_app_of t.len t.items c.size.ensures func_app_row func_app_columns c.put_table-applied.ensures

said : (c : After-put_table-said) →
    let s = c.args.structure in
    let before = c.put_table-applied in
    Written before.new.buffer before.result (by_columns pred_app_columns (map pred_app_row (pred_apps_of s.pred_apps))) c.put_table-said.new.buffer c.put_table-said.result
said c =
    let t = c.args.structure.pred_apps in
    table_written pred_app_of t.len t.items c.size-2.ensures pred_app_row pred_app_columns c.put_table-said.ensures

pub put_table-said-requires-clause-bytes : goal.put_table-said-requires-clause-bytes
put_table-said-requires-clause-bytes c =
    let s = c.args.structure in
    let before = applied (goal.at.put_table-said-requires-clause-bytes c).After-put_table-applied in
    omega (
      arith,
      c.requires.0,
      c.requires.1,
      c.size.ensures,
      c.size-2.ensures,
      length-take c.size-2.result s.pred_apps.items,
      before.end,
      before.long,
      table_length func_app_row func_app_columns (func_apps_of s.func_apps),
    )

pub put_table-requires-clause-bytes : goal.put_table-requires-clause-bytes
put_table-requires-clause-bytes c =
    let s = c.args.structure in
    let before = applied (goal.at.put_table-requires-clause-bytes c).After-put_table-applied in
    let last = said (goal.at.put_table-requires-clause-bytes c).After-put_table-said in
    omega (
      arith,
      c.requires.0,
      c.requires.1,
      c.size.ensures,
      c.size-2.ensures,
      c.size-3.ensures,
      length-take c.size-3.result s.pending_type_impositions.items,
      before.end,
      before.long,
      last.end,
      last.long,
      table_length func_app_row func_app_columns (func_apps_of s.func_apps),
      table_length pred_app_row pred_app_columns (pred_apps_of s.pred_apps),
    )

pub returns : goal.returns
unfolding joined
returns c =
    let t = c.args.structure.pending_type_impositions in
    written_then (applied (goal.at.returns c).After-put_table-applied)
    (written_then (said (goal.at.returns c).After-put_table-said)
    (written_then (table_written fact_of t.len t.items c.size-3.ensures imposition_row imposition_columns c.put_table.ensures) (written_nothing _ _)))
