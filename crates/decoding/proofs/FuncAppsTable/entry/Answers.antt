-- `entry` of `FuncApps` meets its contract.
use mathlib.Core.Path.{◌≡◌, ap, ◌∙◌}
use native.Mathlib.Omega.{arith}
use lib.ListN.{length}
use Rattle.ids.proofs.Views.{long}
use Rattle.semantics.specs.Structure.{func_app}
use Rattle.apps.specs.View.{func_app_of}
use Rattle.file.specs.Rows.{func_app_in, func_app_columns}
use Rattle.decoding.proofs.Reading.{cell, list_at_lem}
use borrow.Author.Rules.{rules}
use Rattle.decoding.proofs.FuncAppsTable.entry.Goals as goal

pub returns : goal.returns
unfolding func_app_in
returns c =
    let r = c.args.row in
    let many : length r ≡ 12 = search (rules, long) in
    let parents = list_at_lem 1 func_app_columns r (omega arith) (omega (arith, many)) c.list_of-parents.ensures in
    let args = list_at_lem 6 func_app_columns r (omega arith) (omega (arith, many)) c.list_of-args.ensures in
    ap func_app_of c.new.ensures ∙ (λ i. func_app (cell 0 func_app_columns r (omega arith) i) (parents i) (args i) (cell 11 func_app_columns r (omega arith) i))
