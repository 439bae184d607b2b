-- `entry` of `PredApps` meets its contract.
use mathlib.Core.Path.{◌≡◌, ap, ◌∙◌}
use native.Mathlib.Omega.{arith}
use lib.ListN.{length}
use Rattle.ids.proofs.Views.{long}
use Rattle.semantics.specs.Structure.{pred_app}
use Rattle.apps.specs.View.{pred_app_of}
use Rattle.file.specs.Rows.{pred_app_in, pred_app_columns}
use Rattle.decoding.proofs.Reading.{cell, list_at_lem}
use borrow.Author.Rules.{rules}
use Rattle.decoding.proofs.PredAppsTable.entry.Goals as goal

pub returns : goal.returns
unfolding pred_app_in
returns c =
    let r = c.args.row in
    let many : length r ≡ 12 = search (rules, long) in
    let parents = list_at_lem 1 pred_app_columns r (omega arith) (omega (arith, many)) c.list_of-parents.ensures in
    let args = list_at_lem 6 pred_app_columns r (omega arith) (omega (arith, many)) c.list_of-args.ensures in
    ap pred_app_of c.new.ensures ∙ (λ i. pred_app (cell 0 pred_app_columns r (omega arith) i) (parents i) (args i))
