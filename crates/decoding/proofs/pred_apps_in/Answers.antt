-- `pred_apps_in` meets its contract.
use mathlib.Core.Path.{◌≡◌}
use native.Mathlib.Omega.{arith}
use borrow.Author.Rules.{rules}
use lib.ListN.{length, drop, length-take}
use Rattle.ids.proofs.Views.{long}
use Rattle.semantics.specs.Structure.{max_pred_apps}
use Rattle.apps.specs.declared.PredApp.{PredApp}
use Rattle.apps.specs.View.{pred_app_of, no_pred_app}
use Rattle.file.specs.Rows.{pred_app_in}
use Rattle.decoding.proofs.Reading.{table_said}
use Rattle.decoding.proofs.pred_apps_in.Goals as goal

pub returns : goal.returns
returns c =
    let items : length c.new.result.items ≡ max_pred_apps = search (rules, long) in
    table_said pred_app_of pred_app_in no_pred_app c.args.at c.args.bytes.now c.read_table.ensures (omega (arith, items, c.requires.0, length-take {A = PredApp})) (drop c.args.n c.new.result.items)
