-- `func_apps_in` meets its contract.
use mathlib.Core.Path.{◌≡◌}
use native.Mathlib.Omega.{arith}
use borrow.Author.Rules.{rules}
use lib.ListN.{length, drop, length-take}
use Rattle.ids.proofs.Views.{long}
use Rattle.semantics.specs.Structure.{max_func_apps}
use Rattle.apps.specs.declared.FuncApp.{FuncApp}
use Rattle.apps.specs.View.{func_app_of, no_func_app}
use Rattle.file.specs.Rows.{func_app_in}
use Rattle.decoding.proofs.Reading.{table_said}
use Rattle.decoding.proofs.func_apps_in.Goals as goal

pub returns : goal.returns
returns c =
    let items : length c.new.result.items ≡ max_func_apps = search (rules, long) in
    table_said func_app_of func_app_in no_func_app c.args.at c.args.bytes.now c.read_table.ensures (omega (arith, items, c.requires.0, length-take {A = FuncApp})) (drop c.args.n c.new.result.items)
