-- `impositions_in` meets its contract.
use mathlib.Core.Path.{◌≡◌}
use native.Mathlib.Omega.{arith}
use borrow.Author.Rules.{rules}
use lib.ListN.{length, drop, length-take}
use Rattle.ids.proofs.Views.{long}
use Rattle.semantics.specs.Structure.{max_impositions}
use Rattle.facts.specs.declared.Fact.{Fact}
use Rattle.facts.specs.View.{fact_of, no_fact}
use Rattle.file.specs.Rows.{imposition_in}
use Rattle.decoding.proofs.Reading.{table_said}
use Rattle.decoding.proofs.impositions_in.Goals as goal

pub returns : goal.returns
returns c =
    let items : length c.new.result.items ≡ max_impositions = search (rules, long) in
    table_said fact_of imposition_in no_fact c.args.at c.args.bytes.now c.read_table.ensures (omega (arith, items, c.requires.0, length-take {A = Fact})) (drop c.args.n c.new.result.items)
