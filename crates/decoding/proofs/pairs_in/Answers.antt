-- `pairs_in` meets its contract.
use mathlib.Core.Path.{◌≡◌, ap}
use mathlib.Core.List.{reverse}
use native.Mathlib.Omega.{arith}
use borrow.Author.Rules.{rules}
use lib.ListN.{length, drop, length-take}
use Rattle.ids.proofs.Views.{long}
use Rattle.semantics.specs.Structure.{max_pairs}
use Rattle.equalities.specs.declared.Pair.{Pair}
use Rattle.equalities.specs.View.{pair_of}
use Rattle.file.specs.Rows.{pair_in}
use Rattle.decoding.proofs.Reading.{table_said}
use Rattle.decoding.proofs.pairs_in.Goals as goal

pub returns : goal.returns
returns c =
    let items : length c.new.result.items ≡ max_pairs = search (rules, long) in
    ap reverse (table_said pair_of pair_in (record { lhs = record { 0 = 0 }; rhs = record { 0 = 0 } }) c.args.at c.args.bytes.now c.read_table.ensures (omega (arith, items, c.requires.0, length-take {A = Pair})) (drop c.args.n c.new.result.items))
