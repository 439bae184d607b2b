-- `entry` of `Pairs` meets its contract.
use mathlib.Core.Path.{◌∙◌}
use Rattle.semantics.specs.Structure.{pair}
use Rattle.file.specs.Rows.{pair_in}
use Rattle.decoding.proofs.Reading.{two_cells}
use Rattle.decoding.proofs.PairsTable.entry.Goals as goal

pub returns : goal.returns
unfolding pair_in
returns c = c.new.ensures ∙ two_cells pair c.args.row
