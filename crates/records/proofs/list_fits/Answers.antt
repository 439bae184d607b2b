-- `list_fits` meets its contract.
use mathlib.Core.Bool.{◌&&◌}
use lib.Dec.{leb}
use Rattle.records.specs.View.{list_within}
use Rattle.records.proofs.list_fits.Goals as goal

pub returns : goal.returns
unfolding list_within
returns c = λ i. (leb c.args.least c.args.n && leb c.args.n c.args.most) && c.is_clear.ensures i
