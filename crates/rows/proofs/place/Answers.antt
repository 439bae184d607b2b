-- `place` meets its contract.
use Rattle.rows.proofs.Shifting.{row_placed}
use Rattle.rows.proofs.place.Goals as goal

pub returns : goal.returns
returns g c = rw c.copy_within.ensures.after (row_placed c.args.rows.now c.args.n c.args.at c.args.row c.requires.0 c.requires.1)
