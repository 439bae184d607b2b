-- `leading` meets its contract.
use mathlib.Core.List.{map}
use Rattle.ids.specs.Ids.{el_of}
use Rattle.driver.proofs.Laws.{first_given}
use Rattle.driver.proofs.leading.Goals as goal

pub returns : goal.returns
returns c = let els = c.args.els in first_given c.args.n els.len _ (map el_of els.ids) c.min.ensures
