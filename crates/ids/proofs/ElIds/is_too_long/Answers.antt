-- `ElIds::is_too_long` meets its contract.
use mathlib.Core.Path.{sym, ap}
use lib.Dec.{ltb}
use Rattle.ids.specs.Limits.{max_list}
use Rattle.ids.proofs.Lists.{given_length}
use Rattle.ids.proofs.ElIds.is_too_long.Goals as goal

pub returns : goal.returns
returns c = ap (ltb max_list) (sym (given_length _ _))
