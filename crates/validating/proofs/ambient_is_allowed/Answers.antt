-- `ambient_is_allowed` meets its contract.
use mathlib.Core.Bool.{◌&&◌}
use lib.Dec.{ltb}
use Rattle.validating.proofs.ambient_is_allowed.Goals as goal

pub returns : goal.returns
returns c =
    let a = c.args in
    λ i. c.is_type.ensures i && (ltb a.el a.els && c.is_model.ensures i)
