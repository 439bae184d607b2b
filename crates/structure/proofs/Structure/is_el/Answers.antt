-- `Structure::is_el` meets its contract.
use mathlib.Core.Path.{ap}
use lib.Dec.{ltb}
use Rattle.structure.proofs.Structure.is_el.Goals as goal

pub returns : goal.returns
returns c = ap (ltb c.args.el.0) c.size.ensures.is
