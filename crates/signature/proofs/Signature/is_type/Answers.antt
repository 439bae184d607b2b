-- `Signature::is_type` meets its contract.
use mathlib.Core.Path.{ap}
use lib.Dec.{ltb}
use Rattle.signature.proofs.Signature.is_type.Goals as goal

pub returns : goal.returns
returns c = ap (ltb c.args.t.0) c.size.ensures.is
