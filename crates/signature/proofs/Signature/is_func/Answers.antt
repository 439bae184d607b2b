-- `Signature::is_func` meets its contract.
use mathlib.Core.Path.{ap}
use lib.Dec.{ltb}
use Rattle.signature.proofs.Signature.is_func.Goals as goal

pub returns : goal.returns
returns c = ap (ltb c.args.f.0) c.size.ensures.is
