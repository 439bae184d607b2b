-- `equate` meets its contract.
use mathlib.Core.Path.{refl}
use Rattle.operations.proofs.Inserting.{rows_equated}
use Rattle.operations.proofs.equate.Goals as goal

pub returns : goal.returns
returns c =
    rows_equated c.requires c.root-a.ensures c.root-b.ensures refl
