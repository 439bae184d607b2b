-- `laws_in` meets its contract.
use Rattle.operations.proofs.Turns.{both_laws}
use Rattle.operations.proofs.laws_in.Goals as goal

pub returns : goal.returns
returns c =
    both_laws _ _ c.identity_laws-next.ensures c.composition_laws.ensures
