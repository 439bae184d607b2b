-- `TypeConflicts::new` meets its contract.
use mathlib.Core.Path.{refl}
use Rattle.ids.specs.Ids.{padded}
use Rattle.conflicts.proofs.TypeConflicts.new.Goals as goal

pub returns : goal.returns
unfolding padded
returns c = refl
