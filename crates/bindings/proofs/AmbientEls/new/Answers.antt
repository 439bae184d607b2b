-- `AmbientEls::new` meets its contract.
use mathlib.Core.Path.{refl}
use Rattle.signature.specs.Model.{max_types}
use Rattle.semantics.specs.Structure.{ambient}
use Rattle.bindings.proofs.Slots.{none_slot, none_given}
use Rattle.bindings.proofs.AmbientEls.new.Goals as goal

pub returns : goal.returns
returns c = none_given ambient max_types 0 none_slot refl
