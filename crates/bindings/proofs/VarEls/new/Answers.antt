-- `VarEls::new` meets its contract.
use mathlib.Core.Path.{refl}
use Rattle.semantics.specs.Structure.{variable, max_vars}
use Rattle.bindings.proofs.Slots.{none_slot, none_given}
use Rattle.bindings.proofs.VarEls.new.Goals as goal

pub returns : goal.returns
returns c = none_given variable max_vars 0 none_slot refl
