-- `Signature::is_model` meets its contract.
use mathlib.Core.Path.{ap}
use Rattle.signature.specs.Calls.{is_model, kind_is_model}
use Rattle.signature.proofs.Laws.{kind_told}
use Rattle.signature.proofs.Signature.is_model.Goals as goal

pub returns-in-Plain : goal.returns-in-Plain
unfolding is_model
returns-in-Plain c = ap kind_is_model (kind_told c.get-data.result _ _ c.get-data.ensures c.in-Plain.is)

pub returns-in-Model : goal.returns-in-Model
unfolding is_model
returns-in-Model c = ap kind_is_model (kind_told c.get-data.result _ _ c.get-data.ensures c.in-Model.is)

pub returns-in-Enum : goal.returns-in-Enum
unfolding is_model
returns-in-Enum c = ap kind_is_model (kind_told c.get-data.result _ _ c.get-data.ensures c.in-Enum.is)

pub returns-in-Mor : goal.returns-in-Mor
unfolding is_model
returns-in-Mor c = ap kind_is_model (kind_told c.get-data.result _ _ c.get-data.ensures c.in-Mor.is)
