-- `Signature::is_mor_of` meets its contract.
use mathlib.Core.Path.{ap}
use Rattle.signature.specs.Calls.{is_mor_of, kind_is_mor_of}
use Rattle.signature.proofs.Laws.{kind_told}
use Rattle.signature.proofs.Signature.is_mor_of.Goals as goal

pub returns-in-Plain : goal.returns-in-Plain
unfolding is_mor_of
returns-in-Plain c =
    ap (kind_is_mor_of c.args.model.0) (kind_told c.get-data.result _ _ c.get-data.ensures c.in-Plain.is)

pub returns-in-Model : goal.returns-in-Model
unfolding is_mor_of
returns-in-Model c =
    ap (kind_is_mor_of c.args.model.0) (kind_told c.get-data.result _ _ c.get-data.ensures c.in-Model.is)

pub returns-in-Enum : goal.returns-in-Enum
unfolding is_mor_of
returns-in-Enum c =
    ap (kind_is_mor_of c.args.model.0) (kind_told c.get-data.result _ _ c.get-data.ensures c.in-Enum.is)

pub returns-in-Mor : goal.returns-in-Mor
unfolding is_mor_of
returns-in-Mor c =
    ap (kind_is_mor_of c.args.model.0) (kind_told c.get-data.result _ _ c.get-data.ensures c.in-Mor.is)
