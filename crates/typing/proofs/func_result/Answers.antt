-- `func_result` meets its contract.
use mathlib.Core.Path.{ap}
use mathlib.Core.List.{[], ◌∷◌}
use Rattle.ids.specs.Ids.{els_of}
use Rattle.signature.specs.Model.{FuncM}
use Rattle.typing.specs.Rows.{demand}
use Rattle.typing.proofs.func_result.Goals as goal

pub returns : goal.returns
returns c =
    let app = c.args.app in
    ap (λ (f : FuncM). demand (f.codomain ∷ []) (els_of app.parents) (app.result.0 ∷ [])) c.get-func.ensures
