-- `func_args` meets its contract.
use mathlib.Core.Path.{ap}
use Rattle.ids.specs.Ids.{els_of}
use Rattle.signature.specs.Model.{FuncM}
use Rattle.typing.specs.Rows.{demand}
use Rattle.typing.proofs.func_args.Goals as goal

pub returns : goal.returns
returns c =
    let app = c.args.app in
    ap (λ (f : FuncM). demand f.domain (els_of app.parents) (els_of app.args)) c.get-func.ensures
