-- `pred_args` meets its contract.
use mathlib.Core.Path.{ap}
use Rattle.ids.specs.Ids.{els_of}
use Rattle.signature.specs.Model.{PredM}
use Rattle.typing.specs.Rows.{demand}
use Rattle.typing.proofs.pred_args.Goals as goal

pub returns : goal.returns
returns c =
    let app = c.args.app in
    ap (λ (p : PredM). demand p.arity (els_of app.parents) (els_of app.args)) c.get-pred.ensures
