-- `signature_of` meets its contract.
use mathlib.Core.Path.{ap}
use mathlib.Core.List.{List}
use Rattle.signature.specs.Model.{TypeM, sig, view_preds, view_funcs, view_models, view_mor_apps}
use Rattle.pechunaq.proofs.signature_of.Goals as goal

pub returns : goal.returns
returns c =
    let s = c.args.session in
    ap (λ (ts : List TypeM). sig ts (view_preds s.preds) (view_funcs s.funcs) (view_models s.models) (view_mor_apps s.mor_app_funcs)) c.from.ensures
