-- `canonical_pred_app` meets its contract.
use Rattle.apps.specs.View.{pred_app_of}
use Rattle.el_rows.specs.View.{links_in}
use Rattle.el_rows.proofs.Laws.{pred_roots}
use Rattle.el_rows.proofs.canonical_pred_app.Goals as goal

pub returns : goal.returns
returns c =
    let a = c.args in
    pred_roots (links_in a.els.now) (pred_app_of a.app) c.roots-parents.ensures c.roots-args.ensures
