-- `canonical_func_app` meets its contract.
use Rattle.apps.specs.View.{func_app_of}
use Rattle.el_rows.specs.View.{links_in}
use Rattle.el_rows.proofs.Laws.{app_roots}
use Rattle.el_rows.proofs.canonical_func_app.Goals as goal

pub returns : goal.returns
returns c =
    let a = c.args in
    app_roots (links_in a.els.now) (func_app_of a.app) c.roots-parents.ensures c.roots-args.ensures c.find-result.ensures
