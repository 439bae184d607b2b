-- `canonical_func_app` meets its contract.
use Rattle.apps.specs.View.{func_app_of}
use Rattle.ids.proofs.Lists.{as_held}
use Rattle.canonical.proofs.Laws.{app_roots}
use Rattle.canonical.proofs.canonical_func_app.Goals as goal

pub returns : goal.returns
returns c =
    let x = func_app_of c.args.app in
    app_roots _ x (as_held c.roots-parents.ensures) (as_held c.roots-args.ensures) c.find-found.ensures
