-- `canonical_pred_apps` meets its contract.
use Rattle.std.proofs.Common.{rules, of_calls}
use Rattle.semantics.specs.Structure.{canonical_pred_app}
use Rattle.el_rows.specs.View.{links_in}
use Rattle.rewriting.proofs.canonical_pred_apps.Goals as goal

pub returns : goal.returns
returns c = c.rewrite.ensures (canonical_pred_app (links_in c.args.els.now)) (λ row r k. search (rules, of_calls))
