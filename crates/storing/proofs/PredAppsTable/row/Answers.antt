-- `row` of `PredApps` meets its contract.
use mathlib.Core.Path.{◌∙◌}
use mathlib.Core.List.{◌∷◌}
use lib.ListN.{get_or}
use Rattle.ids.specs.Ids.{els_of}
use Rattle.file.specs.Rows.{places, pred_app_row}
use Rattle.storing.proofs.Listed.{places_before, places_last}
use Rattle.storing.proofs.PredAppsTable.row.Goals as goal

pub returns : goal.returns
unfolding pred_app_row
returns c =
    let app = c.args.app in
    let args = places_last (els_of app.args) c.places-2.ensures in
    (λ i. app.pred.0 ∷ get_or c.places.result 0 0 ∷ get_or c.places.result 1 0 ∷ get_or c.places.result 2 0 ∷ get_or c.places.result 3 0 ∷ get_or c.places.result 4 0 ∷ args i)
    ∙ (λ i. app.pred.0 ∷ places_before (els_of app.parents) c.places.ensures (places (els_of app.args)) i)
