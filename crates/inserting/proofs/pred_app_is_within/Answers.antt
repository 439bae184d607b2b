-- `pred_app_is_within` meets its contract.
use mathlib.Core.Path.{◌∙◌}
use mathlib.Core.Bool.{◌&&◌}
use lib.Dec.{ltb}
use Rattle.inserting.proofs.pred_app_is_within.Goals as goal

pub returns : goal.returns
returns c =
    let a = c.args in
    let both = c.and-named.ensures ∙ (λ i. c.all_below.ensures i && c.all_below-2.ensures i) in
    c.and.ensures ∙ (λ i. ltb a.app.pred.0 a.preds && both i)
