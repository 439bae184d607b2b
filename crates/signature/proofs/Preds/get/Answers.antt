-- `Preds::get` meets its contract.
use mathlib.Core.Path.{◌∙◌}
use Rattle.signature.specs.Model.{pred_entry, no_pred, pred_of}
use Rattle.ids.proofs.Counted.{get_at, get_past}
use Rattle.signature.proofs.Preds.get.Goals as goal

pub returns-then-size-id : goal.returns-then-size-id
returns-then-size-id c =
    let t = c.args.self in
    (λ k. pred_entry (c.new.ensures k) (c.new-then-size-id.ensures k))
    ∙ get_past pred_of t.len t.items c.size.ensures c.args.id.0 no_pred c.if-size-id.true

pub returns : goal.returns
returns c =
    let t = c.args.self in
    get_at pred_of t.len t.items c.size.ensures c.args.id.0 _ c.if-size-id.false
