-- `Funcs::get` meets its contract.
use mathlib.Core.Path.{◌∙◌}
use Rattle.signature.specs.Model.{func_entry, no_func, func_of}
use Rattle.ids.proofs.Counted.{get_at, get_past}
use Rattle.signature.proofs.Funcs.get.Goals as goal

pub returns-then-size-id : goal.returns-then-size-id
returns-then-size-id c =
    let t = c.args.self in
    (λ k. func_entry (c.new.ensures k) (c.new-then-size-id.ensures k) 0)
    ∙ get_past func_of t.len t.items c.size.ensures c.args.id.0 no_func c.if-size-id.true

pub returns : goal.returns
returns c =
    let t = c.args.self in
    get_at func_of t.len t.items c.size.ensures c.args.id.0 _ c.if-size-id.false
