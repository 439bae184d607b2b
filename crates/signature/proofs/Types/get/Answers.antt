-- `Types::get` meets its contract.
use mathlib.Core.Path.{◌∙◌}
use Rattle.signature.specs.Model.{plain, type_entry, no_type, type_of}
use Rattle.ids.proofs.Counted.{get_at, get_past}
use Rattle.signature.proofs.Types.get.Goals as goal

pub returns-then-size-id : goal.returns-then-size-id
returns-then-size-id c =
    let t = c.args.self in
    (λ k. type_entry plain (c.new.ensures k))
    ∙ get_past type_of t.len t.items c.size.ensures c.args.id.0 no_type c.if-size-id.true

pub returns : goal.returns
returns c =
    let t = c.args.self in
    get_at type_of t.len t.items c.size.ensures c.args.id.0 _ c.if-size-id.false
