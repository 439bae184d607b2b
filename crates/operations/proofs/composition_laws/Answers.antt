-- `composition_laws` meets its contract.
use mathlib.Core.Path.{sym, ◌∙◌}
use native.Mathlib.Omega.{arith}
use Rattle.ids.specs.Ids.{el_of}
use Rattle.ids.proofs.Views.{view_at}
use Rattle.operations.proofs.Turns.{not_composite, composition_of_two, composition_of_others, lawless, three_laws}
use Rattle.operations.proofs.composition_laws.Goals as goal

pub returns-then-app-ids : goal.returns-then-app-ids
returns-then-app-ids c = lawless _ c.requires (not_composite _ _ c.if-app-ids.true)

pub returns-then-size-ne2 : goal.returns-then-size-ne2
returns-then-size-ne2 c =
    lawless _ c.requires (composition_of_others _ _ c.if-app-ids.false (λ n. c.if-size-ne2.true (c.size.ensures.is ∙ n)))

pub returns : goal.returns
returns c =
    let args = c.args.app.args in
    let size = c.size.ensures in
    three_laws c.agree-first.ensures c.agree-second.ensures c.agree.ensures
    (composition_of_two _ _ c.if-app-ids.false _ _ (sym size.is ∙ c.if-size-ne2.false)
    (view_at el_of args.len args.ids 0 (record { 0 = 0 }) (omega (arith, size.is, c.if-size-ne2.false)))
    (view_at el_of args.len args.ids 1 (record { 0 = 0 }) (omega (arith, size.is, c.if-size-ne2.false))))
