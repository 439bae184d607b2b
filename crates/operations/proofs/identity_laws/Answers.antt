-- `identity_laws` meets its contract.
use mathlib.Core.Path.{sym, ◌∙◌}
use native.Mathlib.Omega.{arith}
use Rattle.ids.specs.Ids.{el_of}
use Rattle.ids.proofs.Views.{view_at}
use Rattle.operations.proofs.Turns.{not_identity, identity_of_one, identity_of_others, held, lawless, two_laws}
use Rattle.operations.proofs.identity_laws.Goals as goal

pub returns-then-app-ids : goal.returns-then-app-ids
returns-then-app-ids c = lawless _ c.requires (not_identity _ _ c.if-app-ids.true)

pub returns-then-size-ne1 : goal.returns-then-size-ne1
returns-then-size-ne1 c =
    lawless _ c.requires (identity_of_others _ _ c.if-app-ids.false (λ n. c.if-size-ne1.true (c.size.ensures.is ∙ n)))

pub returns : goal.returns
returns c =
    let args = c.args.app.args in
    let size = c.size.ensures in
    two_laws (held c.unary-dom.ensures c.insert_func_app_or_equate-next.ensures)
    (held c.unary-cod.ensures c.insert_func_app_or_equate.ensures)
    (identity_of_one _ _ c.if-app-ids.false _ (sym size.is ∙ c.if-size-ne1.false)
    (view_at el_of args.len args.ids 0 (record { 0 = 0 }) (omega (arith, size.is, c.if-size-ne1.false))))
