-- `from` meets its contract.
use mathlib.Core.Path.{◌≡◌, ◌∙◌}
use native.Mathlib.Omega.{arith}
use lib.ListN.{length}
use borrow.Author.Rules.{rules}
use Rattle.ids.proofs.Views.{length_view, view_clamped, long}
use Rattle.signature.specs.Model.{max_types}
use Rattle.rows.proofs.Copying.{copied_none, copied_next, copied_all}
use Rattle.pechunaq.specs.View.{type_in, no_row}
use Rattle.pechunaq.proofs.TypesFromTypeRows.from.Goals as goal

pub loop-i-init : goal.loop-i-init
loop-i-init c = copied_none _ _ _ _ _ _ (search (rules, long))

pub loop-i-preserved : goal.loop-i-preserved
loop-i-preserved c =
    let t = c.args.rows in
    let all : length t.items ≡ max_types = search (rules, long) in
    copied_next _ _ _ _ _ c.loop-i.invariant no_row c.loop-i-test.true
    (omega (arith, c.min-n.ensures, all)) (omega (arith, c.min-n.ensures)) c.from.ensures

pub returns : goal.returns
returns c =
    let t = c.args.rows in
    let all : length t.items ≡ max_types = search (rules, long) in
    copied_all _ _ _ _ _ c.loop-i.invariant c.loop-i-test.false
    ∙ view_clamped type_in t.len c.min-n.result t.items (omega (arith, c.min-n.ensures, length_view type_in t.len t.items, all))
