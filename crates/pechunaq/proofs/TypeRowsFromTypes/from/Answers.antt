-- `from` meets its contract.
use mathlib.Core.Path.{◌∙◌}
use native.Mathlib.Omega.{arith}
use borrow.Author.Rules.{rules}
use Rattle.ids.proofs.Views.{length_view, view_clamped}
use Rattle.signature.specs.Model.{type_of}
use Rattle.rows.proofs.Copying.{copied_none, copied_next, copied_all}
use Rattle.pechunaq.specs.View.{no_type}
use Rattle.pechunaq.proofs.TypeRowsFromTypes.from.Goals as goal

pub loop-i-init : goal.loop-i-init
loop-i-init c = copied_none _ _ _ _ _ _ (search rules)

pub loop-i-preserved : goal.loop-i-preserved
loop-i-preserved c =
    let t = c.args.types in
    copied_next _ _ _ _ _ c.loop-i.invariant no_type c.loop-i-test.true
    (omega (arith, c.size-n.ensures.is, length_view type_of t.len t.items)) c.size-n.ensures.most c.from.ensures

pub returns : goal.returns
returns c =
    let t = c.args.types in
    copied_all _ _ _ _ _ c.loop-i.invariant c.loop-i-test.false ∙ view_clamped type_of t.len c.size-n.result t.items c.size-n.ensures.is
