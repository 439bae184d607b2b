-- `links_of` meets its contract.
use mathlib.Core.Path.{refl, sym, ap, ◌∙◌}
use mathlib.Core.List.{map, map-id}
use native.Mathlib.Omega.{arith}
use lib.ListN.{length, take}
use lib.Seq.{take-length}
use Rattle.rows.proofs.Copying.{copied_none, copied_next, copied_all}
use Rattle.el_rows.specs.View.{link_in}
use Rattle.el_rows.proofs.Laws.{no_el}
use borrow.Author.Rules.{rules}
use Rattle.el_rows.proofs.links_of.Goals as goal

pub loop-i-init : goal.loop-i-init
loop-i-init c = copied_none _ _ _ _ _ _ (search rules)

pub loop-i-preserved : goal.loop-i-preserved
loop-i-preserved c = copied_next _ _ _ _ _ c.loop-i.invariant no_el c.loop-i-test.true (omega arith) c.requires refl

pub returns : goal.returns
returns c =
    let l = c.loop-i in
    let n = length c.args.els.now in
    sym (map-id (take n l.out)) ∙ copied_all _ _ _ _ _ l.invariant c.loop-i-test.false ∙ ap (map link_in) (take-length c.args.els.now)
