-- `fill_els` meets its contract.
use mathlib.Core.Path.{◌≡◌, refl, sym, ap, ◌∙◌}
use mathlib.Core.Bool.{false, ◌||◌}
use mathlib.Core.List.{map, map-id}
use native.Mathlib.Omega.{arith}
use lib.ListN.{length, take, get_or}
use Rattle.semantics.specs.Types.{any_marked}
use lib.Seq.{take_all}
use Rattle.el_rows.specs.View.{link_in, mark_in}
use Rattle.rows.proofs.Copying.{copied_none, copied_next, copied_all}
use Rattle.el_rows.proofs.Laws.{any_more}
use Rattle.el_rows.proofs.fill_els.Goals as goal

pub loop-i-init : goal.loop-i-init
unfolding any_marked
loop-i-init c = (copied_none _ _ _ _ _ _ refl, (copied_none _ _ _ _ _ _ refl, refl))

pub loop-i-preserved : goal.loop-i-preserved
loop-i-preserved c =
    let l = c.loop-i in
    let a = c.args in
    let h = c.loop-i-test.true in (
      copied_next _ _ _ _ _ l.invariant.0 0 (omega (arith, h, l.invariant.0.long)) c.requires.0 (omega arith) refl,
      (
        copied_next _ _ _ _ _ l.invariant.1.0 false (omega (arith, h, l.invariant.0.long)) c.requires.1 (omega arith) refl,
        (λ k. l.invariant.1.1 k || get_or a.marks.now l.i false) ∙ sym (any_more a.marks.now l.i false (omega (arith, h, l.invariant.0.long, c.requires.1))),
      ),
    )

pub returns : goal.returns
returns c =
    let l = c.loop-i in
    let a = c.args in
    let done = c.loop-i-test.false in
    let n = length a.els.now in
    let all : l.i ≡ n = omega (arith, l.invariant.0.few, done) in
    let whole = sym (take_all n l.els (omega (arith, l.invariant.0.long))) in record {
      links_are = ap (map link_in) whole ∙ copied_all _ _ _ _ _ l.invariant.0 done ∙ map-id (take n a.links.now);
      marks_are = ap (map mark_in) whole ∙ copied_all _ _ _ _ _ l.invariant.1.0 done ∙ map-id (take n a.marks.now);
      some_is = rw all at l.invariant.1.1;
      long = l.invariant.0.long;
    }
