-- `find_parents` meets its contract.
use mathlib.Core.Path.{◌≡◌, refl, ◌∙◌}
use Prim.Native.Nat.{◌<◌}
use native.Mathlib.Omega.{arith}
use lib.ListN.{length, length-set}
use Rattle.ids.specs.Ids.{el_of}
use Rattle.ids.proofs.Views.{length_view, filled_more, filled_all}
use Rattle.unification.specs.Roots.{root_of}
use Rattle.el_rows.specs.View.{links_in}
use Rattle.conflicts.proofs.find_parents.Goals as goal

pub loop-i-init : goal.loop-i-init
loop-i-init c = (omega arith, refl, refl, refl, refl)

pub overflow_add-finds : goal.overflow_add-finds
overflow_add-finds c =
    omega (arith, c.loop-i.invariant.1, c.loop-i-test.true, c.size-k.ensures.most)

pub loop-i-preserved : goal.loop-i-preserved
loop-i-preserved c =
    let l = c.loop-i in
    let ps = c.args.fact.ct.parents in
    let at : l.i < length ps.ids = omega (arith, c.loop-i-test.true, c.size-k.ensures.is, length_view el_of ps.len ps.ids) in (
      omega arith,
      omega (arith, l.invariant.1),
      l.invariant.2,
      length-set l.roots.ids _ _ ∙ l.invariant.3,
      filled_more el_of (root_of (links_in c.args.els.now)) ps.ids l.roots.ids l.i (record { 0 = 0 }) _ l.invariant.4 at
          (omega (arith, at, l.invariant.3)) c.find-root.ensures,
    )

pub returns : goal.returns
returns c =
    let l = c.loop-i in
    let ps = c.args.fact.ct.parents in
    let all : l.i ≡ c.size-k.result = omega (arith, l.invariant.0, c.loop-i-test.false) in
    record {
      are = rw l.invariant.2
          (filled_all el_of (root_of (links_in c.args.els.now)) ps.ids l.roots.ids ps.len l.i
          (all ∙ c.size-k.ensures.is) l.invariant.3 l.invariant.4);
      each = l.invariant.1 ∙ all ∙ c.size-k.ensures.is;
      few = omega (arith, l.invariant.1, all, c.size-k.ensures.most);
    }
