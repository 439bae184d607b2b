-- `roots` meets its contract.
use mathlib.Core.Path.{◌≡◌, refl, ◌∙◌}
use Prim.Native.Nat.{◌<◌}
use native.Mathlib.Omega.{arith}
use lib.ListN.{length, length-set}
use Rattle.ids.specs.Ids.{el_of}
use Rattle.ids.proofs.Views.{length_view, filled_more, filled_all}
use Rattle.unification.specs.Roots.{root_of}
use Rattle.el_rows.specs.View.{links_in}
use Rattle.el_rows.proofs.roots.Goals as goal

pub loop-i-init : goal.loop-i-init
loop-i-init c = (omega arith, refl, refl, refl)

pub loop-i-preserved : goal.loop-i-preserved
loop-i-preserved c =
    let l = c.loop-i in
    let a = c.args in
    let at : l.i < length a.list.ids = omega (arith, c.loop-i-test.true, c.size-k.ensures.is, length_view el_of a.list.len a.list.ids) in (
      omega arith,
      l.invariant.1,
      length-set l.out.ids _ _ ∙ l.invariant.2,
      filled_more el_of (root_of (links_in a.els.now)) a.list.ids l.out.ids l.i (record { 0 = 0 }) _ l.invariant.3 at
          (omega (arith, at, l.invariant.2)) c.find.ensures,
    )

pub returns : goal.returns
returns c =
    let l = c.loop-i in
    let a = c.args in
    let all : l.i ≡ c.size-k.result = omega (arith, l.invariant.0, c.loop-i-test.false) in
    rw l.invariant.1
    (filled_all el_of (root_of (links_in a.els.now)) a.list.ids l.out.ids a.list.len l.i
    (all ∙ c.size-k.ensures.is) l.invariant.2 l.invariant.3)
