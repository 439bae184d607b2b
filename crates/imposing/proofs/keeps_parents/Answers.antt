-- `keeps_parents` meets its contract.
use mathlib.Core.Path.{refl, sym, ◌∙◌}
use Prim.Native.Nat.{◌≤◌, ◌<◌}
use native.Mathlib.Omega.{arith}
use lib.ListN.{length}
use Rattle.ids.specs.Ids.{els_of}
use Rattle.el_rows.specs.View.{links_in, marks_in}
use Rattle.imposing.proofs.Kept.{pair_kept, pair_merged, parents_short, parents_done}
use Rattle.imposing.proofs.keeps_parents.Goals as goal

pub loop-i-init : goal.loop-i-init
loop-i-init c = refl

pub returns-then-k-i : goal.returns-then-k-i
returns-then-k-i c =
    let a = c.args in
    let l = c.loop-i in
    let past : length (els_of a.qs) ≤ l.i = omega (arith, c.size-k.ensures.is, c.if-k-i.true) in
    parents_short (links_in a.els.now) (marks_in a.els.now) a.ps a.qs l.i l.invariant past

pub returns-then-not-keeps_pair : goal.returns-then-not-keeps_pair
returns-then-not-keeps_pair c =
    let a = c.args in
    let l = c.loop-i in
    let at : l.i < length (els_of a.ps) = omega (arith, c.size-size.ensures.is, c.loop-i-test.true) in
    let at2 : l.i < length (els_of a.qs) = omega (arith, c.size-k.ensures.is, c.if-k-i.false) in
    pair_merged (links_in a.els.now) (marks_in a.els.now) a.ps a.qs l.i l.invariant (record { 0 = 0 }) (record { 0 = 0 }) at at2
    (sym c.keeps_pair.ensures ∙ c.if-not-keeps_pair.true)

pub loop-i-preserved : goal.loop-i-preserved
loop-i-preserved c =
    let a = c.args in
    let l = c.loop-i in
    let at : l.i < length (els_of a.ps) = omega (arith, c.size-size.ensures.is, c.loop-i-test.true) in
    let at2 : l.i < length (els_of a.qs) = omega (arith, c.size-k.ensures.is, c.if-k-i.false) in
    pair_kept (links_in a.els.now) (marks_in a.els.now) a.ps a.qs l.i l.invariant (record { 0 = 0 }) (record { 0 = 0 }) at at2
    (sym c.keeps_pair.ensures ∙ c.if-not-keeps_pair.false)

pub returns : goal.returns
returns c =
    let a = c.args in
    let l = c.loop-i in
    let past : length (els_of a.ps) ≤ l.i = omega (arith, c.size-size.ensures.is, c.loop-i-test.false) in
    parents_done (links_in a.els.now) (marks_in a.els.now) a.ps a.qs l.i l.invariant past
