-- `canonical_impositions` meets its contract.
use mathlib.Core.Path.{◌≡◌, refl, ◌∙◌}
use native.Mathlib.Omega.{arith}
use lib.ListN.{length, length-set}
use Rattle.ids.proofs.Views.{long, filled_more, filled_all}
use Rattle.el_rows.specs.View.{links_in}
use Rattle.semantics.specs.Structure.{max_impositions, canonical_fact}
use Rattle.facts.specs.View.{fact_of, no_fact}
use borrow.Author.Rules.{rules}
use Rattle.rewriting.proofs.canonical_impositions.Goals as goal

pub loop-i-init : goal.loop-i-init
loop-i-init c = (omega arith, refl, refl, refl)

pub loop-i-preserved : goal.loop-i-preserved
loop-i-preserved c =
    let l = c.loop-i in
    let a = c.args in
    let all : length a.impositions.items ≡ max_impositions = search (rules, long) in
    let n = c.size-size.ensures in (
      omega (arith, c.loop-i-test.true),
      l.invariant.1,
      simp length-set l.invariant.2,
      filled_more fact_of (canonical_fact (links_in a.els.now)) a.impositions.items l.done.items l.i no_fact _ l.invariant.3
          (omega (arith, n.most, c.loop-i-test.true)) (omega (arith, n.most, l.invariant.2, c.loop-i-test.true)) c.canonical_fact.ensures,
    )

pub returns : goal.returns
returns c =
    let l = c.loop-i in
    let a = c.args in
    let n = c.size-size in
    let all : l.i ≡ n.result = omega (arith, l.invariant.0, c.loop-i-test.false) in
    rw l.invariant.1 (filled_all fact_of (canonical_fact (links_in a.els.now)) a.impositions.items l.done.items a.impositions.len l.i
    (all ∙ n.ensures.is) l.invariant.2 l.invariant.3)
