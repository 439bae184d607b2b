-- `nexts_of` meets its contract.
use mathlib.Core.Path.{◌≡◌, sym, ◌∙◌}
use Prim.Native.Nat.{ℕ, suc, ◌-◌, ◌≤◌, ◌<◌}
use native.Mathlib.Omega.{arith}
use lib.ListN.{length, get_or}
use Rattle.semantics.specs.Structure.{max_facts}
use Rattle.facts.specs.declared.Facts.{Facts}
use Rattle.facts.specs.View.{fact_of, facts_of, no_fact}
use Rattle.storing.proofs.Chains.{el_at, linked_none, linked_other, linked_same, linked_all}
use Rattle.storing.proofs.nexts_of.Goals as goal
use Rattle.storing.proofs.nexts_of.Goals.{In-loop-i}

pub loop-i-init : goal.loop-i-init
loop-i-init c = linked_none

-- the fact i, and the one before it
module _ (c : In-loop-i) where
  abbrev i : ℕ
  i = c.loop-i.i

  abbrev table : Facts
  table = c.args.table

  i-there : i < length (facts_of table)
  i-there = omega (arith, c.loop-i-test.true, c.size-n.ensures.is)

  i-after : suc (i - 1) ≡ i
  i-after = omega (arith, c.loop-i.invariant.from)

  all_fit : length (facts_of table) ≤ max_facts
  all_fit = omega (arith, c.size-n.ensures.is, c.size-n.ensures.most)

  -- their elements
  before-el : (get_or (facts_of table) (i - 1) (fact_of no_fact)).el ≡ (get_or table.items (i - 1) no_fact).el.0
  before-el = el_at table (i - 1) (omega (arith, i-there))

  here-el : (get_or (facts_of table) i (fact_of no_fact)).el ≡ (get_or table.items i no_fact).el.0
  here-el = el_at table i i-there

pub loop-i-preserved-then-before-here : goal.loop-i-preserved-then-before-here
loop-i-preserved-then-before-here c =
    linked_other (fact_of no_fact) c.loop-i.invariant (i (goal.at.loop-i-preserved-then-before-here c).In-loop-i - 1) (i-after (goal.at.loop-i-preserved-then-before-here c).In-loop-i) (i-there (goal.at.loop-i-preserved-then-before-here c).In-loop-i) (all_fit (goal.at.loop-i-preserved-then-before-here c).In-loop-i)
    (λ e. c.if-before-here.true (sym (before-el (goal.at.loop-i-preserved-then-before-here c).In-loop-i) ∙ e ∙ here-el (goal.at.loop-i-preserved-then-before-here c).In-loop-i))

pub loop-i-preserved : goal.loop-i-preserved
loop-i-preserved c =
    linked_same (fact_of no_fact) c.loop-i.invariant (i (goal.at.loop-i-preserved c).In-loop-i - 1) (i-after (goal.at.loop-i-preserved c).In-loop-i) (i-there (goal.at.loop-i-preserved c).In-loop-i) (all_fit (goal.at.loop-i-preserved c).In-loop-i)
    (before-el (goal.at.loop-i-preserved c).In-loop-i ∙ c.if-before-here.false ∙ sym (here-el (goal.at.loop-i-preserved c).In-loop-i))

pub returns : goal.returns
returns c =
    let l = c.loop-i in
    let n = c.size-n.ensures in
    linked_all l.invariant (omega (arith, n.is, c.loop-i-test.false)) (omega (arith, n.is, n.most))
