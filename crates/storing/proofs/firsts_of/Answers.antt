-- `firsts_of` meets its contract.
use mathlib.Core.Path.{sym, subst, ◌∙◌}
use mathlib.Core.List.{List, [], ◌∷◌, ◌++◌, map}
use Prim.Native.Nat.{ℕ, ◌+◌, ◌<◌}
use lib.ListN.{length, take, get_or}
use lib.Seq.{take_all}
use Rattle.unification.specs.Roots.{max_els}
use Rattle.semantics.specs.Structure.{Fact}
use Rattle.facts.specs.declared.Fact as facts
use Rattle.facts.specs.View.{fact_of, no_fact}
use Rattle.storing.specs.View.{Firsts}
use Rattle.storing.proofs.Chains.{facts_grown, facts_many, firsts_none, firsts_past, firsts_kept, firsts_stored}
use Rattle.storing.proofs.Columns.{entries_taken}
use Rattle.storing.proofs.firsts_of.Goals as goal
use Rattle.storing.proofs.firsts_of.Goals.{In-loop-i}

pub loop-i-init : goal.loop-i-init
loop-i-init c = firsts_none max_els

-- what a turn makes of the fact i
turn : (items : List facts.Fact) (i : ℕ) (heads : List ℕ) → i < length items
    → Firsts max_els (map fact_of (take i items) ++ (fact_of (get_or items i no_fact) ∷ [])) heads
    → Firsts max_els (map fact_of (take (i + 1) items)) heads
turn items i heads h f = subst (λ (fs : List Fact). Firsts max_els fs heads) (sym (facts_grown items i h)) f

pub loop-i-preserved-then-el-ge-MAX_ELS : goal.loop-i-preserved-then-el-ge-MAX_ELS
loop-i-preserved-then-el-ge-MAX_ELS c =
    let l = c.loop-i in
    turn _ l.i l.firsts c.loop-i-test.true (firsts_past _ l.invariant c.if-el-ge-MAX_ELS.true)

pub loop-i-preserved-then-firsts-el-ne0 : goal.loop-i-preserved-then-firsts-el-ne0
loop-i-preserved-then-firsts-el-ne0 c =
    let l = c.loop-i in
    turn _ l.i l.firsts c.loop-i-test.true (firsts_kept _ l.invariant c.if-el-ge-MAX_ELS.false c.if-firsts-el-ne0.true)

pub loop-i-preserved : goal.loop-i-preserved
loop-i-preserved c =
    let l = c.loop-i in
    turn _ l.i _ c.loop-i-test.true
    (firsts_stored _ l.invariant c.if-el-ge-MAX_ELS.false c.if-firsts-el-ne0.false (facts_many (take c.size.result c.args.table.items) l.i c.loop-i-test.true))

pub returns : goal.returns
returns c =
    let l = c.loop-i in
    let t = c.args.table in
    let items = take c.size.result t.items in
    subst (λ (fs : List facts.Fact). Firsts max_els (map fact_of fs) l.firsts)
    (take_all l.i items c.loop-i-test.false ∙ entries_taken fact_of t.len t.items c.size.ensures) l.invariant
