-- `facts_are_on_roots` meets its contract.
use mathlib.Core.Path.{refl}
use Rattle.ids.proofs.Tests.{told}
use Rattle.facts.specs.View.{no_fact}
use Rattle.validating.proofs.Searching.{failed, passed, ended}
use Rattle.validating.proofs.facts_are_on_roots.Goals as goal

pub loop-fact-init : goal.loop-fact-init
loop-fact-init c = refl

pub returns-then-not-is_on_root : goal.returns-then-not-is_on_root
returns-then-not-is_on_root c =
    let a = c.args in
    failed _ a.facts.now c.loop-fact.invariant no_fact c.loop-fact-test.true (told c.is_on_root.ensures c.if-not-is_on_root.true)

pub loop-fact-preserved : goal.loop-fact-preserved
loop-fact-preserved c =
    passed _ c.args.facts.now c.loop-fact.invariant no_fact c.loop-fact-test.true (told c.is_on_root.ensures c.if-not-is_on_root.false)

pub returns : goal.returns
returns c =
    let a = c.args in
    ended _ a.facts.now c.loop-fact.invariant c.loop-fact-test.false
