-- `links_fall` meets its contract.
use mathlib.Core.Path.{refl}
use Rattle.validating.proofs.Searching.{rises, falls, none_rises}
use Rattle.validating.proofs.links_fall.Goals as goal

pub loop-e-init : goal.loop-e-init
loop-e-init c = refl

pub returns-then-e-link : goal.returns-then-e-link
returns-then-e-link c = rises c.args.links.now c.loop-e.invariant c.loop-e-test.true c.if-e-link.true

pub loop-e-preserved : goal.loop-e-preserved
loop-e-preserved c = falls c.args.links.now c.loop-e.invariant c.loop-e-test.true c.if-e-link.false

pub returns : goal.returns
returns c = none_rises c.args.links.now c.loop-e.invariant c.loop-e-test.false
