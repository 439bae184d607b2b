-- `owners_in` meets its contract.
use native.Mathlib.Omega.{arith}
use Rattle.decoding.proofs.Owners.{owned_none, owned_skip, owned_set, owned_all}
use Rattle.decoding.proofs.owners_in.Goals as goal

pub loop-e-init : goal.loop-e-init
loop-e-init c = owned_none _ _ _

pub loop-e-preserved-then-first-eq0 : goal.loop-e-preserved-then-first-eq0
loop-e-preserved-then-first-eq0 c =
    owned_skip _ _ _ c.requires.1.1 c.loop-e.invariant c.loop-e-test.true c.word-first.ensures c.if-first-eq0.true

pub set_from-requires : goal.set_from-requires
set_from-requires c =
    omega (arith, c.loop-e.invariant.owners.long, c.requires.1.0)

pub loop-e-preserved : goal.loop-e-preserved
loop-e-preserved c =
    owned_set _ _ _ c.requires.1.1 c.loop-e.invariant c.loop-e-test.true c.word-first.ensures c.if-first-eq0.false c.set_from.ensures

pub returns : goal.returns
returns c = owned_all _ _ _ c.requires.1.1 c.loop-e.invariant c.loop-e-test.false
