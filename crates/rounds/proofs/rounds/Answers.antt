-- `rounds` meets its contract. The invariant: with those to come, the rounds that ran come to what the definition's rounds leave.
use mathlib.Core.Path.{◌≡◌}
use Prim.Native.Nat.{◌≤◌}
use native.Mathlib.Omega.{arith}
use Rattle.semantics.specs.Close.{fuel}
use Rattle.rounds.proofs.Laws.{fuel_is, begins, ran_more, ran_all}
use Rattle.rounds.proofs.rounds.Goals as goal

pub loop-ran-init : goal.loop-ran-init
loop-ran-init c = record {
  going = begins _ _ _ _;
  ready = record { holds = c.requires.0; apps_used = c.requires.1.1.0 };
  count_most = omega arith;
}

pub round-turn-requires : goal.round-turn-requires
round-turn-requires c =
    let inv = c.loop-ran.invariant in
    let pre = c.requires in
    (inv.ready.holds, (omega (arith, inv.count_most, pre.1.0, c.loop-ran-test.true, fuel_is), (inv.ready.apps_used, pre.1.1.1)))

pub loop-ran-preserved : goal.loop-ran-preserved
loop-ran-preserved c =
    let loop = c.loop-ran in
    let fuelled : loop.ran ≤ fuel = omega (arith, c.loop-ran-test.true, fuel_is) in
    ran_more loop.invariant c.if-not-again.false fuelled c.round-turn.ensures c.goes_on-again.ensures

pub returns-then-not-again : goal.returns-then-not-again
returns-then-not-again c = let l = c.loop-ran.invariant in ran_all l (l.going.stops c.if-not-again.true)

pub returns : goal.returns
returns c =
    let l = c.loop-ran in
    let all : l.ran ≡ 658949 = omega (arith, c.loop-ran-test.false, l.auto.ran-end) in
    rw all at (ran_all l.invariant (l.invariant.going.spent (omega (arith, c.loop-ran-test.false, fuel_is))))
