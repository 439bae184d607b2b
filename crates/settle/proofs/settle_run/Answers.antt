-- `settle_run` meets its contract. The invariant: with those to come, the closes that ran are the definition's settle.
use Prim.Native.Nat.{◌≤◌}
use mathlib.Core.Path.{refl, ap, subst}
use mathlib.Core.List.{[]}
use native.Mathlib.Omega.{arith}
use Rattle.unification.specs.Roots.{max_els}
use Rattle.signature.specs.Model.{sig_of}
use Rattle.semantics.specs.Calls.{Totals, merges_of}
use Rattle.structure.specs.View.{structure_of, answer_of}
use Rattle.rounds.specs.View.{one_close}
use Rattle.structure.specs.declared.Answer.{Answer}
use Rattle.structure.specs.declared.Closed.{Closed}
use Rattle.settle.proofs.Laws.{begins, takes, refused_told, report_told, ends, run_is, sums_fit}
use borrow.Author.Rules.{rules}
use Rattle.settle.proofs.settle_run.Goals as goal
use Rattle.settle.proofs.settle_run.Goals.{After-reached-1}

pub overflow_add-most : goal.overflow_add-most
overflow_add-most c = search (rules, c.size-most.ensures.most)

pub loop-i-init : goal.loop-i-init
loop-i-init c =
    let a = c.args in
    (begins (sig_of a.signature) (structure_of a.structure), omega arith)

pub returns-in_default : goal.returns-in_default
returns-in_default c =
    let inv = c.loop-i.invariant.0 in
    run_is _ _ _
    (refused_told _ inv c.if-not-again.false (omega (arith, c.loop-i-test.true, c.size-most.ensures.is)) c.close-stepped.result.answer
    c.close-stepped.ensures.result_value c.in_default.not-Closed)
    c.verdict_of.ensures inv.totals_are

-- what the close reported
module _ (c : After-reached-1) where
  abbrev report : Closed
  report = c.in-Closed.report

  merges-few : report.merges ≤ one_close
  unfolding merges_of
  merges-few = subst (λ (a : Answer). merges_of (answer_of [] a) ≤ one_close) c.in-Closed.is c.close-stepped.ensures.answer_bound

pub counted-totals-requires : goal.counted-totals-requires
counted-totals-requires c =
    let inv = c.loop-i.invariant in
    let few : c.loop-i.i ≤ max_els = omega (arith, c.loop-i-test.true, c.size-most.ensures.most) in
    sums_fit few inv.0.closes_are inv.1 (merges-few (goal.at.counted-totals-requires c).After-reached-1)

pub loop-i-smaller : goal.loop-i-smaller
loop-i-smaller c = omega (arith, c.loop-i-test.true)

pub loop-i-preserved : goal.loop-i-preserved
loop-i-preserved c =
    let g = sig_of c.args.signature in
    let is = c.close-stepped.ensures.result_value in
    let inv = c.loop-i.invariant in
    let told = report_told g _ is (ap (answer_of []) c.in-Closed.is) in
    let counted = c.counted-totals.ensures in (
      takes g inv.0 c.if-not-again.false (omega (arith, c.loop-i-test.true, c.size-most.ensures.is)) told.0 told.1 is
          counted c.goes_on-again.ensures,
      omega (arith, inv.1, merges-few (goal.at.loop-i-preserved c).After-reached-1, ap (λ (t : Totals). t.merges) counted),
    )

pub returns-after-loop-i : goal.returns-after-loop-i
returns-after-loop-i c =
    let inv = c.loop-i.invariant.0 in
    run_is _ _ _ (ends _ inv (omega (arith, c.loop-i-test.false, c.size-most.ensures.is))) refl inv.totals_are

pub returns-then-not-again : goal.returns-then-not-again
returns-then-not-again c =
    let inv = c.loop-i.invariant.0 in
    run_is _ _ _ (inv.stops c.if-not-again.true) refl inv.totals_are
