-- `run_from` meets its contract.
use mathlib.Core.Path.{ap, sym, ◌∙◌}
use native.Mathlib.Omega.{arith}
use Rattle.structure.specs.View.{machine_of}
use Rattle.carrying.specs.View.{CarriedM, with_conflicts}
use Rattle.driver.proofs.Laws.{begins, goes_on}
use Rattle.driver.proofs.run_from.Goals as goal

pub loop-i-init : goal.loop-i-init
loop-i-init c =
    let same = ap (λ (x : CarriedM). x.step.after) c.respond-last.ensures in
    (omega arith, c.respond-last.ensures ∙ ap with_conflicts (begins c.args.bytes.now (sym same)))

pub loop-i-preserved : goal.loop-i-preserved
loop-i-preserved c =
    let bytes = c.args.bytes.now in (
      omega arith,
      c.carry_out-last.ensures
          ∙ ap with_conflicts (goes_on (machine_of c.respond-last.result.machine) bytes c.loop-i.i (omega (arith, c.loop-i-test.true)) (ap (λ (x : CarriedM). x.step) c.loop-i.invariant.1) c.record_in.ensures),
    )
