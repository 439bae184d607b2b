-- `load` meets its contract.
use native.Mathlib.Omega.{arith}
use mathlib.Core.Path.{ap, ◌∙◌}
use Rattle.ids.specs.Answers.{refused}
use Rattle.loading.specs.View.{loading}
use Rattle.loading.proofs.Laws.{all_small}
use Rattle.loading.proofs.load.Goals as goal

pub structure_in-requires : goal.structure_in-requires
structure_in-requires c = all_small c.args.bytes.now (λ i. omega (arith, c.type_inv.bytes i))

pub returns-in-Ok : goal.returns-in-Ok
unfolding loading
returns-in-Ok c = ap loading c.in-Ok.ensures

pub returns-in-Err : goal.returns-in-Err
unfolding loading
returns-in-Err c = (λ i. record { answer = refused c.in-Err.number; beside = c.new.ensures i }) ∙ ap loading c.in-Err.ensures
