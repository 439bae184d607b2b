-- `are_in_order` meets its contract.
use mathlib.Core.Path.{sym, ap, ◌∙◌}
use mathlib.Core.Logic.{⊎_elim}
use Rattle.file.specs.File.{in_order}
use Rattle.validating.proofs.Orders.{few, ordered_on, not_equal, not_greater, all_ordered}
use Rattle.validating.proofs.are_in_order.Goals as goal

pub loop-here-init : goal.loop-here-init
loop-here-init g c = ap (in_order g.T.Ordered.order) (sym c.in-Some.ensures.cases.0)

pub loop-here-preserved : goal.loop-here-preserved
loop-here-preserved g c =
    let here = c.here-item in
    ordered_on g.T.Ordered.order c.in-Some.rest.now c.loop-here.invariant c.loop-here-test.true here.is (sym c.order.ensures ∙ c.in-Less.is)

pub returns-in_default : goal.returns-in_default
returns-in_default g c = few g.T.Ordered.order c.args.entries.now c.in_default.ensures.cases

pub returns-in-Equal : goal.returns-in-Equal
returns-in-Equal g c =
    let before = g.T.Ordered.order in
    let rest = c.in-Some.rest.now in
    let here = c.here-item in
    let so_far = c.loop-here.invariant in
    ⊎_elim
    (λ e. not_equal before rest so_far c.loop-here-test.true here.is (sym c.order.ensures ∙ e))
    (λ e. not_greater before rest so_far c.loop-here-test.true here.is (sym c.order.ensures ∙ e)) c.in-Equal.is

pub returns : goal.returns
returns g c = all_ordered g.T.Ordered.order c.loop-here.before c.in-Some.rest.now c.loop-here.invariant c.loop-here-test.false
