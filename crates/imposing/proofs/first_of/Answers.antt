-- `first_of` meets its contract.
use mathlib.Core.Path.{sym, ◌∙◌}
use mathlib.Core.List.{map}
use native.Mathlib.Omega.{arith}
use Rattle.ids.proofs.Sorted.{no_test}
use Rattle.semantics.proofs.Orders.{fact_ordered}
use Rattle.facts.specs.View.{fact_of}
use Rattle.rows.proofs.Positions.{parted}
use Rattle.imposing.proofs.first_of.Goals as goal

pub returns-then-not-is_sorted : goal.returns-then-not-is_sorted
returns-then-not-is_sorted c = record { most = omega arith; smaller = tt; rest = λ e. no_test e c.if-not-is_sorted.true }

pub position-requires : goal.position-requires
position-requires c = c.requires c.if-not-is_sorted.false

pub returns-in-At : goal.returns-in-At
returns-in-At c =
    let p = parted fact_ordered (fact_of c.args.key) (map fact_of c.args.facts.now) _
    (c.requires c.if-not-is_sorted.false) (sym c.in-At.is ∙ c.position.ensures) in
    record { most = p.0; smaller = p.1.0; rest = λ e. p.1.1 }

pub returns-in-Before : goal.returns-in-Before
returns-in-Before c =
    let p = parted fact_ordered (fact_of c.args.key) (map fact_of c.args.facts.now) _
    (c.requires c.if-not-is_sorted.false) (sym c.in-Before.is ∙ c.position.ensures) in
    record { most = p.0; smaller = p.1.0; rest = λ e. p.1.1 }
