-- `TypeConflict::clamped` meets its contract.
use Rattle.semantics.specs.Conflicts.{conflict}
use Rattle.conflicts.proofs.TypeConflict.clamped.Goals as goal

pub returns : goal.returns
returns c =
    let t = c.args.self in
    let a = c.clamped-a.ensures in
    let b = c.clamped-b.ensures in
    λ i. record {
      given = conflict t.el.0 (a i).given (b i).given;
      held = conflict t.el.0 (a i).held (b i).held;
    }
