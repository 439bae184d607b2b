-- `clamped` meets its contract.
use Rattle.semantics.specs.Structure.{fact}
use Rattle.conflicts.proofs.clamped.Goals as goal

pub returns : goal.returns
returns c =
    let f = c.args.fact in
    let list = c.clamped-parents.ensures in
    λ i. record {
      given = fact f.el.0 f.ct.typ.0 (list i).given;
      held = fact f.el.0 f.ct.typ.0 (list i).held;
    }
