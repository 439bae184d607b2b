-- `misapplies` meets its contract.
use mathlib.Core.Path.{ap, ◌∙◌}
use mathlib.Core.Bool.{not, ◌&&◌, ◌||◌}
use Prim.Native.Nat.{ℕ}
use lib.Dec.{eqb}
use Rattle.semantics.specs.Calls.{misapplies}
use Rattle.inserting.proofs.misapplies.Goals as goal

pub returns : goal.returns
unfolding misapplies
returns c =
    let a = c.args in
    c.or.ensures
    ∙ (λ i. c.and-identity.ensures i || c.and-composite.ensures i)
    ∙ ap (λ (k : ℕ). (eqb a.app.func.0 a.ids.id.0 && not (eqb k 1)) || (eqb a.app.func.0 a.ids.comp.0 && not (eqb k 2))) c.size-count.ensures.is
