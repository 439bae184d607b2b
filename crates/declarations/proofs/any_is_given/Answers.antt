-- `any_is_given` meets its contract.
use mathlib.Core.Path.{sym, ◌∙◌}
use mathlib.Core.Bool.{or-false, ◌||◌}
use Rattle.signature.specs.Calls.{any_given}
use Rattle.declarations.proofs.any_is_given.Goals as goal

pub returns : goal.returns
unfolding any_given
returns c =
    let last = c.is_given-2.ensures ∙ sym (or-false _) in
    let e2 = c.or-given.ensures ∙ (λ i. c.is_given.ensures i || last i) in
    let e3 = c.or-given-2.ensures ∙ (λ i. c.is_given-3.ensures i || e2 i) in
    c.or.ensures ∙ (λ i. c.is_given-4.ensures i || e3 i)
