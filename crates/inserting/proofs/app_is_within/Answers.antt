-- `app_is_within` meets its contract.
use mathlib.Core.Path.{◌∙◌}
use mathlib.Core.Bool.{◌&&◌}
use lib.Dec.{ltb}
use Rattle.inserting.proofs.app_is_within.Goals as goal

pub returns : goal.returns
returns c =
    let a = c.args in
    let both = c.and-found.ensures ∙ (λ i. c.all_below.ensures i && ltb a.app.result.0 a.els) in
    let all = c.and-named.ensures ∙ (λ i. c.all_below-2.ensures i && both i) in
    c.and.ensures ∙ (λ i. ltb a.app.func.0 a.funcs && all i)
