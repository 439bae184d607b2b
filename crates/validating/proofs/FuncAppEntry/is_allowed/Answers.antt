-- `is_allowed` of `FuncApp` meets its contract.
use mathlib.Core.Path.{◌≡◌, refl, sym, ◌∙◌}
use mathlib.Core.Bool.{not, ◌&&◌}
use lib.ListN.{length}
use borrow.Author.Rules.{rules}
use Rattle.ids.specs.Limits.{max_list}
use Rattle.ids.proofs.Answers.{not_false, or_neither}
use Rattle.ids.proofs.Tests.{and_then}
use Rattle.ids.proofs.Views.{long}
use Rattle.apps.specs.View.{func_app_of}
use Rattle.inserting.specs.View.{app_within}
use Rattle.validating.proofs.Entries.{held_short}
use Rattle.validating.proofs.FuncAppEntry.is_allowed.Goals as goal

pub returns : goal.returns
returns c =
    let app = c.args.self in
    let parents : length app.parents.ids ≡ max_list = search (rules, long) in
    let args : length app.args.ids ≡ max_list = search (rules, long) in
    let within = c.app_is_within-within.ensures ∙ (λ i. app_within c.args.els (c.size.ensures.is i) (func_app_of app)) in
    (λ i. within i && (not (c.is_reserved-reserved.ensures i) && not (c.is_misapplied-misapplied.ensures i)))
    ∙ sym (and_then (not_false (or_neither (held_short app.parents parents) (held_short app.args args))) refl)
