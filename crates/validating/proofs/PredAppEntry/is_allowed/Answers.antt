-- `is_allowed` of `PredApp` meets its contract.
use mathlib.Core.Path.{◌≡◌, refl, sym, ◌∙◌}
use lib.ListN.{length}
use borrow.Author.Rules.{rules}
use Rattle.ids.specs.Limits.{max_list}
use Rattle.ids.proofs.Answers.{not_false, or_neither}
use Rattle.ids.proofs.Tests.{and_then}
use Rattle.ids.proofs.Views.{long}
use Rattle.apps.specs.View.{pred_app_of}
use Rattle.inserting.specs.View.{pred_app_within}
use Rattle.validating.proofs.Entries.{held_short}
use Rattle.validating.proofs.PredAppEntry.is_allowed.Goals as goal

pub returns : goal.returns
returns c =
    let app = c.args.self in
    let parents : length app.parents.ids ≡ max_list = search (rules, long) in
    let args : length app.args.ids ≡ max_list = search (rules, long) in
    let within = c.pred_app_is_within.ensures ∙ (λ i. pred_app_within c.args.els (c.size.ensures.is i) (pred_app_of app)) in
    within ∙ sym (and_then (not_false (or_neither (held_short app.parents parents) (held_short app.args args))) refl)
