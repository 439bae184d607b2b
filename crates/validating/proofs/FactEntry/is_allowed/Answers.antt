-- `is_allowed` of `Fact` meets its contract.
use mathlib.Core.Path.{◌≡◌, refl, sym, ◌∙◌}
use mathlib.Core.Bool.{◌&&◌}
use lib.ListN.{length}
use borrow.Author.Rules.{rules}
use Rattle.ids.specs.Limits.{max_list}
use Rattle.ids.proofs.Answers.{not_false}
use Rattle.ids.proofs.Tests.{and_then}
use Rattle.ids.proofs.Views.{long}
use Rattle.facts.specs.View.{fact_of}
use Rattle.inserting.specs.View.{fact_within}
use Rattle.validating.proofs.Entries.{held_short}
use Rattle.validating.proofs.FactEntry.is_allowed.Goals as goal

pub returns : goal.returns
returns c =
    let a = c.args in
    let parents : length a.self.ct.parents.ids ≡ max_list = search (rules, long) in
    let within = c.fact_is_within-within.ensures ∙ (λ i. fact_within a.els (c.size.ensures.is i) (fact_of a.self)) in
    (λ i. within i && c.has_its_parents.ensures i) ∙ sym (and_then (not_false (held_short a.self.ct.parents parents)) refl)
