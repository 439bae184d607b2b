-- `Fact::compare` meets its contract.
use mathlib.Core.Path.{◌≡◌, sym, ◌∙◌}
use Rattle.ids.specs.declared.Ordering.TheVariants.{Equal}
use Rattle.ids.specs.Order.{order_of}
use Rattle.ids.proofs.Orders.{then_less, then_greater, then_equal}
use Rattle.semantics.specs.Structure.{compare_fact}
use Rattle.facts.proofs.Fact.compare.Goals as goal
use Rattle.facts.proofs.Fact.compare.Goals.{In-Equal}

pub returns-in-Less : goal.returns-in-Less
unfolding compare_fact
returns-in-Less c = sym (then_less _ _ (sym c.compare_numbers.ensures ∙ c.in-Less.is))

pub returns-in-Greater : goal.returns-in-Greater
unfolding compare_fact
returns-in-Greater c = sym (then_greater _ _ (sym c.compare_numbers.ensures ∙ c.in-Greater.is))

-- where the elements are equal, the rest decides
equal_el : (c : In-Equal) → order_of c.args.self.el.0 c.args.other.el.0 ≡ Equal
equal_el c = sym c.compare_numbers.ensures ∙ c.in-Equal.is

pub returns-in-Less-compare_numbers : goal.returns-in-Less-compare_numbers
unfolding compare_fact
returns-in-Less-compare_numbers c =
    sym (then_equal _ _ (equal_el (goal.at.returns-in-Less-compare_numbers c).In-Equal)
    ∙ then_less _ _ (sym c.compare_numbers-in-Equal.ensures ∙ c.in-Less-compare_numbers.is))

pub returns-in-Greater-compare_numbers : goal.returns-in-Greater-compare_numbers
unfolding compare_fact
returns-in-Greater-compare_numbers c =
    sym (then_equal _ _ (equal_el (goal.at.returns-in-Greater-compare_numbers c).In-Equal)
    ∙ then_greater _ _ (sym c.compare_numbers-in-Equal.ensures ∙ c.in-Greater-compare_numbers.is))

pub returns-in-Equal-compare_numbers : goal.returns-in-Equal-compare_numbers
unfolding compare_fact
returns-in-Equal-compare_numbers c =
    c.compare.ensures
    ∙ sym (then_equal _ _ (equal_el (goal.at.returns-in-Equal-compare_numbers c).In-Equal)
    ∙ then_equal _ _ (sym c.compare_numbers-in-Equal.ensures ∙ c.in-Equal-compare_numbers.is))
