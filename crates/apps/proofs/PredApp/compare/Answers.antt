-- `PredApp::compare` meets its contract.
use mathlib.Core.Path.{◌≡◌, sym, ◌∙◌}
use Rattle.ids.specs.declared.Ordering.TheVariants.{Equal}
use Rattle.ids.specs.Order.{order_of}
use Rattle.ids.proofs.Orders.{then_less, then_greater, then_equal}
use Rattle.semantics.specs.Structure.{compare_pred_app}
use Rattle.apps.proofs.PredApp.compare.Goals as goal
use Rattle.apps.proofs.PredApp.compare.Goals.{In-Equal}

pub returns-in-Less : goal.returns-in-Less
unfolding compare_pred_app
returns-in-Less c = sym (then_less _ _ (sym c.compare_numbers.ensures ∙ c.in-Less.is))

pub returns-in-Greater : goal.returns-in-Greater
unfolding compare_pred_app
returns-in-Greater c = sym (then_greater _ _ (sym c.compare_numbers.ensures ∙ c.in-Greater.is))

-- where the numbers are equal, the lists decide
equal_head : (c : In-Equal)
    → order_of c.args.self.pred.0 c.args.other.pred.0 ≡ Equal
equal_head c = sym c.compare_numbers.ensures ∙ c.in-Equal.is

pub returns-in-Less-compare : goal.returns-in-Less-compare
unfolding compare_pred_app
returns-in-Less-compare c =
    sym (then_equal _ _ (equal_head (goal.at.returns-in-Less-compare c).In-Equal)
    ∙ then_less _ _ (sym c.compare.ensures ∙ c.in-Less-compare.is))

pub returns-in-Greater-compare : goal.returns-in-Greater-compare
unfolding compare_pred_app
returns-in-Greater-compare c =
    sym (then_equal _ _ (equal_head (goal.at.returns-in-Greater-compare c).In-Equal)
    ∙ then_greater _ _ (sym c.compare.ensures ∙ c.in-Greater-compare.is))

pub returns-in-Equal-compare : goal.returns-in-Equal-compare
unfolding compare_pred_app
returns-in-Equal-compare c =
    c.compare-in-Equal-compare.ensures
    ∙ sym (then_equal _ _ (equal_head (goal.at.returns-in-Equal-compare c).In-Equal)
    ∙ then_equal _ _ (sym c.compare.ensures ∙ c.in-Equal-compare.is))
