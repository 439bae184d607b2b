-- `is_in_order` meets its contract.
use mathlib.Core.Path.{sym, ◌∙◌}
use Rattle.structure.specs.View.{structure_of}
use Rattle.facts.specs.View.{fact_of}
use Rattle.apps.specs.View.{func_app_of, pred_app_of}
use Rattle.semantics.specs.Structure.{compare_fact, compare_func_app, compare_pred_app}
use Rattle.bindings.proofs.Slots.{vars, ambients}
use Rattle.validating.proofs.Searching.{order_taken}
use Rattle.validating.proofs.Orders.{three_tests, by_key_ordered, order_judged}
use Rattle.validating.proofs.is_in_order.Goals as goal

-- variables and ambients are in order
pub returns : goal.returns
returns c =
    let s = c.args.structure in
    let fs = s.els in
    let fas = s.func_apps in
    let pas = s.pred_apps in
    let facts = c.are_in_order.ensures ∙ order_taken fact_of fs.len fs.items c.size.ensures compare_fact in
    let func_apps = c.are_in_order-2.ensures ∙ order_taken func_app_of fas.len fas.items c.size-2.ensures compare_func_app in
    let pred_apps = c.are_in_order-3.ensures ∙ order_taken pred_app_of pas.len pas.items c.size-3.ensures compare_pred_app in
    three_tests facts func_apps pred_apps
    ∙ sym (order_judged (structure_of s) (by_key_ordered vars s.var_els.slots) (by_key_ordered ambients s.ambient_model_els.slots))
