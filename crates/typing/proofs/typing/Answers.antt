-- `typing` meets its contract.
use mathlib.Core.Path.{refl}
use Prim.Native.Nat.{◌*◌}
use native.Mathlib.Nat.{mul-le-mul_right}
use native.Mathlib.Omega.{arith}
use lib.ListN.{length}
use Rattle.std.proofs.Common.{rules, of_calls}
use Rattle.signature.specs.Model.{sig_of, view_funcs, view_preds}
use Rattle.semantics.specs.Types.{impose_all}
use Rattle.apps.specs.View.{func_app_of, pred_app_of}
use Rattle.merging.specs.View.{lent, Passes}
use Rattle.merging.proofs.Laws.{room_left, follows}
use Rattle.typing.specs.Bounds.{one_demand, all_demands}
use Rattle.typing.specs.Rows.{of_func_args, of_pred_args, of_func_result, all_asked}
use Rattle.typing.proofs.Laws.{all_demanded}
use Rattle.typing.proofs.typing.Goals as goal
use Rattle.typing.proofs.typing.Goals.{After-impose_demands-first, After-impose_demands-second}

first : (c : After-impose_demands-first) →
    let a = c.args in
    Passes (lent a.els.now a.facts.now a.pairs.now a.counts) (lent c.impose_demands-first.new.els c.impose_demands-first.new.facts a.pairs.now c.impose_demands-first.result)
    (length a.apps.now * one_demand) (impose_all (all_asked (sig_of a.signature) (λ x. of_func_args (view_funcs a.signature.funcs) (func_app_of x)) a.apps.now))
first c = c.impose_demands-first.ensures (sig_of c.args.signature) refl (λ x. of_func_args (view_funcs c.args.signature.funcs) (func_app_of x)) (λ x r k. search (rules, of_calls))

second : (c : After-impose_demands-second) →
    let a = c.args in
    Passes (lent c.impose_demands-first.new.els c.impose_demands-first.new.facts a.pairs.now c.impose_demands-first.result)
    (lent c.impose_demands-second.new.els c.impose_demands-second.new.facts a.pairs.now c.impose_demands-second.result)
    (length a.preds.now * one_demand) (impose_all (all_asked (sig_of a.signature) (λ x. of_pred_args (view_preds a.signature.preds) (pred_app_of x)) a.preds.now))
second c = c.impose_demands-second.ensures (sig_of c.args.signature) refl (λ x. of_pred_args (view_preds c.args.signature.preds) (pred_app_of x)) (λ x r k. search (rules, of_calls))

pub impose_demands-first-requires-clause-held : goal.impose_demands-first-requires-clause-held
impose_demands-first-requires-clause-held c =
    let p = c.requires in
    (p.0, omega (arith, p.1.0, mul-le-mul_right one_demand p.1.1.0))

pub impose_demands-second-requires-clause-held : goal.impose_demands-second-requires-clause-held
impose_demands-second-requires-clause-held c =
    let r = c.requires.1 in
    let p = first (goal.at.impose_demands-second-requires-clause-held c).After-impose_demands-first in
    (p.holds, room_left p (length c.args.preds.now * one_demand) {total = all_demands} r.0 (omega (arith, mul-le-mul_right one_demand r.1.0, mul-le-mul_right one_demand r.1.1)))

pub impose_demands-requires-clause-held : goal.impose_demands-requires-clause-held
impose_demands-requires-clause-held c =
    let r = c.requires.1 in
    let at = goal.at.impose_demands-requires-clause-held c in
    let p = follows (first at.After-impose_demands-first) (second at.After-impose_demands-second) in
    (p.holds, room_left p (length c.args.apps.now * one_demand) {total = all_demands} r.0 (omega (arith, mul-le-mul_right one_demand r.1.0, mul-le-mul_right one_demand r.1.1)))

pub returns : goal.returns
returns c =
    let a = c.args in
    let at = goal.at.returns c in
    all_demanded (sig_of a.signature) a.apps.now a.preds.now c.requires.1.1.0 c.requires.1.1.1 (first at.After-impose_demands-first) (second at.After-impose_demands-second)
    (c.impose_demands.ensures (sig_of a.signature) refl (λ x. of_func_result (view_funcs a.signature.funcs) (func_app_of x)) (λ x r k. search (rules, of_calls)))
