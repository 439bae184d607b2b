-- `give` meets its contract.
use mathlib.Core.Path.{refl, sym, ◌∙◌}
use Prim.Native.Nat.{◌<◌}
use native.Mathlib.Omega.{arith}
use Rattle.rows.proofs.Positions.{row_within}
use Rattle.semantics.specs.Structure.{compare_func_app}
use Rattle.apps.specs.View.{func_app_of, no_func_app}
use Rattle.operations.proofs.Inserting.{none_given, value_given}
use borrow.Author.Rules.{rules}
use Rattle.operations.proofs.give.Goals as goal
use Rattle.operations.proofs.give.Goals.{In-At}

pub returns-in_default : goal.returns-in_default
returns-in_default c =
    none_given _ _ c.requires (sym c.position.ensures ∙ c.in_default.is)

within : (c : In-At) → c.in-At.at < c.args.turn.counts.func_apps
within c =
    let a = c.args in
    row_within compare_func_app func_app_of (func_app_of a.from) a.turn.counts.func_apps a.apps.now no_func_app
    (sym c.position.ensures ∙ c.in-At.is)

pub offset_bounds-apps-at : goal.offset_bounds-apps-at
offset_bounds-apps-at c = search (rules, within (goal.at.offset_bounds-apps-at c).In-At, c.requires.apps_held.few)

pub bounds-apps-at : goal.bounds-apps-at
bounds-apps-at c = let held = c.requires.apps_held in omega (arith, within (goal.at.bounds-apps-at c).In-At, held.few, held.long)

pub returns : goal.returns
returns c =
    let a = c.args in
    value_given (func_app_of a.from) (func_app_of a.to) (sym c.position.ensures ∙ c.in-At.is) no_func_app refl
    c.insert_func_app_or_equate.ensures
