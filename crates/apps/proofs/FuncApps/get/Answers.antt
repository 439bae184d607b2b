-- `FuncApps::get` meets its contract.
use mathlib.Core.Path.{◌≡◌, sym, ap, ◌∙◌}
use mathlib.Core.Option.{some}
use Prim.Native.Nat.{◌<◌}
use native.Mathlib.Omega.{arith}
use lib.ListN.{length, get_or}
use Rattle.ids.specs.Table.{lookup_of}
use Rattle.ids.proofs.Views.{long, length_view, view_at}
use Rattle.ids.proofs.Tables.{at_entry, before_none}
use Rattle.semantics.specs.Structure.{max_func_apps, compare_func_app, result_of}
use Rattle.apps.specs.View.{func_app_of, func_apps_of, no_func_app}
use borrow.Author.Rules.{rules}
use Rattle.apps.proofs.FuncApps.get.Goals as goal
use Rattle.apps.proofs.FuncApps.get.Goals.{In-At}

-- the entry that was found
entry : (c : In-At) →
    let a = c.args in
    let k = c.in-At.i in
    (k < length (func_apps_of a.self))
    × (lookup_of compare_func_app (func_app_of a.app) (func_apps_of a.self) ≡ some (get_or (func_apps_of a.self) k (func_app_of no_func_app)))
entry c = at_entry compare_func_app _ (func_app_of no_func_app) _ _ (sym c.position-place.ensures ∙ c.in-At.is)

inside : (c : In-At) → c.in-At.i < max_func_apps
inside c =
    let t = c.args.self in
    let full : length t.items ≡ max_func_apps = search (rules, long) in
    omega (arith, (entry c).0, length_view func_app_of t.len t.items)

pub returns-in_default : goal.returns-in_default
returns-in_default c =
    sym (ap result_of (before_none compare_func_app _ (func_app_of no_func_app) _ _
    (sym c.position-place.ensures ∙ c.in_default.is)))

pub offset_bounds-self-i : goal.offset_bounds-self-i
offset_bounds-self-i c = omega (arith, inside (goal.at.offset_bounds-self-i c).In-At)

pub bounds-self-i : goal.bounds-self-i
bounds-self-i c = inside (goal.at.bounds-self-i c).In-At

pub returns : goal.returns
returns c =
    rw ((entry (goal.at.returns c).In-At).1, view_at func_app_of _ _ _ no_func_app (entry (goal.at.returns c).In-At).0)
