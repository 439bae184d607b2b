use mathlib.Core.Path.{◌≡◌}
use Prim.Native.Nat.{◌-◌}
use lib.ListN.{drop}
use Rattle.ids.specs.Table.{position_from}
use Rattle.semantics.specs.Structure.{compare_func_app}
use Rattle.apps.specs.View.{func_app_of, func_apps_of}
use Rattle.apps.proofs.FuncApps.position.Given as goal

abbrev pub invariant-loop-i : goal.invariant-loop-i
invariant-loop-i l = position_from compare_func_app (func_app_of l.entry) l.i (drop l.i (func_apps_of l.self)) ≡ position_from compare_func_app (func_app_of l.entry) 0 (func_apps_of l.self)

abbrev pub decreases-loop-i : goal.decreases-loop-i
decreases-loop-i l = l.n - l.i
