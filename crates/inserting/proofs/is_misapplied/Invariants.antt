use mathlib.Core.Path.{◌≡◌}
use Prim.Native.Nat.{◌-◌}
use lib.ListN.{drop}
use Rattle.signature.specs.Model.{view_models}
use Rattle.semantics.specs.Calls.{is_misapplied}
use Rattle.apps.specs.View.{func_app_of}
use Rattle.inserting.proofs.is_misapplied.Given as goal

abbrev pub invariant-loop-i : goal.invariant-loop-i
invariant-loop-i l = is_misapplied (func_app_of l.app) (drop l.i (view_models l.models)) ≡ is_misapplied (func_app_of l.app) (view_models l.models)

abbrev pub decreases-loop-i : goal.decreases-loop-i
decreases-loop-i l = l.n - l.i
