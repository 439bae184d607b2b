use mathlib.Core.Path.{◌≡◌}
use Prim.Native.Nat.{◌-◌}
use lib.ListN.{drop}
use Rattle.signature.specs.Model.{view_mor_apps}
use Rattle.signature.specs.Calls.{in_mor_apps}
use Rattle.signature.proofs.MorAppFuncs.has_func.Given as goal

abbrev pub invariant-loop-i : goal.invariant-loop-i
invariant-loop-i l = in_mor_apps l.func.0 (drop l.i (view_mor_apps l.self)) ≡ in_mor_apps l.func.0 (view_mor_apps l.self)

abbrev pub decreases-loop-i : goal.decreases-loop-i
decreases-loop-i l = l.n - l.i
