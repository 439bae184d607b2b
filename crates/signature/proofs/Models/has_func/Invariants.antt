use mathlib.Core.Path.{◌≡◌}
use Prim.Native.Nat.{◌-◌}
use lib.ListN.{drop}
use Rattle.signature.specs.Model.{view_models}
use Rattle.signature.specs.Calls.{in_models}
use Rattle.signature.proofs.Models.has_func.Given as goal

abbrev pub invariant-loop-i : goal.invariant-loop-i
invariant-loop-i l = in_models l.func.0 (drop l.i (view_models l.self)) ≡ in_models l.func.0 (view_models l.self)

abbrev pub decreases-loop-i : goal.decreases-loop-i
decreases-loop-i l = l.n - l.i
