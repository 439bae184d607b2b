use mathlib.Core.Path.{◌≡◌}
use Prim.Native.Nat.{◌-◌}
use lib.ListN.{drop}
use Rattle.signature.specs.Model.{view_models}
use Rattle.signature.specs.Calls.{model_given}
use Rattle.signature.proofs.Models.has_type.Given as goal

abbrev pub invariant-loop-i : goal.invariant-loop-i
invariant-loop-i l = model_given l.typ.0 (drop l.i (view_models l.self)) ≡ model_given l.typ.0 (view_models l.self)

abbrev pub decreases-loop-i : goal.decreases-loop-i
decreases-loop-i l = l.n - l.i
