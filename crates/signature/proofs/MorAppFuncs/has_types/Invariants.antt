use mathlib.Core.Path.{◌≡◌}
use Prim.Native.Nat.{◌-◌}
use lib.ListN.{drop}
use Rattle.signature.specs.Model.{view_mor_apps}
use Rattle.signature.specs.Calls.{pair_given}
use Rattle.signature.proofs.MorAppFuncs.has_types.Given as goal

abbrev pub invariant-loop-i : goal.invariant-loop-i
invariant-loop-i l = let given = pair_given l.types.morphism_type.0 l.types.member_type.0 in
    given (drop l.i (view_mor_apps l.self)) ≡ given (view_mor_apps l.self)

abbrev pub decreases-loop-i : goal.decreases-loop-i
decreases-loop-i l = l.n - l.i
