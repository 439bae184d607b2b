use mathlib.Core.Path.{◌≡◌}
use Prim.Native.Nat.{◌-◌}
use lib.ListN.{drop}
use Rattle.signature.specs.Model.{view_models}
use Rattle.semantics.specs.Calls.{is_id_or_comp}
use Rattle.inserting.proofs.is_id_or_comp.Given as goal

abbrev pub invariant-loop-i : goal.invariant-loop-i
invariant-loop-i l = is_id_or_comp l.func.0 (drop l.i (view_models l.models)) ≡ is_id_or_comp l.func.0 (view_models l.models)

abbrev pub decreases-loop-i : goal.decreases-loop-i
decreases-loop-i l = l.n - l.i
