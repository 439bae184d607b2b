use Prim.Native.Nat.{◌-◌}
use lib.ListN.{drop}
use Rattle.signature.specs.Model.{view_models}
use Rattle.semantics.specs.MapLaws.{map_laws_of}
use Rattle.semantics.specs.Close.{obey_all}
use Rattle.apps.specs.View.{func_app_of}
use Rattle.operations.specs.View.{tables, TurnToward}
use Rattle.operations.proofs.laws_of.Given as goal

abbrev pub invariant-loop-i : goal.invariant-loop-i
invariant-loop-i l = TurnToward (tables l.initial.els l.initial.apps l.initial.pairs l.initial.now) (tables l.els l.apps l.pairs l.now) (obey_all (map_laws_of (drop l.i (view_models l.models)) (func_app_of l.app)))
    (obey_all (map_laws_of (view_models l.models) (func_app_of l.app)))

abbrev pub decreases-loop-i : goal.decreases-loop-i
decreases-loop-i l = l.n - l.i
