use mathlib.Core.List.{map}
use lib.ListN.{drop}
use Rattle.signature.specs.Model.{view_models}
use Rattle.semantics.specs.MapLaws.{map_laws}
use Rattle.semantics.specs.Close.{obey_all}
use Rattle.apps.specs.View.{func_app_of}
use Rattle.operations.specs.View.{tables, TurnToward}
use Rattle.operations.proofs.morphism_operation_constraints.Given as goal

abbrev pub invariant-loop-app : goal.invariant-loop-app
invariant-loop-app l =
    TurnToward (tables l.initial.els l.initial.apps l.initial.pairs l.initial.now) (tables l.els l.apps l.pairs l.now)
    (obey_all (map_laws (view_models l.models) (map func_app_of (drop l.app-index l.app-items))))
    (obey_all (map_laws (view_models l.models) (map func_app_of l.app-items)))
