use mathlib.Core.Path.{◌≡◌}
use lib.ListN.{drop}
use Rattle.std.specs.List.{list_all}
use Rattle.semantics.specs.Structure.{variable}
use Rattle.bindings.specs.View.{slots_from}
use Rattle.validating.specs.View.{var_within}
use Rattle.validating.proofs.vars_are_within.Given as goal

abbrev pub invariant-loop-slot : goal.invariant-loop-slot
invariant-loop-slot l =
    list_all (var_within l.els) (slots_from variable l.slot-index (drop l.slot-index l.slots)) ≡ list_all (var_within l.els) (slots_from variable 0 l.slots)
