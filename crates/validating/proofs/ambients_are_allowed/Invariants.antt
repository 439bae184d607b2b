use mathlib.Core.Path.{◌≡◌}
use Rattle.std.specs.List.{list_all}
use lib.ListN.{drop}
use Rattle.signature.specs.Model.{sig_of}
use Rattle.semantics.specs.Structure.{ambient}
use Rattle.bindings.specs.View.{slots_from}
use Rattle.validating.specs.View.{ambient_allowed}
use Rattle.validating.proofs.ambients_are_allowed.Given as goal

abbrev pub invariant-loop-typ : goal.invariant-loop-typ
invariant-loop-typ l = list_all (ambient_allowed (sig_of l.signature) l.els) (slots_from ambient l.typ (drop l.typ l.slots)) ≡ list_all (ambient_allowed (sig_of l.signature) l.els) (slots_from ambient 0 l.slots)
