use mathlib.Core.Path.{◌≡◌}
use mathlib.Core.List.{◌∷◌}
use lib.ListN.{drop}
use Rattle.file.specs.File.{in_order}
use Rattle.validating.proofs.are_in_order.Given as goal

abbrev pub invariant-loop-here : goal.invariant-loop-here
invariant-loop-here g l = in_order g.T.Ordered.order (l.before ∷ drop l.here-index l.rest) ≡ in_order g.T.Ordered.order l.entries
