use mathlib.Core.Path.{◌≡◌}
use Prim.Native.Nat.{◌-◌}
use lib.ListN.{drop}
use Rattle.semantics.specs.Calls.{is_imposed}
use Rattle.facts.specs.View.{fact_of, impositions_of}
use Rattle.facts.proofs.Impositions.contains.Given as goal

abbrev pub invariant-loop-i : goal.invariant-loop-i
invariant-loop-i l = is_imposed (fact_of l.entry) (drop l.i (impositions_of l.self)) ≡ is_imposed (fact_of l.entry) (impositions_of l.self)

abbrev pub decreases-loop-i : goal.decreases-loop-i
decreases-loop-i l = l.n - l.i
