use mathlib.Core.Path.{◌≡◌}
use lib.ListN.{drop}
use Rattle.std.specs.List.{list_all}
use Rattle.facts.specs.View.{fact_of}
use Rattle.validating.specs.View.{on_root}
use Rattle.validating.proofs.facts_are_on_roots.Given as goal

abbrev pub invariant-loop-fact : goal.invariant-loop-fact
invariant-loop-fact l = list_all (λ x. on_root l.links (fact_of x)) (drop l.fact-index l.facts) ≡ list_all (λ x. on_root l.links (fact_of x)) l.facts
