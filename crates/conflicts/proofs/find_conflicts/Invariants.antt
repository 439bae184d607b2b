use mathlib.Core.Path.{◌≡◌}
use lib.ListN.{length, drop}
use Rattle.ids.specs.Ids.{els_of}
use Rattle.facts.specs.View.{fact_of}
use Rattle.el_rows.specs.View.{links_in}
use Rattle.conflicts.proofs.Laws.{bare, roots_match}
use Rattle.conflicts.proofs.Laws.{AtClass, AtFact}
use Rattle.rows.specs.View.{facts_in}
use Rattle.conflicts.proofs.find_conflicts.Given as goal

abbrev pub invariant-paired : goal.invariant-paired
invariant-paired l = (l.e ≡ l.initial.e)
    × ((l.conflicts ≡ l.initial.conflicts)
    × (roots_match (links_in l.els) (drop l.i (els_of l.ps)) (drop l.i (els_of l.qs)) ≡ roots_match (links_in l.els) (els_of l.ps) (els_of l.qs)))

abbrev pub invariant-stored : goal.invariant-stored
invariant-stored l = (l.e ≡ l.initial.e)
    × ((l.conflicts ≡ l.initial.conflicts)
    × AtFact (bare (links_in l.els) (facts_in (length l.facts) l.facts)) (length l.els) l.types l.initial.conflicts l.finds l.initial.e l.k (fact_of l.a) (els_of l.first.roots) l.j)

abbrev pub invariant-classes : goal.invariant-classes
invariant-classes l = AtClass (bare (links_in l.els) (facts_in (length l.facts) l.facts)) (length l.els) l.types l.conflicts l.finds l.e
