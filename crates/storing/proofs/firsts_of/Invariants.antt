use mathlib.Core.List.{map}
use lib.ListN.{take}
use Rattle.unification.specs.Roots.{max_els}
use Rattle.facts.specs.View.{fact_of}
use Rattle.storing.specs.View.{Firsts}
use Rattle.storing.proofs.firsts_of.Given as goal

abbrev pub invariant-loop-i : goal.invariant-loop-i
invariant-loop-i l = Firsts max_els (map fact_of (take l.i l.fact-items)) l.firsts
