use Prim.Native.Nat.{◌-◌}
use Rattle.semantics.specs.Structure.{max_facts}
use Rattle.facts.specs.View.{facts_of}
use Rattle.storing.proofs.Chains.{Linked}
use Rattle.storing.proofs.nexts_of.Given as goal

abbrev pub invariant-loop-i : goal.invariant-loop-i
invariant-loop-i l = Linked max_facts (facts_of l.table) l.i l.nexts

abbrev pub decreases-loop-i : goal.decreases-loop-i
decreases-loop-i l = l.n - l.i
