use mathlib.Core.Path.{◌≡◌}
use Prim.Native.Nat.{◌-◌}
use lib.ListN.{drop}
use Rattle.ids.specs.Order.{lex_of}
use Rattle.ids.specs.Ids.{els_of}
use Rattle.ids.proofs.ElIds.compare.Given as goal

abbrev pub invariant-loop-i : goal.invariant-loop-i
invariant-loop-i l = lex_of (drop l.i (els_of l.self)) (drop l.i (els_of l.other)) ≡ lex_of (els_of l.self) (els_of l.other)

abbrev pub decreases-loop-i : goal.decreases-loop-i
decreases-loop-i l = l.n - l.i
