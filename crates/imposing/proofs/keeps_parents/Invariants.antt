use mathlib.Core.Path.{◌≡◌}
use Prim.Native.Nat.{◌-◌}
use lib.ListN.{drop}
use Rattle.ids.specs.Ids.{els_of}
use Rattle.el_rows.specs.View.{links_in, marks_in}
use Rattle.imposing.specs.Keeps.{keeps_parents}
use Rattle.imposing.proofs.keeps_parents.Given as goal

abbrev pub invariant-loop-i : goal.invariant-loop-i
invariant-loop-i l = keeps_parents (links_in l.els) (marks_in l.els) (drop l.i (els_of l.ps)) (drop l.i (els_of l.qs))
    ≡ keeps_parents (links_in l.els) (marks_in l.els) (els_of l.ps) (els_of l.qs)

abbrev pub decreases-loop-i : goal.decreases-loop-i
decreases-loop-i l = l.size - l.i
