use mathlib.Core.Bool.{Bool}
use lib.ListN.{length}
use Rattle.unification.specs.Roots.{max_els}
use Rattle.el_rows.specs.View.{mark_in}
use Rattle.rows.proofs.Copying.{Copied}
use Rattle.el_rows.proofs.marks_of.Given as goal

abbrev pub invariant-loop-i : goal.invariant-loop-i
invariant-loop-i l = Copied mark_in (λ (x : Bool). x) (length l.els) max_els l.els l.out l.i
