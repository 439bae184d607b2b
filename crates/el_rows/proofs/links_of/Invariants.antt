use Prim.Native.Nat.{ℕ}
use lib.ListN.{length}
use Rattle.unification.specs.Roots.{max_els}
use Rattle.el_rows.specs.View.{link_in}
use Rattle.rows.proofs.Copying.{Copied}
use Rattle.el_rows.proofs.links_of.Given as goal

abbrev pub invariant-loop-i : goal.invariant-loop-i
invariant-loop-i l = Copied link_in (λ (x : ℕ). x) (length l.els) max_els l.els l.out l.i
