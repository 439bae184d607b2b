use mathlib.Core.Path.{◌≡◌}
use mathlib.Core.Bool.{Bool}
use Prim.Native.Nat.{ℕ}
use lib.ListN.{length, take}
use Rattle.semantics.specs.Types.{any_marked}
use Rattle.el_rows.specs.View.{link_in, mark_in}
use Rattle.rows.proofs.Copying.{Copied}
use Rattle.el_rows.proofs.fill_els.Given as goal

abbrev pub invariant-loop-i : goal.invariant-loop-i
invariant-loop-i l =
    let n = length l.initial.els in
    Copied (λ (l : ℕ). l) link_in n n l.links l.els l.i × (Copied (λ (m : Bool). m) mark_in n n l.marks l.els l.i × (l.is_marked ≡ any_marked (take l.i l.marks)))
