use mathlib.Core.Path.{◌≡◌}
use Prim.Native.Nat.{◌<◌}
use lib.ListN.{length}
use Rattle.unification.specs.Roots.{link, root_of}
use Rattle.el_rows.specs.View.{links_in}
use Rattle.el_rows.proofs.find.Given as goal

abbrev pub invariant-loop-to : goal.invariant-loop-to
invariant-loop-to l = (l.x < length l.els) × (l.to ≡ link (links_in l.els) l.x) × (root_of (links_in l.els) l.initial.x ≡ root_of (links_in l.els) l.x)

abbrev pub decreases-loop-to : goal.decreases-loop-to
decreases-loop-to l = l.x
