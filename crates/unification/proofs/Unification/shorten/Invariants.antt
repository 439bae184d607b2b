use mathlib.Core.Path.{◌≡◌}
use Prim.Native.Nat.{◌≤◌, ◌<◌, ◌+◌}
use lib.ListN.{length}
use Rattle.unification.specs.Roots.{max_els, links_of, link, root_of, depth_of, short_of}
use Rattle.unification.proofs.Unification.shorten.Given as goal

abbrev pub invariant-loop-parent : goal.invariant-loop-parent
invariant-loop-parent l = (l.x ≤ l.initial.x) × (l.initial.x < length (links_of l.u)) × (l.initial.x < max_els) × (l.parent ≡ link (links_of l.u) l.x) × (root_of (links_of l.initial.u) l.initial.x ≡ root_of (links_of l.u) l.x)
    × (depth_of (links_of l.initial.u) l.initial.x ≡ depth_of (links_of l.u) l.x + l.passed) × (short_of (links_of l.initial.u) l.initial.x ≡ short_of (links_of l.u) l.x)

abbrev pub decreases-loop-parent : goal.decreases-loop-parent
decreases-loop-parent l = l.x
