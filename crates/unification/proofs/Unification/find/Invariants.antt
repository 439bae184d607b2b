use mathlib.Core.Path.{◌≡◌}
use Prim.Native.Nat.{◌≤◌, ◌<◌, ◌+◌}
use lib.ListN.{length}
use Rattle.unification.specs.Roots.{max_els, links_of, link, root_of, depth_of}
use Rattle.unification.proofs.Unification.find.Given as goal

abbrev pub invariant-loop-to : goal.invariant-loop-to
invariant-loop-to l = (l.x ≤ l.initial.x) × (l.initial.x < length (links_of l.self)) × (l.initial.x < max_els) × (l.to ≡ link (links_of l.self) l.x)
    × (root_of (links_of l.self) l.initial.x ≡ root_of (links_of l.self) l.x) × (depth_of (links_of l.self) l.initial.x ≡ depth_of (links_of l.self) l.x + l.count)

abbrev pub decreases-loop-to : goal.decreases-loop-to
decreases-loop-to l = l.x
