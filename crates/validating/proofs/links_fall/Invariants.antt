use mathlib.Core.Path.{◌≡◌}
use lib.ListN.{drop}
use Rattle.file.specs.File.{link_rises}
use Rattle.validating.proofs.links_fall.Given as goal

abbrev pub invariant-loop-e : goal.invariant-loop-e
invariant-loop-e l = link_rises l.e (drop l.e l.links) ≡ link_rises 0 l.links
