use mathlib.Core.Path.{◌≡◌}
use lib.ListN.{drop}
use Rattle.std.specs.List.{list_all}
use Rattle.signature.specs.Model.{sig_of}
use Rattle.validating.proofs.are_allowed.Given as goal

abbrev pub invariant-loop-entry : goal.invariant-loop-entry
invariant-loop-entry g l =
    let p = g.T.Entry.allowed (sig_of l.signature) l.els in list_all p (drop l.entry-index l.entries) ≡ list_all p l.entries
