use mathlib.Core.Path.{◌≡◌}
use mathlib.Core.List.{map}
use lib.ListN.{drop}
use Rattle.ids.specs.Table.{position_from}
use Rattle.rows.proofs.scan.Given as goal

abbrev pub invariant-loop-i : goal.invariant-loop-i
invariant-loop-i g l =
    let order = g.T.Keyed.order in
    let seen = g.T.Keyed.seen in
    position_from order (seen l.entry) l.i (map seen (drop l.i l.rows)) ≡ position_from order (seen l.entry) 0 (map seen l.rows)
