use mathlib.Core.Path.{◌≡◌}
use Rattle.rows.proofs.InPlace.{InPlace, Going}
use Rattle.rows.proofs.rewrite.Given as goal

abbrev pub invariant-loop-i : goal.invariant-loop-i
invariant-loop-i g l =
    let k = g.T.Keyed in
    Going k.order k.seen l.initial.rows l.rows l.i l.k
    × ((by : k.Seen → k.Seen) → ((row r : g.row.T.Denot) → g.F.Fn.post l.f (row, tt) r → k.seen r ≡ by (k.seen row))
    → InPlace k.order k.seen by l.n l.initial.rows l.rows l.i l.k)
