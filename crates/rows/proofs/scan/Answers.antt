-- `scan` meets its contract.
use mathlib.Core.Path.{◌≡◌, refl, sym, ap, ◌∙◌}
use mathlib.Core.List.{◌∷◌, map}
use Prim.Native.Nat.{◌+◌}
use native.Mathlib.Omega.{arith}
use lib.ListN.{length, drop}
use Rattle.ids.specs.declared.Place.TheVariants.{Before}
use Rattle.ids.specs.Table.{position_from}
use Rattle.ids.proofs.Tables.{on}
use Rattle.rows.proofs.Halving.{items_next, items_done}
use Rattle.rows.proofs.scan.Given.{Over}
use Rattle.rows.proofs.scan.Goals as goal
use Rattle.rows.proofs.scan.Goals.{After-index-rows-i}

-- in a turn: the search goes on at the row i
turn : (g : Over) (c : After-index-rows-i g) →
    let k = g.T.Keyed in
    let i = c.loop-i.i in
    position_from k.order (k.seen c.args.entry) i (k.seen c.index-rows-i.result ∷ map k.seen (drop (i + 1) c.args.rows.now))
    ≡ position_from k.order (k.seen c.args.entry) 0 (map k.seen c.args.rows.now)
turn g c = rw (items_next _ _ _ c.index-rows-i.result c.loop-i-test.true, sym c.index-rows-i.is) at c.loop-i.invariant

pub loop-i-init : goal.loop-i-init
loop-i-init g c = refl

pub loop-i-preserved : goal.loop-i-preserved
loop-i-preserved g c =
    let t = turn g (goal.at.loop-i-preserved g c).After-index-rows-i in
    rw (on g.T.Keyed.order _ _ _ _ (sym c.compare.ensures ∙ c.in-Less.is)) at t

pub returns-in-Equal : goal.returns-in-Equal
unfolding position_from
returns-in-Equal g c = rw (← c.compare.ensures, c.in-Equal.is, position_from) at (turn g (goal.at.returns-in-Equal g c).After-index-rows-i)

pub returns-in-Greater : goal.returns-in-Greater
unfolding position_from
returns-in-Greater g c = rw (← c.compare.ensures, c.in-Greater.is, position_from) at (turn g (goal.at.returns-in-Greater g c).After-index-rows-i)

pub returns : goal.returns
unfolding position_from
returns g c =
    let all : length c.args.rows.now ≡ c.loop-i.i = omega (arith, c.loop-i-test.false, c.loop-i.auto.i-end) in
    ap Before all ∙ (rw (items_done _ _ _ c.loop-i-test.false) at c.loop-i.invariant)
