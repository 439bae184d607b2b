-- `rewrite` meets its contract.
use mathlib.Core.Path.{ap, ◌∙◌}
use native.Mathlib.Omega.{arith}
use Rattle.rows.proofs.InPlace.{in_place_none, in_place_next, in_place_done, going_none, going_next}
use Rattle.rows.proofs.rewrite.Goals as goal

pub loop-i-init : goal.loop-i-init
loop-i-init g c =
    let k = g.T.Keyed in
    let o = g.met.T.Keyed.ordered in
    (going_none o k.seen c.args.rows.now, λ by told. in_place_none o k.seen by c.args.n c.args.rows.now)

pub insert-k-requires : goal.insert-k-requires
insert-k-requires g c =
    let l = c.loop-i in
    (omega (arith, l.invariant.0.few, l.invariant.0.long, c.loop-i-test.true, c.requires.there), l.invariant.0.sorted)

pub loop-i-preserved : goal.loop-i-preserved
loop-i-preserved g c =
    let k = g.T.Keyed in
    let o = g.met.T.Keyed.ordered in
    let l = c.loop-i in (
      going_next o k.seen c.args.rows.now l.invariant.0 c.insert-k.ensures,
      λ by told.
          in_place_next o k.seen by c.args.n c.args.rows.now c.requires.there (l.invariant.1 by told) c.index-rows-i.result c.loop-i-test.true
          (told c.index-rows-i.result c.f-entry.result c.f-entry.ensures ∙ ap (λ (row : g.row.T.Denot). by (k.seen row)) c.index-rows-i.is) c.insert-k.ensures,
    )

pub returns : goal.returns
returns g c =
    let k = g.T.Keyed in
    let o = g.met.T.Keyed.ordered in
    let l = c.loop-i in
    λ by told. in_place_done o k.seen by c.args.n c.args.rows.now c.requires.there (l.invariant.1 by told) c.loop-i-test.false (omega (arith, l.auto.i-end))
