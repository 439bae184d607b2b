-- `position` meets its contract.
use mathlib.Core.Path.{◌≡◌, sym, ◌∙◌}
use mathlib.Core.Bool.{true, false}
use Prim.Native.Nat.{◌<◌}
use native.Mathlib.Omega.{arith}
use lib.ListN.{length}
use Rattle.std.proofs.Common.{rules, of_calls}
use Rattle.std.proofs.lemmas.Fn.{always_returns_same}
use Rattle.std.specs.List.Sorted.{IsPartitionPoint}
use Rattle.rows.proofs.Halving.{precedes, halved, none_there, past_all, below_last, found_before, found_at}
use Rattle.rows.proofs.position.Goals as goal
use Rattle.rows.proofs.position.Given.{Over}
use Rattle.rows.proofs.position.Goals.{After-partition_point-at}

pub returns-then-n-eq0 : goal.returns-then-n-eq0
returns-then-n-eq0 g c = none_there g.met.T.Keyed.ordered g.T.Keyed.seen (g.T.Keyed.seen c.args.entry) c.args.rows.now c.if-n-eq0.true

pub returns-then-is_less : goal.returns-then-is_less
returns-then-is_less g c =
    past_all g.met.T.Keyed.ordered g.T.Keyed.seen (g.T.Keyed.seen c.args.entry) c.args.rows.now c.index-rows-n.result c.requires (omega (arith, c.if-n-eq0.false))
    (rw (sym c.index-rows-n.is) (sym c.is_less.ensures ∙ c.if-is_less.true))

point : (g : Over) (c : After-partition_point-at g) →
    let p = precedes g.met.T.Keyed.ordered g.T.Keyed.seen (g.T.Keyed.seen c.args.entry) in
    IsPartitionPoint (λ y. p y ≡ true) (λ y. p y ≡ false) c.args.rows.now c.partition_point-at.result
point g c =
    let o = g.met.T.Keyed.ordered in
    let seen = g.T.Keyed.seen in
    c.partition_point-at.ensures.partitioned (precedes o seen (seen c.args.entry)) (always_returns_same _ _ _ (λ a r f k. search (rules, of_calls)))
    (halved o seen (seen c.args.entry) c.args.rows.now c.requires)

-- the one there is in the table
there : (g : Over) (c : After-partition_point-at g) → c.partition_point-at.result < length c.args.rows.now
there g c =
    below_last g.met.T.Keyed.ordered g.T.Keyed.seen (g.T.Keyed.seen c.args.entry) c.args.rows.now c.index-rows-n.result c.partition_point-at.result
    (omega (arith, c.if-n-eq0.false)) c.partition_point-at.ensures.bound (point g c).0 (rw (sym c.index-rows-n.is) (sym c.is_less.ensures ∙ c.if-is_less.false))

pub bounds-rows-at : goal.bounds-rows-at
bounds-rows-at g c = there g c

pub returns-then-is_less-2 : goal.returns-then-is_less-2
returns-then-is_less-2 g c =
    let p = (goal.at.returns-then-is_less-2 g c).After-partition_point-at in
    found_before g.met.T.Keyed.ordered g.T.Keyed.seen (g.T.Keyed.seen c.args.entry) c.args.rows.now c.index-rows-at.result c.requires c.partition_point-at.result
    (point g p) (there g p) (rw (sym c.index-rows-at.is) (sym c.is_less-2.ensures ∙ c.if-is_less-2.true))

pub returns : goal.returns
returns g c =
    let p = (goal.at.returns g c).After-partition_point-at in
    found_at g.met.T.Keyed.ordered g.T.Keyed.seen (g.T.Keyed.seen c.args.entry) c.args.rows.now c.index-rows-at.result c.requires c.partition_point-at.result
    (point g p) (there g p) (rw (sym c.index-rows-at.is) (sym c.is_less-2.ensures ∙ c.if-is_less-2.false))
