-- `refine` meets its contract.
use mathlib.Core.Path.{sym, ◌∙◌}
use native.Mathlib.Omega.{arith}
use Rattle.semantics.specs.Structure.{pair, max_pairs}
use Rattle.semantics.specs.Types.{join}
use Rattle.merging.specs.View.{lent, core_of, Passes}
use Rattle.merging.proofs.Laws.{idle, room_left, does, follows}
use Rattle.imposing.proofs.Laws.{refine_same, refine_unmarked, refine_merged}
use Rattle.imposing.proofs.refine.Goals as goal
use Rattle.imposing.proofs.refine.Goals.{After-join-joined}

pub returns-then-a-b : goal.returns-then-a-b
returns-then-a-b c =
    let a = c.args in
    idle _ c.requires.0 (refine_same a.p.0 a.q.0 _ c.find-a.ensures c.find-b.ensures c.if-a-b.true)

pub returns-then-not-either_marked : goal.returns-then-not-either_marked
returns-then-not-either_marked c =
    let a = c.args in
    let none = sym c.either_marked.ensures ∙ c.if-not-either_marked.true in
    idle _ c.requires.0 (refine_unmarked a.p.0 a.q.0 _ c.find-a.ensures c.find-b.ensures none)

joined : (c : After-join-joined) →
    let a = c.args in
    Passes (lent a.els.now a.facts.now a.pairs.now a.counts) (lent c.join-joined.new.els c.join-joined.new.facts a.pairs.now c.join-joined.result) 1
    (join (pair c.find-a.result.0 c.find-b.result.0))
joined c = c.join-joined.ensures c.args.pairs.now c.requires.0.pairs_held

pub drain_equalities-requires : goal.drain_equalities-requires
drain_equalities-requires c =
    let j = joined (goal.at.drain_equalities-requires c).After-join-joined in
    (j.holds, room_left j max_pairs c.requires.1 (omega arith))

pub returns : goal.returns
returns c =
    let a = c.args in
    let some = sym c.either_marked.ensures ∙ c.if-not-either_marked.false in
    does (follows (joined (goal.at.returns c).After-join-joined) c.drain_equalities.ensures) (omega arith)
    (refine_merged a.p.0 a.q.0 (core_of (lent a.els.now a.facts.now a.pairs.now a.counts)) c.find-a.ensures c.find-b.ensures c.if-a-b.false some)
