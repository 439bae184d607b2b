-- `Impositions::contains` meets its contract.
use mathlib.Core.Path.{◌≡◌, refl, sym, ◌∙◌}
use mathlib.Core.List.{◌∷◌}
use Prim.Native.Nat.{◌+◌, ◌≤◌, ◌<◌}
use native.Mathlib.Omega.{arith}
use lib.ListN.{length, drop, get_or}
use Rattle.ids.proofs.Views.{view_next, view_done}
use Rattle.semantics.specs.Calls.{is_imposed}
use Rattle.facts.specs.View.{fact_of, impositions_of, no_fact}
use Rattle.facts.proofs.Queue.{past_smaller, past_greater, at_equal}
use Rattle.facts.proofs.Impositions.contains.Goals as goal
use Rattle.facts.proofs.Impositions.contains.Goals.{In-loop-i}

pub loop-i-init : goal.loop-i-init
loop-i-init c = refl

-- in a turn: the search goes on at the entry i
turn : (c : In-loop-i) →
    let a = c.args in
    let i = c.loop-i.i in
    is_imposed (fact_of a.entry) (fact_of (get_or a.self.items i no_fact) ∷ drop (i + 1) (impositions_of a.self))
    ≡ is_imposed (fact_of a.entry) (impositions_of a.self)
turn c =
    let a = c.args in
    let more : c.loop-i.i < length (impositions_of a.self) = omega (arith, c.size-n.ensures.is) in
    rw (view_next fact_of _ _ _ no_fact more) at c.loop-i.invariant

pub loop-i-preserved-in-Less : goal.loop-i-preserved-in-Less
loop-i-preserved-in-Less c =
    past_smaller _ _ _ (turn (goal.at.loop-i-preserved-in-Less c).In-loop-i) (sym c.compare.ensures ∙ c.in-Less.is)

pub returns-in-Equal : goal.returns-in-Equal
returns-in-Equal c =
    at_equal _ _ _ (turn (goal.at.returns-in-Equal c).In-loop-i) (sym c.compare.ensures ∙ c.in-Equal.is)

pub loop-i-preserved : goal.loop-i-preserved
loop-i-preserved c =
    past_greater _ _ _ (turn (goal.at.loop-i-preserved c).In-loop-i) (sym c.compare.ensures ∙ c.in-Greater.is)

pub returns : goal.returns
unfolding is_imposed
returns c =
    let t = c.args.self in
    let done : length (impositions_of t) ≤ c.loop-i.i = omega (arith, c.size-n.ensures.is) in
    rw (view_done fact_of _ _ _ done) at c.loop-i.invariant
