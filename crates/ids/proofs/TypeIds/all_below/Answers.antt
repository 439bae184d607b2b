-- `TypeIds::all_below` meets its contract.
use mathlib.Core.Path.{◌≡◌, refl}
use mathlib.Core.List.{◌∷◌}
use Prim.Native.Nat.{◌+◌, ◌≤◌, ◌<◌}
use native.Mathlib.Omega.{arith}
use lib.ListN.{length, drop, get_or}
use Rattle.ids.specs.Ids.{type_of, types_of, all_below}
use Rattle.ids.proofs.Views.{view_next, view_done}
use Rattle.ids.proofs.Lists.{below_on, below_off}
use Rattle.ids.proofs.TypeIds.all_below.Goals as goal
use Rattle.ids.proofs.TypeIds.all_below.Goals.{In-loop-i}

pub loop-i-init : goal.loop-i-init
loop-i-init c = refl

-- in a turn: the definition at the entry i
turn : (c : In-loop-i) →
    let i = c.loop-i.i in
    all_below c.args.n (type_of (get_or c.args.self.ids i (record { 0 = 0 })) ∷ drop (i + 1) (types_of c.args.self)) ≡ all_below c.args.n (types_of c.args.self)
turn c =
    let more : c.loop-i.i < length (types_of c.args.self) = omega (arith, c.size-size.ensures.is) in
    rw (view_next type_of _ _ _ (record { 0 = 0 }) more) at c.loop-i.invariant

pub returns-then-n-x : goal.returns-then-n-x
returns-then-n-x c = below_off _ _ _ (turn (goal.at.returns-then-n-x c).In-loop-i) c.if-n-x.true

pub loop-i-preserved : goal.loop-i-preserved
loop-i-preserved c = below_on _ _ _ (turn (goal.at.loop-i-preserved c).In-loop-i) c.if-n-x.false

pub returns : goal.returns
unfolding all_below
returns c =
    let l = c.args.self in
    let done : length (types_of l) ≤ c.loop-i.i = omega (arith, c.size-size.ensures.is) in
    rw (view_done type_of _ _ _ done) at c.loop-i.invariant
