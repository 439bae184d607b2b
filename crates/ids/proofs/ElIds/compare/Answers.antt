-- `ElIds::compare` meets its contract.
use mathlib.Core.Path.{◌≡◌, refl}
use mathlib.Core.List.{List, ◌∷◌}
use Prim.Native.Nat.{ℕ, ◌+◌, ◌≤◌, ◌<◌}
use native.Mathlib.Omega.{arith}
use lib.ListN.{length, drop, get_or}
use Rattle.ids.specs.declared.ElId.{ElId}
use Rattle.ids.specs.Order.{lex_of, order_of, then_of}
use Rattle.ids.specs.Ids.{el_of, els_of}
use Rattle.ids.proofs.Orders.{less, greater, equal}
use Rattle.ids.proofs.Views.{view_next, view_done}
use Rattle.ids.proofs.ElIds.compare.Goals as goal
use Rattle.ids.proofs.ElIds.compare.Goals.{Else-m-i, In-loop-i}

pub loop-i-init : goal.loop-i-init
loop-i-init c = refl

-- the number of an entry of an array
abbrev at : List ElId → ℕ → ℕ
at xs i = el_of (get_or xs i (record { 0 = 0 }))

-- in a turn: the first list goes on at the entry i
turn : (c : In-loop-i) →
    let a = c.args.self in
    let b = c.args.other in
    let i = c.loop-i.i in
    lex_of (at a.ids i ∷ drop (i + 1) (els_of a)) (drop i (els_of b)) ≡ lex_of (els_of a) (els_of b)
turn c =
    let a = c.args.self in
    let more : c.loop-i.i < length (els_of a) = omega (arith, c.size-n.ensures.is) in
    rw (view_next el_of _ _ _ (record { 0 = 0 }) more) at c.loop-i.invariant

-- and so does the second
both : (c : Else-m-i) →
    let a = c.args.self in
    let b = c.args.other in
    let i = c.loop-i.i in
    then_of (order_of (at a.ids i) (at b.ids i)) (lex_of (drop (i + 1) (els_of a)) (drop (i + 1) (els_of b))) ≡ lex_of (els_of a) (els_of b)
both c =
    let b = c.args.other in
    let more : c.loop-i.i < length (els_of b) = omega (arith, c.size-m.ensures.is) in
    rw (view_next el_of _ _ _ (record { 0 = 0 }) more) at (turn c.before)

pub returns-then-m-i : goal.returns-then-m-i
returns-then-m-i c =
    let b = c.args.other in
    let done : length (els_of b) ≤ c.loop-i.i = omega (arith, c.size-m.ensures.is) in
    rw (view_done el_of _ _ _ done) at (turn (goal.at.returns-then-m-i c).In-loop-i)

pub returns-then-x-y : goal.returns-then-x-y
returns-then-x-y c = rw (less _ _ c.if-x-y.true) at (both (goal.at.returns-then-x-y c).Else-m-i)

pub returns-then-y-x : goal.returns-then-y-x
returns-then-y-x c = rw (greater _ _ c.if-y-x.true) at (both (goal.at.returns-then-y-x c).Else-m-i)

pub loop-i-preserved : goal.loop-i-preserved
loop-i-preserved c = rw (equal _ _ c.if-x-y.false c.if-y-x.false) at (both (goal.at.loop-i-preserved c).Else-m-i)

pub returns-then-i-m : goal.returns-then-i-m
returns-then-i-m c =
    let a = c.args.self in
    let b = c.args.other in
    let i = c.loop-i.i in
    let done : length (els_of a) ≤ i = omega (arith, c.size-n.ensures.is) in
    let more : i < length (els_of b) = omega (arith, c.size-m.ensures.is) in
    rw (view_done el_of _ _ _ done, view_next el_of _ _ _ (record { 0 = 0 }) more) at c.loop-i.invariant

pub returns : goal.returns
returns c =
    let a = c.args.self in
    let b = c.args.other in
    let i = c.loop-i.i in
    let done-a : length (els_of a) ≤ i = omega (arith, c.size-n.ensures.is) in
    let done-b : length (els_of b) ≤ i = omega (arith, c.size-m.ensures.is) in
    rw (view_done el_of _ _ _ done-a, view_done el_of _ _ _ done-b) at c.loop-i.invariant
