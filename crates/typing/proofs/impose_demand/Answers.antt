-- `impose_demand` meets its contract.
use mathlib.Core.Path.{sym, ◌∙◌}
use Prim.Native.Nat.{◌+◌, ◌≤◌, ◌<◌}
use native.Mathlib.Omega.{arith}
use lib.ListN.{length}
use Rattle.ids.specs.Limits.{max_list}
use Rattle.ids.specs.Ids.{els_of, types_of}
use Rattle.signature.specs.Model.{view_types}
use Rattle.merging.proofs.Laws.{begins, room_turn}
use Rattle.imposing.specs.Bounds.{one_imposed}
use Rattle.typing.proofs.Laws.{imposes_one, imposes_none, imposed_all, types_end, els_end, type_absent, type_at, only_types}
use Rattle.typing.proofs.Laws.{asked_by_types}
use Rattle.typing.specs.Rows.{demand_of}
use Rattle.typing.proofs.impose_demand.Goals as goal

pub loop-i-init : goal.loop-i-init
loop-i-init c =
    (omega arith, begins _ c.requires.0 _)

pub loop-i-preserved-then-k-i : goal.loop-i-preserved-then-k-i
loop-i-preserved-then-k-i c =
    let a = c.args in
    let l = c.loop-i in
    let past : length (els_of a.demand.els) ≤ l.i = omega (arith, c.size-k.ensures.is, c.if-k-i.true) in
    let end = els_end (only_types (view_types a.types)) a.demand.expected (els_of a.demand.parents) a.demand.els in (
      omega (arith, c.loop-i-test.true),
      imposes_none one_imposed l.i l.invariant.1 _ (end l.i past ∙ sym (end (l.i + 1) (omega (arith, past)))),
    )

pub loop-i-preserved-in_default : goal.loop-i-preserved-in_default
loop-i-preserved-in_default c =
    let d = c.args.demand in
    let l = c.loop-i in
    let ht : l.i < length (types_of d.expected) = omega (arith, c.size-n.ensures.is, c.loop-i-test.true) in
    let hx : l.i < length (els_of d.els) = omega (arith, c.size-k.ensures.is, c.if-k-i.false) in (
      omega (arith, c.loop-i-test.true),
      imposes_none one_imposed l.i l.invariant.1 _
          (type_absent _ d.expected (els_of d.parents) d.els l.i (record { 0 = 0 }) (record { 0 = 0 }) ht hx c.concrete_type_at.ensures
          c.size-given.ensures.is c.in_default.is),
    )

pub impose_concrete_type-now-requires : goal.impose_concrete_type-now-requires
impose_concrete_type-now-requires c =
    let l = c.loop-i in (
      l.invariant.1.holds,
      room_turn one_imposed l.i l.invariant.1 {n = max_list} c.requires.1
          (omega (arith, c.loop-i-test.true, c.size-n.ensures.most)),
    )

pub loop-i-preserved : goal.loop-i-preserved
loop-i-preserved c =
    let d = c.args.demand in
    let l = c.loop-i in
    let ht : l.i < length (types_of d.expected) = omega (arith, c.size-n.ensures.is, c.loop-i-test.true) in
    let hx : l.i < length (els_of d.els) = omega (arith, c.size-k.ensures.is, c.if-k-i.false) in (
      omega (arith, c.loop-i-test.true),
      imposes_one one_imposed l.i l.invariant.1 _ _
          (type_at _ d.expected (els_of d.parents) d.els l.i (record { 0 = 0 }) (record { 0 = 0 }) ht hx c.concrete_type_at.ensures
          c.size-given.ensures.is c.in-At.is c.leading.ensures)
          c.impose_concrete_type-now.ensures.passes,
    )

pub returns : goal.returns
returns c =
    let d = c.args.demand in
    let l = c.loop-i in
    λ g same.
    asked_by_types g same (demand_of d)
    (imposed_all one_imposed l.i l.invariant.1 {n = max_list}
    (types_end _ d.expected (els_of d.parents) d.els l.i (omega (arith, c.size-n.ensures.is, c.loop-i-test.false)))
    (omega (arith, l.invariant.0, c.size-n.ensures.most)))
