-- `spans_of` meets its contract.
use mathlib.Core.Path.{◌≡◌, refl}
use Prim.Native.Nat.{◌+◌}
use native.Mathlib.Omega.{arith}
use lib.ListN.{length, get_or}
use Rattle.ids.proofs.Views.{length_view}
use Rattle.facts.specs.View.{fact_of, no_fact}
use Rattle.rows.specs.View.{facts_in}
use Rattle.conflicts.specs.View.{Span, no_span}
use Rattle.conflicts.proofs.Spans.{at_most, range, span_first, span_later, spans_none, spans_past, spans_stored}
use Rattle.conflicts.proofs.spans_of.Goals as goal
use Rattle.conflicts.proofs.spans_of.Goals.{Else-el-ge-MAX_ELS}

pub loop-i-init : goal.loop-i-init
loop-i-init c = spans_none c.args.facts.now

pub loop-i-preserved-then-el-ge-MAX_ELS : goal.loop-i-preserved-then-el-ge-MAX_ELS
loop-i-preserved-then-el-ge-MAX_ELS c =
    spans_past c.args.facts.now c.loop-i.i no_fact c.loop-i-test.true c.loop-i.invariant c.if-el-ge-MAX_ELS.true

-- the span so far of the element
so_far : (c : Else-el-ge-MAX_ELS) →
    let el = (fact_of (get_or c.args.facts.now c.loop-i.i no_fact)).el in
    Span c.args.facts.now c.loop-i.i el (get_or c.loop-i.spans el no_span)
so_far c = c.loop-i.invariant.each _ c.if-el-ge-MAX_ELS.false

pub overflow_add-spans-in-loop-i : goal.overflow_add-spans-in-loop-i
overflow_add-spans-in-loop-i c =
    let l = c.loop-i in
    let rows = c.args.facts.now in
    omega (arith, (so_far (goal.at.overflow_add-spans-in-loop-i c).Else-el-ge-MAX_ELS).count, at_most (fact_of (get_or rows l.i no_fact)).el (facts_in l.i rows), length_view fact_of l.i rows, c.loop-i-test.true, c.requires)

pub loop-i-preserved : goal.loop-i-preserved
loop-i-preserved c =
    let rows = c.args.facts.now in
    let l = c.loop-i in
    let el = (fact_of (get_or rows l.i no_fact)).el in
    let span = get_or l.spans el no_span in
    let known = so_far (goal.at.loop-i-preserved c).Else-el-ge-MAX_ELS in
    let now : Span rows (l.i + 1) el (range c.if-count-eq0.first (l.i + 1) (span.count + 1)) =
    elim c.if-count-eq0.branch [
      | goal.then-count-eq0 w ↦ rw w.first-is (span_first rows l.i no_fact c.loop-i-test.true el refl known w.if-count-eq0.true)
      | goal.else-count-eq0 w ↦ rw w.first-is (span_later rows l.i no_fact c.loop-i-test.true el refl known)
    ] in
    spans_stored rows l.i no_fact c.loop-i-test.true l.invariant el _ refl c.if-el-ge-MAX_ELS.false now

pub returns : goal.returns
returns c =
    let l = c.loop-i in
    let all : l.i ≡ length c.args.facts.now = omega (arith, l.auto.i-end, c.loop-i-test.false) in
    rw all at l.invariant
