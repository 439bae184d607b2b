-- `Line::put_els` meets its contract.
use mathlib.Core.Path.{◌≡◌, ap, ◌∙◌}
use mathlib.Core.List.{List, [], map}
use Prim.Native.Nat.{ℕ, ◌+◌}
use native.Mathlib.Omega.{arith}
use native.Mathlib.Numerals.{add-one}
use lib.ListN.{length, take, drop, drop_of_length-le, length-take}
use lib.Seq.{drop-cons}
use Rattle.ids.specs.declared.ElId.{ElId}
use Rattle.ids.specs.Ids.{el_of}
use Rattle.ids.proofs.Views.{view_clamped}
use Rattle.semantics.specs.Sheet.{spaced}
use Rattle.lines.specs.View.{line_of, put_of}
use Rattle.lines.proofs.Puts.{put_done, put_short}
use Rattle.lines.proofs.Decimals.{add_turn, turn_length}
use Rattle.lines.proofs.Line.put_els.Goals as goal

pub loop-el-preserved : goal.loop-el-preserved
loop-el-preserved c =
    let at = c.loop-el in
    let items = take c.size-n.result c.args.els.ids in
    let rest = map el_of (drop (at.el-index + 1) items) in
    let one = c.put_number-line.ensures in
    let next : drop at.el-index items ≡ _ = rw (← add-one at.el-index) at (drop-cons items at.el-index (record { 0 = 0 }) c.loop-el-test.true) in
    let turn = rw next at at.invariant.0 in
    let few = rw next at at.invariant.2 in
    (add_turn _ _ rest one turn, put_short _ _ one.is, omega (arith, turn_length _ _ rest one, few))

pub returns : goal.returns
unfolding spaced
returns c =
    let els = c.args.els in
    let at = c.loop-el in
    let items = take c.size-n.result els.ids in
    let all = view_clamped el_of els.len c.size-n.result els.ids c.size-n.ensures.is in
    let none : spaced (map el_of (drop at.el-index items)) ≡ [] = ap (λ (l : List ElId). spaced (map el_of l)) (drop_of_length-le items c.loop-el-test.false) in
    record {
      is = put_done (line_of at.line) _ at.invariant.1 none at.invariant.0 ∙ ap (λ (l : List ℕ). put_of (line_of c.args.self) (spaced l)) all;
      short =
          omega (arith, at.invariant.2, ap length none, at.auto.el-index-end, length-take c.size-n.result els.ids, c.size-n.ensures.most, ap (λ (l : List ℕ). length (spaced l)) all);
    }
