-- `union_roots` meets its contract.
use mathlib.Core.Path.{refl}
use Rattle.el_rows.proofs.Laws.{Remarked, remarked, unmarked, merged_row, merged_past}
use Rattle.el_rows.proofs.union_roots.Goals as goal
use Rattle.el_rows.proofs.union_roots.Goals.{Joined-k-els}

-- the mark of the smaller is set, where that is there
first : (c : Joined-k-els)
    → Remarked c.args.keep.0
    c.both_marked-both.result c.args.els.now c.if-k-els.els
first c =
    let a = c.args in
    elim c.if-k-els.branch [
      | goal.then-k-els w ↦ remarked a.keep.0 a.els.now _ _ w.if-k-els.true refl refl w.els-is
      | goal.else-k-els w ↦ unmarked a.keep.0 a.els.now w.if-k-els.false w.els-is
    ]

pub returns-then-d-els : goal.returns-then-d-els
returns-then-d-els c =
    let a = c.args in
    merged_row a.keep.0 a.drop.0 a.els.now c.if-k-els.els c.requires c.both_marked-both.ensures
    (first (goal.at.returns-then-d-els c).Joined-k-els) _ refl refl

pub returns-else-d-els : goal.returns-else-d-els
returns-else-d-els c =
    let a = c.args in
    merged_past a.keep.0 a.drop.0 a.els.now c.if-k-els.els c.requires c.both_marked-both.ensures
    (first (goal.at.returns-else-d-els c).Joined-k-els) c.if-d-els.false
