-- `Unification::increase_size` meets its contract.
use mathlib.Core.Path.{◌≡◌, sym, ◌∙◌}
use Prim.Native.Nat.{◌+◌}
use native.Mathlib.Omega.{arith}
use lib.ListN.{length, take, set, length-set}
use Rattle.ids.proofs.Views.{long}
use Rattle.ids.proofs.Lists.{handed_list}
use Rattle.unification.specs.declared.Unification.{Unification}
use Rattle.unification.specs.Roots.{max_els, links_of}
use Rattle.unification.proofs.Arrays.{added_full, links_used, link_added}
use borrow.Author.Rules.{rules}
use Rattle.unification.proofs.Unification.increase_size.Goals as goal
use Rattle.unification.proofs.Unification.increase_size.Goals.{After-size-at}

-- the table's array, and the elements that it holds
abbrev table : After-size-at → Unification
table c = c.args.self

full : (c : After-size-at) → length (table c).links ≡ max_els
full c = search (rules, long)

pub returns-then-at-ge-MAX_ELS : goal.returns-then-at-ge-MAX_ELS
returns-then-at-ge-MAX_ELS c =
    let u = table (goal.at.returns-then-at-ge-MAX_ELS c).After-size-at in
    let n = c.size-at in
    let held : take n.result u.links ≡ links_of u = links_used u n.result n.ensures.is in
    handed_list 0 n.result u.links (omega (arith, n.ensures.most, full (goal.at.returns-then-at-ge-MAX_ELS c).After-size-at))
    (held ∙ sym (added_full _ (omega (arith, n.ensures.is))))

pub returns : goal.returns
returns c =
    let u = table (goal.at.returns c).After-size-at in
    let n = c.size-at in
    handed_list 0 (n.result + 1) (set u.links n.result n.result) (omega (arith, full (goal.at.returns c).After-size-at, length-set u.links n.result n.result))
    (link_added u n.result n.ensures.is (omega arith) (full (goal.at.returns c).After-size-at))
