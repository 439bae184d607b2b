-- `Unification::roots` meets its contract.
use mathlib.Core.Path.{◌≡◌, refl, ap, ◌∙◌}
use mathlib.Core.List.{map}
use native.Mathlib.Omega.{arith}
use lib.ListN.{length, length-set}
use Rattle.ids.specs.Limits.{max_list}
use Rattle.ids.specs.Ids.{el_of}
use Rattle.ids.proofs.Views.{long, filled_more, filled_all}
use Rattle.ids.proofs.Lists.{handed, says_held, as_held, given_held_alike}
use Rattle.unification.specs.Roots.{links_of, root_of, find_of, FindM}
use borrow.Author.Rules.{rules}
use Rattle.unification.proofs.Unification.roots.Goals as goal

pub loop-i-init : goal.loop-i-init
loop-i-init c = (omega arith, refl, refl, refl)

pub loop-i-preserved : goal.loop-i-preserved
unfolding find_of
loop-i-preserved c =
    let l = c.loop-i in
    let list = c.clamped-list.result in
    let a = c.args in
    let four : length list.ids ≡ max_list = search (rules, long) in
    let n = c.size-n.ensures in
    let found = ap (λ (f : FindM). f.root) c.find-found.ensures in (
      omega arith,
      l.invariant.1,
      simp length-set l.invariant.2,
      filled_more el_of (root_of (links_of a.self)) list.ids l.out.ids l.i (record { 0 = 0 }) _ l.invariant.3
          (omega (arith, n.most)) (omega (arith, n.most, l.invariant.2)) found,
    )

pub returns : goal.returns
returns c =
    let l = c.loop-i in
    let n = c.size-n in
    let list = c.clamped-list.result in
    let a = c.args in
    let all : l.i ≡ n.result = omega arith in
    let says = says_held 0 el_of el_of list.len list.ids (given_held_alike c.clamped-list.ensures) in
    let roots = filled_all el_of (root_of (links_of a.self)) list.ids l.out.ids list.len l.i
    (all ∙ n.ensures.is) l.invariant.2 l.invariant.3 ∙ ap (map (root_of (links_of a.self))) (as_held c.clamped-list.ensures) in
    rw l.invariant.1 (handed 0 el_of list.len l.out.ids (omega (arith, says, l.invariant.2)) roots)
