-- `Structure::ambient_els` meets its contract.
use mathlib.Core.Path.{◌≡◌, refl, sym, ap, ◌∙◌}
use mathlib.Core.List.{List, ◌∷◌, ◌++◌, append-nil}
use Prim.Native.Nat.{ℕ, ◌+◌, ◌≤◌, ◌<◌}
use native.Mathlib.Omega.{arith}
use lib.ListN.{length, drop, get_or, length-set}
use Rattle.ids.specs.declared.TypeId.{TypeId}
use Rattle.ids.specs.Ids.{el_of, els_of, type_of, types_of}
use Rattle.ids.proofs.Lists.{given_view}
use Rattle.ids.proofs.Sorted.{no_test}
use Rattle.ids.proofs.Views.{length_view, view_next, view_done}
use Rattle.semantics.specs.Calls.{have_ambients, ambient_els}
use Rattle.bindings.specs.View as bindings
use Rattle.bindings.specs.View.{ambients_of}
use Rattle.structure.proofs.Laws.{have_on, have_none, els_on, found_more}
use Rattle.structure.proofs.Structure.ambient_els.Goals as goal
use Rattle.structure.proofs.Structure.ambient_els.Goals.{In-loop-i}

-- what stands for a type past the end of the array
abbrev none_type : TypeId
none_type = record { 0 = 0 }

-- the types that are left begin with the one that is looked up
next : (c : In-loop-i) →
    let t = c.args.types in
    let i = c.loop-i.i in
    drop i (types_of t) ≡ type_of (get_or t.ids i none_type) ∷ drop (i + 1) (types_of t)
next c =
    let t = c.args.types in
    let i = c.loop-i.i in
    let at : i < length (types_of t) = omega (arith, c.size-n.ensures.is, c.loop-i-test.true) in
    view_next type_of t.len t.ids i none_type at

pub loop-i-init : goal.loop-i-init
loop-i-init c =
    let els = c.new-els in
    let four = els.type_inv.1.1.0.1.0.1 in
    let a = c.args in
    let empty : els.result.len ≡ 0 =
    omega (arith, four, ap (length {A = ℕ}) els.ensures, length_view el_of els.result.len els.result.ids) in (
      empty,
      four,
      refl,
      ap (λ (l : List ℕ). l ++ ambient_els (types_of a.types) (ambients_of a.self.ambient_model_els)) els.ensures,
      omega arith,
    )

pub returns-in_default : goal.returns-in_default
returns-in_default c =
    let table = c.args.self.ambient_model_els in
    let nothing = sym (ap bindings.el_of c.in_default.is) ∙ c.get.ensures in
    let lacks = sym c.loop-i.invariant.2 ∙ ap (λ (ts : List ℕ). have_ambients ts (ambients_of table)) (next (goal.at.returns-in_default c).In-loop-i) ∙ have_none _ _ _ nothing in
    record { all = sym lacks; els = λ e. absurd (no_test e refl) }

pub loop-i-preserved : goal.loop-i-preserved
loop-i-preserved c =
    let t = c.args.types in
    let table = c.args.self.ambient_model_els in
    let loop = c.loop-i in
    let l = loop.invariant in
    let found = sym (ap bindings.el_of c.in-El.is) ∙ c.get.ensures in
    let room : loop.i < length loop.els.ids = omega (arith, l.1, c.size-n.ensures.most, c.loop-i-test.true) in
    let rest = ambient_els (drop (loop.i + 1) (types_of t)) (ambients_of table) in
    let so_far = ap (λ (x : List ℕ). els_of loop.els ++ x)
    (sym (els_on _ _ _ _ found) ∙ ap (λ (ts : List ℕ). ambient_els ts (ambients_of table)) (sym (next (goal.at.loop-i-preserved c).In-loop-i))) ∙ l.3 in (
      refl,
      simp length-set l.1,
      sym (have_on _ _ _ _ found) ∙ ap (λ (ts : List ℕ). have_ambients ts (ambients_of table)) (sym (next (goal.at.loop-i-preserved c).In-loop-i)) ∙ l.2,
      found_more loop.els loop.i _ rest l.0 room so_far,
      omega (arith, c.loop-i-test.true),
    )

pub returns : goal.returns
unfolding have_ambients ambient_els
returns c =
    let loop = c.loop-i in
    let l = loop.invariant in
    let t = c.args.types in
    let table = c.args.self.ambient_model_els in
    let fits : loop.els.len ≤ length loop.els.ids = omega (arith, l.0, l.1, l.4, c.size-n.ensures.most) in
    let past : length (types_of t) ≤ loop.i = omega (arith, c.size-n.ensures.is, c.loop-i-test.false) in
    let done = view_done type_of t.len t.ids loop.i past in
    let els = sym (append-nil _) ∙ ap (λ (ts : List ℕ). els_of loop.els ++ ambient_els ts (ambients_of table)) (sym done) ∙ l.3 in record { all = sym (ap (λ (ts : List ℕ). have_ambients ts (ambients_of table)) done) ∙ l.2; els = λ all. given_view el_of loop.els.len loop.els.ids fits ∙ els }
