-- `canonical_vars` meets its contract.
use mathlib.Core.Path.{◌≡◌, refl}
use native.Mathlib.Omega.{arith}
use lib.ListN.{length, get_or, length-set}
use Rattle.ids.proofs.Views.{long}
use Rattle.unification.specs.Roots.{root_of}
use Rattle.el_rows.specs.View.{links_in}
use Rattle.semantics.specs.Structure.{variable, max_vars, canonical_var}
use Rattle.bindings.proofs.Slots.{none_slot}
use Rattle.rewriting.proofs.Laws.{slot_by, slots_all, filled_next}
use borrow.Author.Rules.{rules}
use Rattle.rewriting.proofs.canonical_vars.Goals as goal

pub loop-i-init : goal.loop-i-init
loop-i-init c = (refl, refl)

pub loop-i-preserved : goal.loop-i-preserved
loop-i-preserved c =
    let l = c.loop-i in
    let a = c.args in
    let all : length a.vars.slots ≡ max_vars = search (rules, long) in
    let slot = get_or a.vars.slots l.i none_slot in
    let root = c.find.ensures in (
      simp length-set l.invariant.0,
      filled_next (slot_by (root_of (links_in a.els.now))) a.vars.slots l.done.slots l.i none_slot _ l.invariant.1
          (omega (arith, c.loop-i-test.true)) (omega (arith, l.invariant.0, c.loop-i-test.true))
          (λ k. record { given = slot.given; el = record { 0 = root k } }),
    )

pub returns : goal.returns
unfolding canonical_var
returns c =
    let l = c.loop-i in
    let a = c.args in
    let all : length a.vars.slots ≡ max_vars = search (rules, long) in
    slots_all variable (canonical_var (links_in a.els.now)) (root_of (links_in a.els.now)) (λ k e. refl) a.vars.slots l.done.slots l.i
    (omega (arith, c.loop-i-test.false)) (omega (arith, l.invariant.0, c.loop-i-test.false)) l.invariant.1
