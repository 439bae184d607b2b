-- `FuncApps::placed` meets its contract.
use mathlib.Core.Path.{◌≡◌, refl}
use native.Mathlib.Omega.{arith}
use lib.ListN.{length}
use Rattle.ids.proofs.Views.{long}
use Rattle.ids.proofs.Shift.{shift_start, shift_turn, shift_done}
use Rattle.semantics.specs.Structure.{max_func_apps}
use borrow.Author.Rules.{rules}
use Rattle.apps.proofs.FuncApps.placed.Goals as goal

pub loop-i-init : goal.loop-i-init
loop-i-init c = (c.requires.0, (omega arith, shift_start _ _))

pub loop-i-preserved : goal.loop-i-preserved
loop-i-preserved c =
    let t = c.args.self in
    let full : length t.items ≡ max_func_apps = search (rules, long) in
    let shifted = c.loop-i.invariant.1.1 in
    (omega arith, (omega arith, shift_turn _ _ _ _ _ shifted (omega arith) c.loop-i.invariant.1.0 (omega arith)))

pub returns : goal.returns
returns c =
    let t = c.args.self in
    let full : length t.items ≡ max_func_apps = search (rules, long) in
    let e : c.loop-i.i ≡ c.args.at = omega arith in
    (refl, shift_done _ _ _ _ _ (rw e at c.loop-i.invariant.1.1) c.requires.0 (omega arith))
