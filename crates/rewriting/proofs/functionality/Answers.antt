-- `functionality` meets its contract.
use mathlib.Core.Path.{refl, sym, ◌∙◌}
use Prim.Native.Nat.{◌+◌, ◌≤◌, ◌<◌}
use native.Mathlib.Omega.{arith}
use lib.ListN.{length}
use Rattle.rows.proofs.Positions.{row_within}
use Rattle.rows.proofs.Shifting.{place_within}
use Rattle.semantics.specs.Structure.{max_func_apps, max_pairs, compare_func_app}
use Rattle.apps.specs.View.{func_app_of, no_func_app}
use Rattle.rewriting.proofs.Laws.{entering_none, entering_placed, entering_same, entering_other, entering_all}
use borrow.Author.Rules.{rules}
use Rattle.rewriting.proofs.functionality.Goals as goal
use Rattle.rewriting.proofs.functionality.Goals.{At-loop-i, In-loop-i, In-At}

pub loop-i-init : goal.loop-i-init
loop-i-init c = entering_none _ _ _ _ c.requires.1.1

-- A turn of the loop: there is room.
there : (c : At-loop-i) → c.args.counts.func_apps ≤ length c.args.apps.now
there c = omega (arith, c.requires.0, c.requires.1.0)

few : (c : In-loop-i) → let l = c.loop-i in (l.i < max_func_apps) × ((l.k + l.queued < max_pairs) × (l.k < length l.apps))
few c =
    let l = c.loop-i in
    let pre = c.requires in (
      omega (arith, c.loop-i-test.true, pre.0),
      (
        omega (arith, c.loop-i-test.true, pre.0, l.invariant.few),
        omega (arith, c.loop-i-test.true, pre.0, pre.1.0, l.invariant.few, l.invariant.apps_long),
      ),
    )

pub place-requires : goal.place-requires
place-requires c =
    let room = (few (goal.at.place-requires c).In-loop-i).1.1 in
    (place_within compare_func_app func_app_of _ _ _ room c.position.ensures c.in-Before.is, room)

pub loop-i-preserved-in-Before : goal.loop-i-preserved-in-Before
loop-i-preserved-in-Before c =
    entering_placed c.loop-i.invariant (there (goal.at.loop-i-preserved-in-Before c).At-loop-i) no_func_app c.loop-i-test.true _ c.canonical_func_app-entry.ensures _
    (sym c.position.ensures ∙ c.in-Before.is) refl c.place.ensures

-- the entry with its key
within : (c : In-At) → c.in-At.at < c.loop-i.k
within c =
    let l = c.loop-i in
    row_within compare_func_app func_app_of _ l.k l.apps no_func_app (sym c.position.ensures ∙ c.in-At.is)

pub offset_bounds-apps-at : goal.offset_bounds-apps-at
offset_bounds-apps-at c =
    search (rules, within (goal.at.offset_bounds-apps-at c).In-At, (few (goal.at.offset_bounds-apps-at c).In-loop-i).1.0)

pub bounds-apps-at : goal.bounds-apps-at
bounds-apps-at c = omega (arith, within (goal.at.bounds-apps-at c).In-At, (few (goal.at.bounds-apps-at c).In-loop-i).1.1)

pub loop-i-preserved-then-stored-entry : goal.loop-i-preserved-then-stored-entry
loop-i-preserved-then-stored-entry c =
    entering_same c.loop-i.invariant (there (goal.at.loop-i-preserved-then-stored-entry c).At-loop-i) no_func_app c.loop-i-test.true _
    c.canonical_func_app-entry.ensures _ _ (sym c.position.ensures ∙ c.in-At.is) refl c.if-stored-entry.true

pub loop-i-preserved : goal.loop-i-preserved
loop-i-preserved c =
    entering_other c.loop-i.invariant (there (goal.at.loop-i-preserved c).At-loop-i) no_func_app c.loop-i-test.true _
    c.canonical_func_app-entry.ensures _ _ (sym c.position.ensures ∙ c.in-At.is) refl c.if-stored-entry.false
    (omega (arith, (few (goal.at.loop-i-preserved c).In-loop-i).1.0)) _ refl

pub returns : goal.returns
returns c =
    let l = c.loop-i in
    let pre = c.requires in
    record {
      is = entering_all l.invariant (there (goal.at.returns c).At-loop-i) c.loop-i-test.false;
      counts = refl;
      apps_few = omega (arith, l.auto.i-end, l.invariant.few, pre.0);
      apps_long = l.invariant.apps_long ∙ pre.1.0;
      pairs_few = omega (arith, l.auto.i-end, l.invariant.few, pre.0);
      pairs_long = l.invariant.pairs_long;
    }
