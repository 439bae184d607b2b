-- `insert_func_app_or_equate` meets its contract.
use mathlib.Core.Path.{refl, sym, ◌∙◌}
use Prim.Native.Nat.{◌<◌}
use native.Mathlib.Omega.{arith}
use lib.ListN.{length}
use Rattle.rows.proofs.Positions.{row_within}
use Rattle.rows.proofs.Shifting.{place_within}
use Rattle.semantics.specs.Structure.{compare_func_app}
use Rattle.operations.proofs.Inserting.{row_placed, row_full, row_same, row_unqueued, row_queued}
use borrow.Author.Rules.{rules}
use Rattle.operations.proofs.insert_func_app_or_equate.Goals as goal
use Rattle.operations.proofs.insert_func_app_or_equate.Goals.{In-At}
use Rattle.apps.specs.View.{func_app_of, no_func_app}

pub returns-then-k-ge-MAX_LEN : goal.returns-then-k-ge-MAX_LEN
returns-then-k-ge-MAX_LEN c =
    row_full c.requires _ _ c.canonical_func_app-entry.ensures _ (sym c.position.ensures ∙ c.in-Before.is)
    c.if-k-ge-MAX_LEN.true c.meets.ensures

-- there is
pub place-requires : goal.place-requires
place-requires c =
    let a = c.args in
    let room : a.turn.counts.func_apps < length a.apps.now = omega (arith, c.if-k-ge-MAX_LEN.false, c.requires.apps_held.long) in
    (place_within compare_func_app func_app_of _ _ _ room c.position.ensures c.in-Before.is, room)

pub returns-else-k-ge-MAX_LEN : goal.returns-else-k-ge-MAX_LEN
returns-else-k-ge-MAX_LEN c =
    row_placed c.requires _ _ c.canonical_func_app-entry.ensures _ (sym c.position.ensures ∙ c.in-Before.is)
    c.if-k-ge-MAX_LEN.false refl c.place.ensures

within : (c : In-At) → c.in-At.at < c.args.turn.counts.func_apps
within c =
    let a = c.args in
    row_within compare_func_app func_app_of _ a.turn.counts.func_apps a.apps.now no_func_app (sym c.position.ensures ∙ c.in-At.is)

pub offset_bounds-apps-at : goal.offset_bounds-apps-at
offset_bounds-apps-at c = search (rules, within (goal.at.offset_bounds-apps-at c).In-At, c.requires.apps_held.few)

pub bounds-apps-at : goal.bounds-apps-at
bounds-apps-at c = let held = c.requires.apps_held in omega (arith, within (goal.at.bounds-apps-at c).In-At, held.few, held.long)

pub returns-then-stored-entry : goal.returns-then-stored-entry
returns-then-stored-entry c =
    row_same c.requires _ _ c.canonical_func_app-entry.ensures _ _ (sym c.position.ensures ∙ c.in-At.is)
    no_func_app refl c.if-stored-entry.true

pub returns-then-counts-ge-MAX_LEN : goal.returns-then-counts-ge-MAX_LEN
returns-then-counts-ge-MAX_LEN c =
    row_unqueued c.requires _ _ c.canonical_func_app-entry.ensures _ _ (sym c.position.ensures ∙ c.in-At.is)
    no_func_app refl c.if-stored-entry.false c.if-counts-ge-MAX_LEN.true c.meets-then-counts-ge-MAX_LEN.ensures

pub equate-differ-requires : goal.equate-differ-requires
equate-differ-requires c =
    omega (arith, c.requires.pairs_held.long, c.if-counts-ge-MAX_LEN.false)

pub returns-else-counts-ge-MAX_LEN : goal.returns-else-counts-ge-MAX_LEN
returns-else-counts-ge-MAX_LEN c =
    row_queued c.requires _ _ c.canonical_func_app-entry.ensures _ _ (sym c.position.ensures ∙ c.in-At.is)
    no_func_app refl c.if-stored-entry.false c.if-counts-ge-MAX_LEN.false refl c.equate-differ.ensures refl
