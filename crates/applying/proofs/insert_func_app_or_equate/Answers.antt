-- `insert_func_app_or_equate` meets its contract.
use mathlib.Core.Path.{sym, ap, ◌∙◌}
use Rattle.ids.proofs.Counted.{full, room}
use Rattle.apps.specs.View as apps
use Rattle.applying.proofs.Laws.{app_new, app_same, app_full, app_equal}
use Rattle.applying.proofs.insert_func_app_or_equate.Goals as goal

pub returns-then-existing-result : goal.returns-then-existing-result
returns-then-existing-result c =
    let found = sym (ap apps.found c.in-Result.is) ∙ c.get.ensures in
    app_same _ _ _ _ _ c.canonical_func_app-entry.ensures _ found c.if-existing-result.true

pub returns-then-size-ge-MAX_LEN : goal.returns-then-size-ge-MAX_LEN
returns-then-size-ge-MAX_LEN c =
    let found = sym (ap apps.found c.in-Result.is) ∙ c.get.ensures in
    app_full _ _ _ _ _ c.canonical_func_app-entry.ensures _ found c.if-existing-result.false (full c.size.ensures c.if-size-ge-MAX_LEN.true)

pub returns-in-Nothing : goal.returns-in-Nothing
returns-in-Nothing c =
    let nothing = sym (ap apps.found c.in-Nothing.is) ∙ c.get.ensures in
    app_new _ _ _ _ _ c.canonical_func_app-entry.ensures nothing c.insert-inserted.ensures.0

pub returns-else-size-ge-MAX_LEN : goal.returns-else-size-ge-MAX_LEN
returns-else-size-ge-MAX_LEN c =
    let found = sym (ap apps.found c.in-Result.is) ∙ c.get.ensures in
    app_equal _ _ _ _ _ c.canonical_func_app-entry.ensures _ found c.if-existing-result.false (room c.size.ensures c.if-size-ge-MAX_LEN.false)
    c.equate-equated.ensures
