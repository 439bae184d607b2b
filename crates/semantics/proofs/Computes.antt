-- The definitions that a call and a sheet compute with, under one name: a proof that computes says `unfolding everything`.
use Prim.Native.Nat.{ℕ}
use Rattle.ids.specs.Answers as answers
use Rattle.ids.specs.Ids as ids
use Rattle.ids.specs.Table as table
use Rattle.unification.specs.Roots as roots
use Rattle.signature.specs.Model as model
use Rattle.signature.specs.Calls as signature
use Rattle.semantics.specs.Structure as structure
use Rattle.semantics.specs.Types as types
use Rattle.semantics.specs.Applying as applying
use Rattle.semantics.specs.MapLaws as map-laws
use Rattle.semantics.specs.Close as close
use Rattle.semantics.specs.Conflicts as conflicts
use Rattle.semantics.specs.Calls as calls
use Rattle.semantics.specs.Sheet as sheet

unfoldable pub everything : ℕ
unfolding answers.first_of answers.decided answers.outcome
    ids.all_below
    table.present table.lookup_of table.placed table.push_of table.rewrite_into
    roots.follow roots.root_of roots.depth_of roots.short_of roots.merged_of roots.added_of roots.find_of roots.find_causes roots.root_const roots.root
    model.empty model.with_types model.with_preds model.with_funcs model.with_models model.with_mor_apps
    signature.is_model signature.is_mor signature.is_mor_of signature.member signature.model_given signature.in_models signature.in_mor_apps
    signature.function_given signature.any_given signature.repeats signature.pair_given signature.type_causes signature.with_type signature.pred_causes
    signature.with_pred signature.func_causes signature.with_func signature.model_ids_declared signature.model_causes signature.with_model
    signature.mor_app_causes signature.with_mor_app signature.concrete_type_at signature.lookup_type_causes
    structure.compare_fact structure.compare_func_app structure.compare_pred_app structure.compare_var structure.compare_ambient
    structure.canonical_fact structure.canonical_func_app structure.canonical_pred_app structure.canonical_var structure.empty
    types.merged_marks types.moved_facts types.merge types.join_roots types.join types.drain_pairs types.drain types.facts_at types.concrete_types_of
    types.refine_roots types.refine types.refine_parents types.refine_all types.insert_fact types.insert_canonical types.impose types.grew
    types.impose_all
    applying.equate applying.applied_equal applying.apply_at applying.insert_func_app_or_equate
    map-laws.identity_laws map-laws.composition_laws map-laws.map_laws_in map-laws.map_laws_of map-laws.map_laws
    close.enter_at close.enter close.enter_all close.demanded close.demanded_at close.demanded_args close.func_args close.pred_args close.func_results
    close.demands close.drained close.drain_pass close.rewrote close.functionality_pass close.typed close.typing_pass close.applied_turn close.apply_turn
    close.key_of close.give_to close.give close.equalize close.obey close.obey_all close.operation_pass close.passes close.run_passes
    close.round close.is_none close.last_round close.one_more close.rounds_from close.fuel close.rounds close.core_at_start close.canonicalise_refs
    close.with_core close.imposed_after close.close_run close.report_of close.after_close close.met_causes close.close_by close.close
    conflicts.parents_match conflicts.disagree conflicts.first_conflict conflicts.conflict_among conflicts.ordered_at conflicts.conflict_at
    conflicts.conflicts_below conflicts.type_conflicts_of conflicts.finds_among conflicts.finds_at conflicts.finds_below conflicts.conflict_finds
    calls.el_causes calls.with_el calls.equality_causes calls.with_equality calls.is_imposed calls.imposition_causes calls.with_imposition
    calls.is_id_or_comp calls.is_reserved calls.misapplies calls.is_misapplied calls.application_causes calls.with_applied
    calls.predication_causes calls.with_pred_app calls.variable_causes calls.with_var calls.ambient_causes calls.with_ambient calls.ambient_of
    calls.have_ambients calls.ambient_els calls.ambient_parents_causes calls.leading calls.start calls.equality_rule calls.imposition_rule calls.application_rule calls.close_rule
    calls.reported_first calls.settle_after calls.settle_by calls.settle_from calls.settle_run calls.merges_in calls.sums_of calls.settle_rule calls.rule
    calls.settled_by calls.leaves calls.acceptance calls.step_by calls.step calls.after_calls
    sheet.words sheet.record_of sheet.record_at sheet.all_zero sheet.count_fits sheet.list_fits sheet.kind_of sheet.type_form sheet.pred_form
    sheet.func_form sheet.model_form sheet.mor_app_form sheet.el_form sheet.equality_form sheet.imposition_form sheet.func_app_form sheet.pred_app_form
    sheet.var_form sheet.ambient_form sheet.close_form sheet.conflicts_form sheet.settle_form sheet.forms sheet.form_of sheet.fits sheet.call_in sheet.call_of
    sheet.carry_out sheet.digits_from sheet.decimal sheet.spaced sheet.bit sheet.close_line sheet.conflict_line sheet.conflict_lines
    sheet.conflicts_line sheet.settle_line sheet.refused_line sheet.end_line sheet.print_answer sheet.chain_broken sheet.carried sheet.visit sheet.run_records
    sheet.bad_length sheet.run_sheet
everything = 0
