-- The definitions that a store and a load compute with, under one name.
use Prim.Native.Nat.{ℕ}
use Rattle.ids.specs.Ids as ids
use Rattle.unification.specs.Roots as roots
use Rattle.semantics.proofs.Computes.{everything}
use Rattle.file.specs.Layout as layout
use Rattle.file.specs.Rows as rows
use Rattle.file.specs.File as file

unfoldable pub filed : ℕ
unfolding everything ids.padded roots.up_to
    layout.word_bytes layout.column layout.by_columns layout.row_in layout.rows_in layout.joined layout.parts_of layout.sum layout.same
    rows.places rows.fact_row rows.fact_in rows.func_app_row rows.func_app_in rows.pred_app_row rows.pred_app_in rows.imposition_row rows.imposition_in rows.var_row
    rows.var_in rows.ambient_row rows.ambient_in rows.pair_row rows.pair_in
    file.counts file.head_from file.head_of file.first_fact file.next_fact file.nexts_from file.parts file.store file.store_causes file.store_into file.sizes
    file.head_in file.content_from file.content_in file.owner_from file.facts_from file.structure_in file.has_length file.any_over file.any file.in_order
    file.count_outside file.bit_outside file.flag_outside file.els_alone file.entry_calls file.refuses file.entry_refused file.link_rises file.fact_off_root
    file.chain_broken file.other_order file.unused_byte file.content_causes file.load_causes file.load
filed = 0
