-- `write` meets its contract.
use Prim.Native.Nat.{ℕ, ◌+◌, ◌*◌, ◌≤◌, min}
use mathlib.Core.Path.{◌≡◌, refl, sym, ap, ◌∙◌}
use mathlib.Core.List.{List, [], ◌∷◌, map}
use native.Mathlib.Omega.{arith}
use lib.ListN.{length, take, length-map, length-take}
use borrow.Author.Rules.{rules}
use Rattle.ids.proofs.Views.{long}
use Rattle.unification.specs.Roots.{max_els}
use Rattle.semantics.specs.Structure.{max_vars, max_func_apps, max_pred_apps, max_impositions}
use Rattle.structure.specs.View.{structure_of}
use Rattle.bindings.specs.View.{vars_of, ambients_of}
use Rattle.file.specs.Layout.{by_columns, joined}
use Rattle.file.specs.Rows.{pair_columns, var_row, ambient_row}
use Rattle.file.specs.File.{counts, head_of}
use Rattle.file.proofs.LayoutLaws.{columns_length}
use Rattle.file.proofs.Storable.{limits_kept}
use Rattle.storing.specs.View.{Held, fact_bytes, rest_bytes, max_bytes, fact_parts}
use Rattle.storing.proofs.Writing.{written_as, written_then}
use Rattle.storing.proofs.Bound.{var_rows, ambient_rows}
use Rattle.storing.proofs.Parts.{rows_columns, rows_many, fact_parts_length, app_parts_length, store_parts}
use Rattle.storing.proofs.write.Goals as goal
use Rattle.storing.proofs.write.Goals.{After-fill_slots-ambient_count, After-fill_slots-var_count, After-put_columns-bound, After-put_columns-given, After-size-6, After-write_apps-applied, After-write_facts-chained}

-- the bindings as rows
module _ (c : After-fill_slots-var_count) where
  var_columns : by_columns pair_columns (take c.fill_slots-var_count.result c.fill_slots-var_count.new.rows) ≡ by_columns pair_columns (map var_row (vars_of c.args.structure.var_els))
  var_columns = rows_columns c.fill_slots-var_count.ensures ∙ ap (by_columns pair_columns) (var_rows c.args.structure.var_els.slots)

  var_count_is : c.fill_slots-var_count.result ≡ length (vars_of c.args.structure.var_els)
  var_count_is =
      let vars = vars_of c.args.structure.var_els in
      sym (rows_many c.fill_slots-var_count.ensures) ∙ ap length (var_rows c.args.structure.var_els.slots) ∙ length-map vars var_row

module _ (c : After-fill_slots-ambient_count) where
  ambient_columns : by_columns pair_columns (take c.fill_slots-ambient_count.result c.fill_slots-ambient_count.new.rows)
      ≡ by_columns pair_columns (map ambient_row (ambients_of c.args.structure.ambient_model_els))
  ambient_columns = rows_columns c.fill_slots-ambient_count.ensures ∙ ap (by_columns pair_columns) (ambient_rows c.args.structure.ambient_model_els.slots)

  ambient_count_is : c.fill_slots-ambient_count.result ≡ length (ambients_of c.args.structure.ambient_model_els)
  ambient_count_is =
      let ambients = ambients_of c.args.structure.ambient_model_els in
      sym (rows_many c.fill_slots-ambient_count.ensures) ∙ ap length (ambient_rows c.args.structure.ambient_model_els.slots) ∙ length-map ambients ambient_row

-- the counts are those of the head
module _ (c : After-size-6) where
  abbrev head : List ℕ
  head =
      c.size.result
      ∷ c.size-2.result
      ∷ c.size-3.result
      ∷ c.size-4.result
      ∷ c.size-5.result
      ∷ c.fill_slots-var_count.result
      ∷ c.fill_slots-ambient_count.result
      ∷ c.size-6.result
      ∷ []

  head_is : head ≡ counts (head_of (structure_of c.args.structure))
  unfolding counts head_of
  head_is i =
      c.size.ensures.is i
      ∷ c.size-2.ensures.is i
      ∷ c.size-3.ensures.is i
      ∷ c.size-4.ensures.is i
      ∷ c.size-5.ensures.is i
      ∷ var_count_is (goal.at.After-size-6 c).After-fill_slots-var_count i
      ∷ ambient_count_is (goal.at.After-size-6 c).After-fill_slots-ambient_count i
      ∷ c.size-6.ensures.is i
      ∷ []

-- no table is over its limit, and links and marks are equally many
held : (c : After-size-6) → Held (structure_of c.args.structure)
held c =
    let s = c.args.structure in
    let links : length s.unification.links ≡ max_els = search (rules, long) in
    let marks : length s.inferred_parent_els ≡ max_els = search (rules, long) in
    record {
      most = limits_kept (structure_of s) (record {
        els = omega (arith, c.size.ensures);
        facts = omega (arith, c.size-2.ensures);
        func_apps = omega (arith, c.size-3.ensures);
        pred_apps = omega (arith, c.size-4.ensures);
        impositions = omega (arith, c.size-5.ensures);
        vars = omega (arith, var_count_is (goal.at.After-size-6 c).After-fill_slots-var_count, c.fill_slots-var_count.ensures.most);
        ambients = omega (arith, ambient_count_is (goal.at.After-size-6 c).After-fill_slots-ambient_count, c.fill_slots-ambient_count.ensures.most);
        pairs = omega (arith, c.size-6.ensures);
      });
      marks = length-take s.unification.len s.inferred_parent_els ∙ ap (min s.unification.len) (marks ∙ sym links)
          ∙ sym (length-take s.unification.len s.unification.links);
    }

-- the bytes end where there is room for what follows
facts_end : (c : After-write_facts-chained) → c.write_facts-chained.result ≤ fact_bytes
facts_end c =
    omega (
      arith,
      c.write_facts-chained.ensures.end,
      fact_parts_length (head (goal.at.After-write_facts-chained c).After-size-6) (structure_of c.args.structure),
      c.size.ensures,
      c.size-2.ensures,
    )

apps_end : (c : After-write_apps-applied) → c.write_apps-applied.result ≤ fact_bytes + 12 * max_func_apps + 11 * max_pred_apps + 7 * max_impositions
apps_end c =
    omega (
      arith,
      facts_end (goal.at.After-write_apps-applied c).After-write_facts-chained,
      c.write_apps-applied.ensures.end,
      app_parts_length (structure_of c.args.structure),
      c.size-3.ensures,
      c.size-4.ensures,
      c.size-5.ensures,
    )

vars_end : (c : After-put_columns-bound) → c.put_columns-bound.result ≤ fact_bytes + 12 * max_func_apps + 11 * max_pred_apps + 7 * max_impositions + 2 * max_vars
vars_end c =
    omega (
      arith,
      apps_end (goal.at.After-put_columns-bound c).After-write_apps-applied,
      c.put_columns-bound.ensures.end,
      columns_length pair_columns (take c.fill_slots-var_count.result c.fill_slots-var_count.new.rows),
      length-take c.fill_slots-var_count.result c.fill_slots-var_count.new.rows,
      c.fill_slots-var_count.ensures.most,
    )

ambients_end : (c : After-put_columns-given) → c.put_columns-given.result + rest_bytes ≤ max_bytes
ambients_end c =
    omega (
      arith,
      vars_end (goal.at.After-put_columns-given c).After-put_columns-bound,
      c.put_columns-given.ensures.end,
      columns_length pair_columns (take c.fill_slots-ambient_count.result c.fill_slots-ambient_count.new.rows),
      length-take c.fill_slots-ambient_count.result c.fill_slots-ambient_count.new.rows,
      c.fill_slots-ambient_count.ensures.most,
    )

-- and the array is as long as it was
facts_long : (c : After-write_facts-chained) → length c.write_facts-chained.new.file ≡ max_bytes
facts_long c = c.write_facts-chained.ensures.long ∙ c.requires

apps_long : (c : After-write_apps-applied) → length c.write_apps-applied.new.file ≡ max_bytes
apps_long c = c.write_apps-applied.ensures.long ∙ facts_long (goal.at.After-write_apps-applied c).After-write_facts-chained

vars_long : (c : After-put_columns-bound) → length c.put_columns-bound.new.buffer ≡ max_bytes
vars_long c = c.put_columns-bound.ensures.long ∙ apps_long (goal.at.After-put_columns-bound c).After-write_apps-applied

pub write_apps-applied-requires : goal.write_apps-applied-requires
write_apps-applied-requires c = (facts_long (goal.at.write_apps-applied-requires c).After-write_facts-chained, facts_end (goal.at.write_apps-applied-requires c).After-write_facts-chained)

pub put_columns-bound-requires : goal.put_columns-bound-requires
put_columns-bound-requires c =
    let vars = c.fill_slots-var_count in
    omega (
      arith,
      length-take vars.result vars.new.rows,
      vars.ensures.most,
      apps_end (goal.at.put_columns-bound-requires c).After-write_apps-applied,
      apps_long (goal.at.put_columns-bound-requires c).After-write_apps-applied,
    )

pub put_columns-given-requires : goal.put_columns-given-requires
put_columns-given-requires c =
    let ambients = c.fill_slots-ambient_count in
    omega (
      arith,
      length-take ambients.result ambients.new.rows,
      ambients.ensures.most,
      vars_end (goal.at.put_columns-given-requires c).After-put_columns-bound,
      vars_long (goal.at.put_columns-given-requires c).After-put_columns-bound,
    )

pub write_rest-requires : goal.write_rest-requires
write_rest-requires c =
    (c.put_columns-given.ensures.long ∙ vars_long (goal.at.write_rest-requires c).After-put_columns-bound, ambients_end (goal.at.write_rest-requires c).After-put_columns-given)

pub returns : goal.returns
returns c =
    let s = structure_of c.args.structure in
    let v = c.fill_slots-var_count in (
      written_as
          (written_then (written_as c.write_facts-chained.ensures (ap (λ (ns : List ℕ). joined (fact_parts ns s)) (head_is (goal.at.returns c).After-size-6)) refl)
          (written_then c.write_apps-applied.ensures
          (written_then (written_as {bytes = by_columns pair_columns (take v.result v.new.rows)} c.put_columns-bound.ensures (var_columns (goal.at.returns c).After-fill_slots-var_count) refl)
          (written_then (written_as c.put_columns-given.ensures (ambient_columns (goal.at.returns c).After-fill_slots-ambient_count) refl) c.write_rest.ensures))))
          (store_parts s) refl,
      held (goal.at.returns c).After-size-6,
    )
