-- `write_rest` meets its contract.
use Prim.Native.Nat.{ℕ, ◌+◌, ◌*◌, ◌≤◌}
use mathlib.Core.Path.{◌≡◌, refl, sym, ap, ◌∙◌}
use mathlib.Core.List.{List, map, reverse, reverse-reverse}
use native.Mathlib.Omega.{arith}
use lib.ListN.{length, take, length-take, length-map, length-reverse}
use borrow.Author.Rules.{rules}
use Rattle.ids.specs.Table.{Sized}
use Rattle.ids.proofs.Views.{long, take_same}
use Rattle.unification.specs.Roots.{max_els, links_of}
use Rattle.semantics.specs.Structure as model
use Rattle.semantics.specs.Structure.{max_pairs}
use Rattle.semantics.specs.Sheet.{bit}
use Rattle.facts.specs.View.{facts_of}
use Rattle.equalities.specs.View.{pair_of, pairs_of}
use Rattle.file.specs.Layout.{word_bytes, by_columns, joined}
use Rattle.file.specs.Rows.{pair_columns, pair_row}
use Rattle.file.specs.File.{firsts}
use Rattle.file.proofs.LayoutLaws.{word_bytes_length}
use Rattle.storing.specs.View.{Written}
use Rattle.storing.proofs.Columns.{table_written}
use Rattle.storing.proofs.Writing.{written_as, written_then}
use Rattle.storing.proofs.Parts.{table_length, firsts_taken}
use Rattle.storing.proofs.write_rest.Goals as goal
use Rattle.storing.proofs.write_rest.Goals.{After-firsts_of-firsts, After-put_bytes-marked, After-put_table-queued, After-put_words-end}

-- what the arrays hold
module _ (c : After-firsts_of-firsts) where
  marks_taken :
      let s = c.args.structure in
      take c.size-n.result s.inferred_parent_els ≡ take s.unification.len s.inferred_parent_els
  marks_taken =
      let s = c.args.structure in
      let n = c.size-n in
      let links : length s.unification.links ≡ max_els = search (rules, long) in
      let marks : length s.inferred_parent_els ≡ max_els = search (rules, long) in
      take_same n.result s.unification.len s.inferred_parent_els (omega (arith, n.ensures.is, length-take s.unification.len s.unification.links, links, marks))

  heads_taken :
      let s = c.args.structure in
      take c.size-n.result c.firsts_of-firsts.result ≡ firsts (length (links_of s.unification)) (facts_of s.els)
  heads_taken =
      let s = c.args.structure in
      let n = c.size-n in
      firsts_taken n.result c.firsts_of-firsts.ensures n.ensures.most ∙ ap (λ (k : ℕ). firsts k (facts_of s.els)) n.ensures.is

-- the pairs, the oldest first
queued : (c : After-put_table-queued) →
    let marked = c.put_bytes-marked in
    Written marked.new.buffer marked.result (by_columns pair_columns (map pair_row (reverse (pairs_of c.args.structure.pending_equalities)))) c.put_table-queued.new.buffer
    c.put_table-queued.result
queued c =
    let t = c.args.structure.pending_equalities in
    let size : Sized (map pair_of (take t.len t.items)) max_pairs c.size.result =
    record { is = c.size.ensures.is ∙ length-reverse (map pair_of (take t.len t.items)); most = c.size.ensures.most } in
    written_as (table_written pair_of t.len t.items size pair_row pair_columns c.put_table-queued.ensures)
    (ap (λ (l : List model.Pair). by_columns pair_columns (map pair_row l)) (sym (reverse-reverse (map pair_of (take t.len t.items))))) refl

-- the bytes end where there is room for what follows
marks_end : (c : After-put_bytes-marked) → c.put_bytes-marked.result ≤ c.args.at + max_els
marks_end c =
    let n = c.size-n in
    let marks = c.args.structure.inferred_parent_els in
    omega (arith, c.put_bytes-marked.ensures.end, length-map (take n.result marks) bit, length-take n.result marks, n.ensures.most)

pairs_end : (c : After-put_table-queued) → c.put_table-queued.result ≤ c.args.at + max_els + 2 * max_pairs
pairs_end c =
    let pairs = pairs_of c.args.structure.pending_equalities in
    omega (
      arith,
      (queued c).end,
      marks_end (goal.at.After-put_table-queued c).After-put_bytes-marked,
      table_length pair_row pair_columns (reverse pairs),
      length-reverse pairs,
      c.size.ensures,
    )

heads_end : (c : After-put_words-end) → c.put_words-end.result ≤ c.args.at + 3 * max_els + 2 * max_pairs
heads_end c =
    let n = c.size-n in
    omega (
      arith,
      c.put_words-end.ensures.end,
      pairs_end (goal.at.After-put_words-end c).After-put_table-queued,
      word_bytes_length (take n.result c.firsts_of-firsts.result),
      length-take n.result c.firsts_of-firsts.result,
      n.ensures.most,
    )

pub put_table-queued-requires-clause-bytes : goal.put_table-queued-requires-clause-bytes
put_table-queued-requires-clause-bytes c =
    omega (
      arith,
      marks_end (goal.at.put_table-queued-requires-clause-bytes c).After-put_bytes-marked,
      length-take c.size.result c.args.structure.pending_equalities.items,
      c.size.ensures.most,
      c.put_bytes-marked.ensures.long,
      c.requires.0,
      c.requires.1,
    )

pub put_words-end-requires : goal.put_words-end-requires
put_words-end-requires c =
    omega (
      arith,
      pairs_end (goal.at.put_words-end-requires c).After-put_table-queued,
      length-take c.size-n.result c.firsts_of-firsts.result,
      c.size-n.ensures.most,
      c.put_table-queued.ensures.long,
      c.put_bytes-marked.ensures.long,
      c.requires.0,
      c.requires.1,
    )

pub put_bytes-requires : goal.put_bytes-requires
put_bytes-requires c =
    omega (
      arith,
      heads_end (goal.at.put_bytes-requires c).After-put_words-end,
      c.put_words-end.ensures.long,
      c.put_table-queued.ensures.long,
      c.put_bytes-marked.ensures.long,
      c.requires.0,
      c.requires.1,
    )

pub returns : goal.returns
unfolding joined
returns c =
    written_then (written_as c.put_bytes-marked.ensures (ap (map bit) (marks_taken (goal.at.returns c).After-firsts_of-firsts)) refl)
    (written_then (queued (goal.at.returns c).After-put_table-queued)
    (written_then (written_as c.put_words-end.ensures (ap word_bytes (heads_taken (goal.at.returns c).After-firsts_of-firsts)) refl) c.put_bytes.ensures))
