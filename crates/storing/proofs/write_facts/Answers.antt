-- `write_facts` meets its contract.
use Prim.Native.Nat.{ℕ, ◌+◌, ◌≤◌}
use mathlib.Core.Path.{◌≡◌, refl, ap, ◌∙◌}
use mathlib.Core.List.{map}
use native.Mathlib.Omega.{arith}
use lib.ListN.{take, length-take, length-map}
use Rattle.ids.proofs.Views.{take_same}
use Rattle.unification.specs.Roots.{max_els, links_of}
use Rattle.facts.specs.View.{fact_of, facts_of}
use Rattle.file.specs.Layout.{byte, word_bytes, by_columns, joined}
use Rattle.file.specs.Rows.{fact_columns, fact_row}
use Rattle.file.specs.File.{nexts}
use Rattle.file.proofs.LayoutLaws.{word_bytes_length}
use Rattle.storing.specs.View.{Written}
use Rattle.storing.proofs.Columns.{table_written}
use Rattle.storing.proofs.Writing.{written_nothing, written_as, written_then}
use Rattle.storing.proofs.Parts.{table_length}
use Rattle.storing.proofs.write_facts.Goals as goal
use Rattle.storing.proofs.write_facts.Goals.{After-put_bytes-linked, After-put_table-stored, After-put_words-head}

-- the bytes end where there is room for what follows
head_end : (c : After-put_words-head) → c.put_words-head.result ≡ 16
head_end c = omega (arith, c.put_words-head.ensures.end, word_bytes_length c.args.counts, c.well_formed.1)

links_end : (c : After-put_bytes-linked) → c.put_bytes-linked.result ≤ 16 + max_els
links_end c =
    let n = c.size-n in
    let links = c.args.structure.unification.links in
    omega (
      arith,
      c.put_bytes-linked.ensures.end,
      head_end (goal.at.After-put_bytes-linked c).After-put_words-head,
      length-map (take n.result links) byte,
      length-take n.result links,
      n.ensures.most,
    )

-- the facts, as the definitions speak of them
stored : (c : After-put_table-stored) →
    let linked = c.put_bytes-linked in
    Written linked.new.buffer linked.result (by_columns fact_columns (map fact_row (facts_of c.args.structure.els))) c.put_table-stored.new.buffer c.put_table-stored.result
stored c =
    let t = c.args.structure.els in
    table_written fact_of t.len t.items c.size-m.ensures fact_row fact_columns c.put_table-stored.ensures

pub put_bytes-linked-requires : goal.put_bytes-linked-requires
put_bytes-linked-requires c =
    let n = c.size-n in
    omega (
      arith,
      length-take n.result c.args.structure.unification.links,
      n.ensures.most,
      head_end (goal.at.put_bytes-linked-requires c).After-put_words-head,
      c.put_words-head.ensures.long,
      c.requires,
    )

pub put_table-stored-requires-clause-bytes : goal.put_table-stored-requires-clause-bytes
put_table-stored-requires-clause-bytes c =
    let m = c.size-m in
    omega (
      arith,
      length-take m.result c.args.structure.els.items,
      links_end (goal.at.put_table-stored-requires-clause-bytes c).After-put_bytes-linked,
      m.ensures.most,
      c.put_bytes-linked.ensures.long,
      c.put_words-head.ensures.long,
      c.requires,
    )

pub put_words-requires : goal.put_words-requires
put_words-requires c =
    let m = c.size-m in
    omega (
      arith,
      links_end (goal.at.put_words-requires c).After-put_bytes-linked,
      m.ensures,
      (stored (goal.at.put_words-requires c).After-put_table-stored).end,
      table_length fact_row fact_columns (facts_of c.args.structure.els),
      length-take m.result c.nexts_of-nexts.result,
      c.put_table-stored.ensures.long,
      c.put_bytes-linked.ensures.long,
      c.put_words-head.ensures.long,
      c.requires,
    )

pub returns : goal.returns
unfolding joined
returns c =
    let u = c.args.structure.unification in
    let n = c.size-n in
    let links : take n.result u.links ≡ links_of u = take_same n.result u.len u.links (omega (arith, n.ensures.is, length-take u.len u.links)) in
    let chain : take c.size-m.result c.nexts_of-nexts.result ≡ nexts (facts_of c.args.structure.els) =
    ap (λ (k : ℕ). take k c.nexts_of-nexts.result) c.size-m.ensures.is ∙ c.nexts_of-nexts.ensures in
    written_then c.put_words-head.ensures
    (written_then (written_as c.put_bytes-linked.ensures (ap (map byte) links) refl)
    (written_then (stored (goal.at.returns c).After-put_table-stored)
    (written_then (written_as c.put_words.ensures (ap word_bytes chain) refl) (written_nothing _ _))))
