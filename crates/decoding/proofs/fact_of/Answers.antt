-- `fact_of` meets its contract.
use mathlib.Core.Path.{◌≡◌, ap, ◌∙◌}
use native.Mathlib.Omega.{arith}
use lib.ListN.{length}
use Rattle.ids.proofs.Views.{long}
use Rattle.semantics.specs.Structure.{fact}
use Rattle.facts.specs.View.{fact_of}
use Rattle.file.specs.Rows.{fact_in, fact_columns}
use Rattle.decoding.proofs.Reading.{cell, list_at_lem}
use borrow.Author.Rules.{rules}
use Rattle.decoding.proofs.fact_of.Goals as goal

pub returns : goal.returns
unfolding fact_in
returns c =
    let r = c.args.row in
    let many : length r ≡ 12 = search (rules, long) in
    let parents = list_at_lem 1 fact_columns r (omega arith) (omega (arith, many)) c.list_of-parents.ensures in
    ap fact_of c.new.ensures ∙ (λ i. fact c.args.el (cell 0 fact_columns r (omega arith) i) (parents i))
