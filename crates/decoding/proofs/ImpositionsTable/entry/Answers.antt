-- `entry` of `Impositions` meets its contract.
use mathlib.Core.Path.{◌≡◌, ap, ◌∙◌}
use native.Mathlib.Omega.{arith}
use lib.ListN.{length}
use Rattle.ids.proofs.Views.{long}
use Rattle.semantics.specs.Structure.{fact}
use Rattle.facts.specs.View.{fact_of}
use Rattle.file.specs.Rows.{imposition_in, imposition_columns}
use Rattle.decoding.proofs.Reading.{cell, list_at_lem}
use borrow.Author.Rules.{rules}
use Rattle.decoding.proofs.ImpositionsTable.entry.Goals as goal

pub returns : goal.returns
unfolding imposition_in
returns c =
    let r = c.args.row in
    let many : length r ≡ 12 = search (rules, long) in
    let parents = list_at_lem 2 imposition_columns r (omega arith) (omega (arith, many)) c.list_of-parents.ensures in
    ap fact_of c.new.ensures ∙ (λ i. fact (cell 0 imposition_columns r (omega arith) i) (cell 1 imposition_columns r (omega arith) i) (parents i))
