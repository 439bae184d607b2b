-- `record_at` meets its contract.
use mathlib.Core.Path.{◌∙◌}
use borrow.Author.Rules.{rules}
use Rattle.records.proofs.Laws.{in_sheet}
use Rattle.records.proofs.record_at.Goals as goal

pub returns : goal.returns
returns c =
    let a = c.args in
    c.record_in.ensures ∙ in_sheet a.bytes.now a.index (search rules)
