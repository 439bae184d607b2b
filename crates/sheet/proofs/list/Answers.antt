-- `list` meets its contract.
use Rattle.sheet.proofs.Laws.{both, listed_all, listed_one}
use mathlib.Core.Path.{refl, ◌∙◌}
use Rattle.sheet.proofs.list.Goals as goal

pub returns-then-n-at : goal.returns-then-n-at
returns-then-n-at c = listed_all c.args.progress c.size-n.ensures.is c.if-n-at.true (c.pass.ensures ∙ both c.conflicts_line-line.ensures refl)

pub returns : goal.returns
returns c = listed_one c.args.progress c.size-n.ensures.is c.if-n-at.false _ (both c.conflict_line-line.ensures refl)
