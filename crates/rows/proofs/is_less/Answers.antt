-- `is_less` meets its contract.
use mathlib.Core.Path.{sym, ap, ◌∙◌}
use Rattle.rows.specs.Table.{is_less}
use Rattle.rows.proofs.is_less.Goals as goal

pub returns-in-Less : goal.returns-in-Less
unfolding is_less
returns-in-Less g c = ap is_less (sym c.in-Less.is ∙ c.compare.ensures)

pub returns-in-Equal : goal.returns-in-Equal
unfolding is_less
returns-in-Equal g c = ap is_less (sym c.in-Equal.is ∙ c.compare.ensures)

pub returns-in-Greater : goal.returns-in-Greater
unfolding is_less
returns-in-Greater g c = ap is_less (sym c.in-Greater.is ∙ c.compare.ensures)
