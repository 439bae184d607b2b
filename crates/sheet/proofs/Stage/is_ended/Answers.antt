-- `Stage::is_ended` meets its contract.
use mathlib.Core.Path.{sym, ap}
use Rattle.sheet.specs.Pieces.{is_ended}
use Rattle.sheet.proofs.Laws.{not_ended}
use Rattle.sheet.proofs.Stage.is_ended.Goals as goal

pub returns-in-Ended : goal.returns-in-Ended
unfolding is_ended
returns-in-Ended c = ap is_ended (sym c.in-Ended.is)

pub returns-in_default : goal.returns-in_default
returns-in_default c = not_ended _ c.in_default.not-Ended
