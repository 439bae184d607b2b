-- `pechunaq_begin_sheet` meets its contract.
use mathlib.Core.Path.{◌∙◌}
use Rattle.sheet.proofs.Laws.{both}
use Rattle.pechunaq.proofs.pechunaq_begin_sheet.Goals as goal

pub returns : goal.returns
returns c = c.from.ensures ∙ both c.new.ensures c.start.ensures
