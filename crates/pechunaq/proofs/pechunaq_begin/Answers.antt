-- `pechunaq_begin` meets its contract.
use mathlib.Core.Path.{ap, ◌∙◌}
use Rattle.semantics.specs.Calls.{Machine}
use Rattle.sheet.specs.declared.Stage.TheVariants as stages
use Rattle.sheet.specs.Pieces.{standing}
use Rattle.sheet.proofs.Laws.{both}
use Rattle.pechunaq.proofs.pechunaq_begin.Goals as goal

pub returns : goal.returns
returns c =
    c.from.ensures
    ∙ both c.new.ensures (c.at_stage.ensures ∙ ap (λ (m : Machine). standing stages.Ended m 0 0 0) c.new-2.ensures)
