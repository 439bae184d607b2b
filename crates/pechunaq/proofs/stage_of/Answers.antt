-- `stage_of` meets its contract.
use mathlib.Core.Path.{sym}
use mathlib.Core.List.{[], ◌∷◌}
use native.Mathlib.Omega.{arith}
use lib.ListN.{get_or-eq_default}
use borrow.Author.Rules.{rules}
use Rattle.sheet.specs.declared.Stage.TheVariants as stages
use Rattle.pechunaq.specs.Session.{stage_at}
use Rattle.pechunaq.proofs.stage_of.Goals as goal

pub returns-in-0 : goal.returns-in-0
unfolding stage_at
returns-in-0 c = search rules

pub returns-in-1 : goal.returns-in-1
unfolding stage_at
returns-in-1 c = search rules

pub returns-in-2 : goal.returns-in-2
unfolding stage_at
returns-in-2 c = search rules

pub returns-in-3 : goal.returns-in-3
unfolding stage_at
returns-in-3 c = search rules

pub returns-in_default : goal.returns-in_default
unfolding stage_at
returns-in_default c =
    sym (get_or-eq_default (stages.Refusing ∷ stages.Visiting ∷ stages.Listing ∷ stages.Ending ∷ []) stages.Ended {n = c.args.number} (omega arith))
