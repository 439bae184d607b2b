-- `refine_types` meets its contract.
use mathlib.Core.Path.{sym, ◌∙◌}
use borrow.Author.Tests.{not-true}
use Rattle.facts.specs.View.{fact_of}
use Rattle.merging.specs.View.{Lent, lent, core_of}
use Rattle.merging.proofs.Laws.{idle}
use Rattle.imposing.proofs.Unrefined.{kept_same, unmarked_same}
use Rattle.imposing.proofs.refine_types.Goals as goal
use Rattle.imposing.proofs.refine_types.Goals.{Start}

-- what was lent
abbrev given : Start → Lent
given s = lent s.args.els.now s.args.facts.now s.args.pairs.now s.args.counts

pub returns-then-not-counts : goal.returns-then-not-counts
returns-then-not-counts c =
    idle (given (goal.at.returns-then-not-counts c).Start) c.requires.0 (unmarked_same (fact_of c.args.fact) (core_of (given (goal.at.returns-then-not-counts c).Start)) (c.requires.0.els_held.unmarked (not-true _ c.if-not-counts.true)))

pub returns-then-keeps_types : goal.returns-then-keeps_types
returns-then-keeps_types c =
    idle (given (goal.at.returns-then-keeps_types c).Start) c.requires.0 (kept_same (fact_of c.args.fact) (core_of (given (goal.at.returns-then-keeps_types c).Start)) (sym c.keeps_types.ensures ∙ c.if-keeps_types.true))
