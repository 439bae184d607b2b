-- `TypeConflicts::size` meets its contract.
use Rattle.ids.proofs.Views.{long}
use Rattle.ids.proofs.Counted.{size_below, size_over}
use Rattle.unification.specs.Roots.{max_els}
use Rattle.conflicts.specs.View.{conflict_of}
use borrow.Author.Rules.{rules}
use Rattle.conflicts.proofs.TypeConflicts.size.Goals as goal

pub returns-then-n-lt-MAX_ELS : goal.returns-then-n-lt-MAX_ELS
returns-then-n-lt-MAX_ELS c = size_below conflict_of _ _ max_els (search (rules, long)) c.if-n-lt-MAX_ELS.true

pub returns-else-n-lt-MAX_ELS : goal.returns-else-n-lt-MAX_ELS
returns-else-n-lt-MAX_ELS c = size_over conflict_of _ _ max_els (search (rules, long)) c.if-n-lt-MAX_ELS.false
