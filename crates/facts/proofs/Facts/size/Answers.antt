-- `Facts::size` meets its contract.
use Rattle.ids.proofs.Views.{long}
use Rattle.ids.proofs.Counted.{size_below, size_over}
use Rattle.semantics.specs.Structure.{max_facts}
use Rattle.facts.specs.View.{fact_of}
use borrow.Author.Rules.{rules}
use Rattle.facts.proofs.Facts.size.Goals as goal

pub returns-then-n-lt-MAX_LEN : goal.returns-then-n-lt-MAX_LEN
returns-then-n-lt-MAX_LEN c = size_below fact_of _ _ max_facts (search (rules, long)) c.if-n-lt-MAX_LEN.true

pub returns-else-n-lt-MAX_LEN : goal.returns-else-n-lt-MAX_LEN
returns-else-n-lt-MAX_LEN c = size_over fact_of _ _ max_facts (search (rules, long)) c.if-n-lt-MAX_LEN.false
