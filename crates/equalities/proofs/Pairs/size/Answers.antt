-- `Pairs::size` meets its contract.
use Rattle.ids.proofs.Views.{long}
use Rattle.ids.proofs.Counted.{size_below, size_over}
use Rattle.semantics.specs.Structure.{max_pairs}
use Rattle.equalities.specs.View.{pair_of}
use Rattle.equalities.proofs.Queue.{size_reversed}
use borrow.Author.Rules.{rules}
use Rattle.equalities.proofs.Pairs.size.Goals as goal

pub returns-then-n-lt-MAX_LEN : goal.returns-then-n-lt-MAX_LEN
returns-then-n-lt-MAX_LEN c = size_reversed (size_below pair_of _ _ max_pairs (search (rules, long)) c.if-n-lt-MAX_LEN.true)

pub returns-else-n-lt-MAX_LEN : goal.returns-else-n-lt-MAX_LEN
returns-else-n-lt-MAX_LEN c = size_reversed (size_over pair_of _ _ max_pairs (search (rules, long)) c.if-n-lt-MAX_LEN.false)
