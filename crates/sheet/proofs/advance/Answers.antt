-- `advance` meets its contract.
use Rattle.sheet.proofs.Laws.{reads}
use Rattle.sheet.specs.View.{progress_of}
use borrow.Author.Rules.{rules}
use Rattle.sheet.proofs.advance.Goals as goal

pub returns : goal.returns
returns c = let a = c.args in reads a.bytes.now (progress_of a.progress) (search rules) c.record_at-given.ensures c.step.ensures
