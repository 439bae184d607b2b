-- `Position::is_broken` meets its contract.
use mathlib.Core.Path.{◌∙◌}
use borrow.Author.Tests.{le-leb, lt-leb}
use Rattle.sheet.proofs.Laws.{broken_past, broken_last, broken_not}
use Rattle.sheet.proofs.Position.is_broken.Goals as goal

pub returns-then-self-next : goal.returns-then-self-next
returns-then-self-next c =
    let at = c.args.self in
    le-leb at.count c.args.next c.if-self-next.true ∙ broken_past at.count at.done c.args.next c.if-self-next.true

pub returns-then-self : goal.returns-then-self
returns-then-self c = let at = c.args.self in broken_last at.count at.done c.args.next c.if-self-next.false c.if-self.true

pub returns-else-self : goal.returns-else-self
returns-else-self c =
    let at = c.args.self in
    lt-leb _ at.done c.if-self.false ∙ broken_not at.count at.done c.args.next c.if-self-next.false c.if-self.false
