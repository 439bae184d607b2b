-- `Line::put` meets its contract.
use Rattle.lines.proofs.Puts.{put_at, put_past}
use borrow.Author.Rules.{rules}
use Rattle.lines.proofs.Line.put.Goals as goal

pub returns-then-n-lt-MAX_LEN : goal.returns-then-n-lt-MAX_LEN
returns-then-n-lt-MAX_LEN c =
    let a = c.args in
    put_at a.self.len a.self.bytes (search rules) c.size-n.ensures a.b c.if-n-lt-MAX_LEN.true

pub returns-else-n-lt-MAX_LEN : goal.returns-else-n-lt-MAX_LEN
returns-else-n-lt-MAX_LEN c =
    let a = c.args in
    put_past a.self.len a.self.bytes (search rules) c.size-n.ensures a.b c.if-n-lt-MAX_LEN.false
