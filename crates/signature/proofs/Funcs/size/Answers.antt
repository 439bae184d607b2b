-- `Funcs::size` meets its contract.
use Rattle.ids.proofs.Views.{long}
use Rattle.signature.specs.Model.{max_funcs, func_of}
use Rattle.ids.proofs.Counted.{size_below, size_over}
use borrow.Author.Rules.{rules}
use Rattle.signature.proofs.Funcs.size.Goals as goal

pub returns-then-n-lt-MAX_FUNCS : goal.returns-then-n-lt-MAX_FUNCS
returns-then-n-lt-MAX_FUNCS c =
    let t = c.args.self in
    size_below func_of t.len t.items max_funcs (search (rules, long)) c.if-n-lt-MAX_FUNCS.true

pub returns-else-n-lt-MAX_FUNCS : goal.returns-else-n-lt-MAX_FUNCS
returns-else-n-lt-MAX_FUNCS c =
    let t = c.args.self in
    size_over func_of t.len t.items max_funcs (search (rules, long)) c.if-n-lt-MAX_FUNCS.false
