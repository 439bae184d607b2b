-- `TypeConflicts::push` meets its contract.
use Rattle.ids.proofs.Views.{long}
use Rattle.conflicts.specs.View.{conflict_of}
use Rattle.conflicts.proofs.Laws.{push_none, push_one}
use borrow.Author.Rules.{rules}
use Rattle.conflicts.proofs.TypeConflicts.push.Goals as goal

pub returns-then-n-ge-MAX_ELS : goal.returns-then-n-ge-MAX_ELS
returns-then-n-ge-MAX_ELS c =
    push_none c.args.self c.requires c.size-n.ensures (conflict_of c.args.conflict) c.if-n-ge-MAX_ELS.true

pub returns : goal.returns
returns c =
    push_one c.args.self c.requires c.size-n.ensures c.clamped-entry.result c.clamped-entry.ensures (search (rules, long)) c.if-n-ge-MAX_ELS.false
