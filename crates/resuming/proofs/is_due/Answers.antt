-- `is_due` meets its contract.
use mathlib.Core.Path.{refl, ap, ◌∙◌}
use mathlib.Core.Bool.{not}
use Rattle.sheet.specs.View.{progress_of}
use Rattle.resuming.specs.Resuming.{declares, is_due_at}
use Rattle.resuming.proofs.Laws.{kind_in, due_at, due_never}
use borrow.Author.Rules.{rules}
use Rattle.resuming.proofs.is_due.Goals as goal

pub returns-in-Visiting : goal.returns-in-Visiting
unfolding is_due_at
returns-in-Visiting c =
    let a = c.args in
    let kind = kind_in a.bytes.now a.progress.position.index (search rules) c.record_at-given.ensures in
    due_at a.bytes.now (progress_of a.progress) c.in-Visiting.is (ap not (c.is_declaring.ensures ∙ ap declares kind))

pub returns-in-Ending : goal.returns-in-Ending
unfolding is_due_at
returns-in-Ending c = let a = c.args in due_at a.bytes.now (progress_of a.progress) c.in-Ending.is refl

pub returns-in-Refusing : goal.returns-in-Refusing
returns-in-Refusing c = let a = c.args in due_never a.bytes.now (progress_of a.progress) c.in-Refusing.is
