-- `is_over` meets its contract.
use mathlib.Core.Path.{sym, ap}
use borrow.Author.Rules.{rules}
use Rattle.sheet.specs.declared.Stage.{Stage}
use Rattle.pechunaq.specs.Session.{is_over}
use Rattle.pechunaq.proofs.Laws.{never_over}
use Rattle.pechunaq.proofs.is_over.Goals as goal

pub returns-in-Refusing : goal.returns-in-Refusing
returns-in-Refusing c = never_over c.args.stage c.args.count c.in-Refusing.is

pub returns-in-Ending : goal.returns-in-Ending
unfolding is_over
returns-in-Ending c = ap (λ (s : Stage). is_over s c.args.count) (sym c.in-Ending.is)

pub returns-in-Ended : goal.returns-in-Ended
unfolding is_over
returns-in-Ended c = search rules
