-- `FuncApps::size` meets its contract.
use Rattle.ids.proofs.Views.{long}
use Rattle.ids.proofs.Counted.{size_below, size_over}
use Rattle.semantics.specs.Structure.{max_func_apps}
use Rattle.apps.specs.View.{func_app_of}
use borrow.Author.Rules.{rules}
use Rattle.apps.proofs.FuncApps.size.Goals as goal

pub returns-then-n-lt-MAX_LEN : goal.returns-then-n-lt-MAX_LEN
returns-then-n-lt-MAX_LEN c = size_below func_app_of _ _ max_func_apps (search (rules, long)) c.if-n-lt-MAX_LEN.true

pub returns-else-n-lt-MAX_LEN : goal.returns-else-n-lt-MAX_LEN
returns-else-n-lt-MAX_LEN c = size_over func_app_of _ _ max_func_apps (search (rules, long)) c.if-n-lt-MAX_LEN.false
