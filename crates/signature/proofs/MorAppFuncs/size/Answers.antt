-- `MorAppFuncs::size` meets its contract.
use Rattle.ids.proofs.Views.{long}
use Rattle.signature.specs.Model.{max_mor_apps, mor_app_of}
use Rattle.ids.proofs.Counted.{size_below, size_over}
use borrow.Author.Rules.{rules}
use Rattle.signature.proofs.MorAppFuncs.size.Goals as goal

pub returns-then-n-lt-MAX_MOR_APPS : goal.returns-then-n-lt-MAX_MOR_APPS
returns-then-n-lt-MAX_MOR_APPS c =
    let t = c.args.self in
    size_below mor_app_of t.len t.items max_mor_apps (search (rules, long)) c.if-n-lt-MAX_MOR_APPS.true

pub returns-else-n-lt-MAX_MOR_APPS : goal.returns-else-n-lt-MAX_MOR_APPS
returns-else-n-lt-MAX_MOR_APPS c =
    let t = c.args.self in
    size_over mor_app_of t.len t.items max_mor_apps (search (rules, long)) c.if-n-lt-MAX_MOR_APPS.false
