-- `TypeIds::size` meets its contract.
use mathlib.Core.Path.{◌≡◌}
use native.Mathlib.Omega.{arith}
use lib.ListN.{length}
use Rattle.ids.specs.Limits.{max_list}
use Rattle.ids.specs.Ids.{type_of}
use Rattle.ids.proofs.Views.{length_view, long}
use borrow.Author.Rules.{rules}
use Rattle.ids.proofs.TypeIds.size.Goals as goal

pub returns-then-n-lt-MAX_LEN : goal.returns-then-n-lt-MAX_LEN
returns-then-n-lt-MAX_LEN c =
    let l = c.args.self in
    let long : length l.ids ≡ max_list = search (rules, long) in
    record { is = omega (arith, length_view type_of l.len l.ids); most = omega arith }

pub returns-else-n-lt-MAX_LEN : goal.returns-else-n-lt-MAX_LEN
returns-else-n-lt-MAX_LEN c =
    let l = c.args.self in
    let long : length l.ids ≡ max_list = search (rules, long) in
    record { is = omega (arith, length_view type_of l.len l.ids); most = omega arith }
