-- `Unification::size` meets its contract.
use mathlib.Core.Path.{◌≡◌}
use native.Mathlib.Omega.{arith}
use lib.ListN.{length, length-take}
use Rattle.ids.proofs.Views.{long}
use Rattle.unification.specs.Roots.{max_els}
use borrow.Author.Rules.{rules}
use Rattle.unification.proofs.Unification.size.Goals as goal

pub returns-then-n-lt-MAX_ELS : goal.returns-then-n-lt-MAX_ELS
returns-then-n-lt-MAX_ELS c =
    let u = c.args.self in
    let long : length u.links ≡ max_els = search (rules, long) in
    record { is = omega (arith, length-take u.len u.links); most = omega arith }

pub returns-else-n-lt-MAX_ELS : goal.returns-else-n-lt-MAX_ELS
returns-else-n-lt-MAX_ELS c =
    let u = c.args.self in
    let long : length u.links ≡ max_els = search (rules, long) in
    record { is = omega (arith, length-take u.len u.links); most = omega arith }
