-- `ElIds::clamped` meets its contract.
use mathlib.Core.Path.{◌≡◌}
use native.Mathlib.Omega.{arith}
use lib.ListN.{length}
use Rattle.ids.specs.Limits.{max_list}
use Rattle.ids.specs.Ids.{el_of}
use Rattle.ids.proofs.Views.{long, view_clamped}
use Rattle.ids.proofs.Lists.{handed}
use borrow.Author.Rules.{rules}
use Rattle.ids.proofs.ElIds.clamped.Goals as goal

pub returns : goal.returns
returns c =
    let l = c.args.self in
    let n = c.size-n.ensures in
    let long : length l.ids ≡ max_list = search (rules, long) in
    handed 0 el_of c.size-n.result l.ids (omega (arith, n.most)) (view_clamped el_of l.len c.size-n.result l.ids n.is)
