-- `place` meets its contract.
use mathlib.Core.Path.{sym}
use native.Mathlib.Omega.{arith}
use lib.ListN.{get_or-eq_default}
use Rattle.ids.specs.Ids.{el_of, els_of}
use Rattle.ids.proofs.Views.{view_at}
use Rattle.storing.proofs.place.Goals as goal

pub returns-then-size-j : goal.returns-then-size-j
returns-then-size-j c =
    sym (get_or-eq_default (els_of c.args.list) 0 (omega (arith, c.size.ensures.is, c.if-size-j.true)))

pub returns : goal.returns
returns c =
    let a = c.args in
    sym (view_at el_of a.list.len a.list.ids a.j record { 0 = 0 } (omega (arith, c.size.ensures.is, c.if-size-j.false)))
