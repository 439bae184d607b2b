-- `is_on_root` meets its contract.
use mathlib.Core.Path.{sym, ap, ◌∙◌}
use native.Mathlib.Omega.{arith}
use lib.ListN.{length}
use lib.Dec.{leb}
use Rattle.std.proofs.lemmas.List.{get_or_default}
use borrow.Author.Tests.{ltb-true, ltb-false}
use Rattle.validating.proofs.Searching.{root_told, root_past}
use Rattle.validating.proofs.is_on_root.Goals as goal

pub returns-in-Some : goal.returns-in-Some
returns-in-Some c =
    let links = c.args.links.now in
    let el = c.args.fact.el.0 in
    let there = ltb-true el (length links) (sym c.in-Some.ensures.lookup.0) in
    ap (leb el) (c.in-Some.ensures.lookup.1 ∙ get_or_default links el c.in-Some.link.now el there) ∙ root_told links el

pub returns-in-None : goal.returns-in-None
returns-in-None c = root_past c.args.links.now c.args.fact.el.0 (omega (arith, c.in-None.ensures.lookup, ltb-false))
