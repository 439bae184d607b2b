-- `Record::is_within` meets its contract.
use mathlib.Core.Path.{◌≡◌, ◌∙◌}
use mathlib.Core.Bool.{◌&&◌}
use lib.Dec.{eqb, leb}
use lib.ListN.{length, get_or}
use borrow.Author.Rules.{rules}
use Rattle.records.specs.View.{within}
use Rattle.records.proofs.Laws.{pair_tests, pair_clear}
use Rattle.records.proofs.Record.is_within.Goals as goal

pub returns : goal.returns
unfolding within
returns c =
    let r = c.args.self in
    let two : length r.rest ≡ 2 = search rules in
    let clear = pair_tests (eqb (get_or r.rest 0 0) 0) (eqb (get_or r.rest 1 0) 0) ∙ pair_clear r.rest two in
    λ i. (leb r.a c.args.a && leb r.b c.args.b) && ((c.list_fits.ensures i && c.list_fits-2.ensures i) && clear i)
