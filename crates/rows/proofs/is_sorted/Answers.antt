-- `is_sorted` meets its contract.
use mathlib.Core.Path.{sym}
use native.Mathlib.Numerals.{add-one}
use Rattle.std.proofs.Common.{rules, of_calls}
use Rattle.std.proofs.lemmas.Fn.{always_returns_same}
use Rattle.rows.specs.Table.{is_less}
use Rattle.rows.proofs.Adjacent.{adjacent_sorted}
use Rattle.rows.proofs.is_sorted.Goals as goal

pub returns : goal.returns
returns g c =
    let view = g.T.Keyed.seen in
    let answer = c.is_sorted_by.ensures.cases (λ y x. is_less (g.T.Keyed.order (view y) (view x))) (always_returns_same _ _ _ (λ a r f k. search (rules, of_calls))) in
    λ e. adjacent_sorted g.met.T.Keyed.ordered view c.args.rows.now (λ k d h. sym (rw add-one at ((rw e at answer) k d (rw add-one h))))
