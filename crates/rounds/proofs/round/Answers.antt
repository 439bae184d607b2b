-- `round` meets its contract.
use mathlib.Core.Bool.{◌||◌}
use mathlib.Core.List.{map}
use native.Mathlib.Omega.{arith}
use lib.Dec.{ltb}
use Rattle.signature.specs.Model.{sig_of}
use Rattle.apps.specs.View.{pred_app_of}
use Rattle.rounds.proofs.Passes.{typed_holds, round_is}
use Rattle.merging.specs.View.{lent}
use Rattle.rounds.proofs.round.Goals as goal

pub drain_equalities-drained-requires : goal.drain_equalities-drained-requires
drain_equalities-drained-requires c =
    (c.requires.0, omega (arith, c.requires.1.0))

pub functionality-rewritten-requires : goal.functionality-rewritten-requires
functionality-rewritten-requires c =
    let pre = c.requires in
    (rw c.drain_equalities-drained.ensures.kept pre.1.1.0.0, (pre.1.1.0.1, pre.0.pairs_held.long))

pub morphism_operation_constraints-requires : goal.morphism_operation_constraints-requires
morphism_operation_constraints-requires c =
    let a = c.args in
    typed_holds (sig_of a.signature) (map pred_app_of a.preds.now) {before = lent a.els.now a.facts.now a.pairs.now a.counts}
    c.drain_equalities-drained.ensures c.functionality-rewritten.ensures c.typing-typed.ensures _

pub returns : goal.returns
returns c =
    let a = c.args in
    round_is (sig_of a.signature) (map pred_app_of a.preds.now) c.drain_equalities-drained.ensures c.functionality-rewritten.ensures c.typing-typed.ensures
    c.morphism_operation_constraints.ensures
    (λ i. (ltb a.counts.merges c.drain_equalities-drained.result.merges || ltb 0 c.functionality-rewritten.result.pairs) || c.grew-late.ensures i)
