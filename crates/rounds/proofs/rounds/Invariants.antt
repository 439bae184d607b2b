use mathlib.Core.List.{map}
use Rattle.signature.specs.Model.{sig_of}
use Rattle.apps.specs.View.{pred_app_of}
use Rattle.merging.specs.View.{lent}
use Rattle.rounds.proofs.Laws.{RoundsSoFar}
use Rattle.rounds.proofs.rounds.Given as goal

abbrev pub invariant-loop-ran : goal.invariant-loop-ran
invariant-loop-ran l =
    RoundsSoFar (sig_of l.signature) (map pred_app_of l.preds) (lent l.initial.els l.initial.facts l.initial.pairs l.initial.now) l.initial.apps
    (lent l.els l.facts l.pairs l.now) l.apps l.again l.ran
