use Prim.Native.Nat.{suc, ◌-◌, ◌*◌, ◌≤◌}
use lib.ListN.{length}
use Rattle.signature.specs.Model.{sig_of}
use Rattle.semantics.specs.Calls.{settle_run}
use Rattle.structure.specs.View.{structure_of, totals_of}
use Rattle.rounds.specs.View.{one_close}
use Rattle.settle.proofs.Laws.{Going}
use Rattle.settle.proofs.settle_run.Given as goal

abbrev pub invariant-loop-i : goal.invariant-loop-i
invariant-loop-i l = Going (sig_of l.signature) (settle_run (sig_of l.signature) (structure_of l.initial.now)) (suc (length (structure_of l.initial.now).links)) (structure_of l.now) l.again (totals_of l.totals) l.i
    × (l.totals.merges ≤ l.i * one_close)

abbrev pub decreases-loop-i : goal.decreases-loop-i
decreases-loop-i l = l.most - l.i
