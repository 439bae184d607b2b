use Prim.Native.Nat.{◌-◌}
use Rattle.semantics.specs.Types.{drain_pairs}
use Rattle.merging.specs.View.{lent, pairs_in, Toward}
use Rattle.merging.proofs.drain_equalities.Given as goal

abbrev pub invariant-loop-i : goal.invariant-loop-i
invariant-loop-i l =
    let n = l.fn.counts.pairs in
    Toward (lent l.initial.els l.initial.facts l.pairs l.initial.now) (lent l.els l.facts l.pairs l.now) (n - l.i) (drain_pairs (pairs_in l.i l.pairs)) (drain_pairs (pairs_in n l.pairs))
