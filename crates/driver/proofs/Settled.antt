-- The question whether the machine that `run` hands back is settled (02, M-101), by the functions' own contracts (`Learnt`).
use mathlib.Core.Path.{◌≡◌, sym, ap, ◌∙◌}
use mathlib.Core.Bool.{Bool, true}
use mathlib.Core.List.{[]}
use contract.Lifetimes.{Lfts}
use Rattle.semantics.specs.Calls.{closed, summed, totals, Machine, Step, start}
use Rattle.structure.specs.declared.Stepped.{Stepped}
use Rattle.structure.specs.View.{machine_of, answer_of}
use Rattle.structure.proofs.Structure.is_settled.Reads as is-settled-fn
use Rattle.close.proofs.close.Reads as close-fn
use Rattle.settle.proofs.settle.Reads as settle-fn
use Rattle.history.specs.Settled.{trace, settled_after}
use Rattle.history.proofs.SecondClose.{no_change}
use Rattle.history.proofs.Settled.{NothingToClose, settled_is, settled_closes_at}
use Rattle.driver.specs.Calls.{calls_in}
use Rattle.driver.specs.declared.Responded.{Responded}
use Rattle.driver.proofs.run.Reads as run-fn
use Rattle.driver.proofs.Conserved.{run_leaves, given}

-- For every slice of bytes, whatever its calls, marks or not.
module _ (κs : Lfts 1) (bytes : _) (r : Responded) (ran : run-fn.Learnt κs (bytes, tt) r (bytes, tt)) where
  -- `is_settled` of it answers a
  abbrev pub SaysSettledAfter : Bool → Type 0
  SaysSettledAfter a = is-settled-fn.Learnt tt (r.machine.structure, tt) a (r.machine.structure, tt)

  pub run_then_asked : (a : Bool) → SaysSettledAfter a → a ≡ settled_after (trace (calls_in bytes.now) start [])
  run_then_asked a says = says ∙ ap (λ (m : Machine). m.structure.settled) (run_leaves κs bytes r ran) ∙ settled_is (calls_in bytes.now)

  -- where it says yes, a close of it reports no change, and a settle runs one close

  nothing : SaysSettledAfter true → NothingToClose (machine_of r.machine)
  nothing says = settled_closes_at (calls_in bytes.now) (machine_of r.machine) (sym (run_leaves κs bytes r ran)) (sym says)

  pub run_then_close_unchanged : SaysSettledAfter true → (z : Stepped) → close-fn.Learnt tt (given κs bytes r ran) z (given κs bytes r ran) → answer_of [] z.answer ≡ closed no_change
  run_then_close_unchanged says z did = ap (λ (s : Step). s.answer) did.0 ∙ (nothing says).closes

  pub run_then_settle_unchanged : SaysSettledAfter true → (z : Stepped) → settle-fn.Learnt tt (given κs bytes r ran) z (given κs bytes r ran)
      → answer_of [] z.answer ≡ summed (totals 1 0)
  run_then_settle_unchanged says z did = ap (λ (s : Step). s.answer) did ∙ (nothing says).settles
