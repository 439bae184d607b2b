-- `from` meets its contract.
use mathlib.Core.Path.{◌≡◌, ap, ◌∙◌}
use mathlib.Core.List.{List}
use Prim.Native.Nat.{ℕ}
use borrow.Author.Rules.{rules}
use Rattle.semantics.specs.Sheet.{bit}
use Rattle.pechunaq.specs.Session.{ReplyM, reply, numbers_of}
use Rattle.pechunaq.proofs.Laws.{by_answer}
use Rattle.pechunaq.proofs.ReplyFromCarried.from.Goals as goal
use Rattle.pechunaq.proofs.ReplyFromCarried.from.Goals.{in-Done, in-Number, in-Says, in-Closed, in-Conflicting, in-Summed, in-Refused}

abbrev of : ℕ × List ℕ → ReplyM
of p = record { kind = p.0; numbers = p.1 }

pub returns : goal.returns
unfolding numbers_of bit
returns c =
    let k = c.args.carried in
    elim c.match-carried.branch [
      | in-Done w ↦ by_answer k w.in-Done.is (ap of w.kind-is)
      | in-Number w ↦ by_answer k w.in-Number.is (ap of w.kind-is ∙ ap (λ (n : ℕ). reply 1 n 0 0 0) w.from.ensures)
      | in-Says w ↦
          let said : w.from-in-Says.result ≡ bit w.in-Says.b = search rules in
          by_answer k w.in-Says.is (ap of w.kind-is ∙ ap (λ (n : ℕ). reply 2 n 0 0 0) said)
      | in-Closed w ↦
          let changed : w.from-in-Closed.result ≡ bit w.in-Closed.c.changed = search rules in
          by_answer k w.in-Closed.is (ap of w.kind-is ∙ ap (λ (n : ℕ). reply 3 n w.in-Closed.c.merges w.in-Closed.c.rounds w.in-Closed.c.added) changed)
      | in-Conflicting w ↦ by_answer k w.in-Conflicting.is (ap of w.kind-is ∙ (λ i. reply 4 (w.size.ensures.is i) (w.from-in-Conflicting.ensures i) 0 0))
      | in-Summed w ↦ by_answer k w.in-Summed.is (ap of w.kind-is)
      | in-Refused w ↦ by_answer k w.in-Refused.is (ap of w.kind-is ∙ ap (λ (n : ℕ). reply 6 n 0 0 0) w.from-in-Refused.ensures)
    ]
