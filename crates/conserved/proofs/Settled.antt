-- The question whether the structure is settled (02, M-101), for the code's own values.
use mathlib.Core.Path.{◌≡◌, refl, sym, ap, ◌∙◌}
use mathlib.Core.Bool.{Bool, true}
use mathlib.Core.List.{List, [], ◌∷◌}
use Rattle.semantics.specs.Calls as calls
use Rattle.semantics.specs.Calls.{Call, Answer, closed, summed, totals, Step, start, after_calls}
use Rattle.structure.specs.declared.Machine.{Machine}
use Rattle.structure.specs.View.{machine_of}
use Rattle.structure.proofs.Structure.is_settled.Reads as is-settled-fn
use Rattle.history.specs.Book.{Book, blank, History}
use Rattle.history.specs.Settled.{Event, event, trace, settled_after}
use Rattle.history.proofs.Histories.{after_history}
use Rattle.history.proofs.SecondClose.{no_change}
use Rattle.history.proofs.Settled.{settled_is, settled_closes_at}
use Rattle.conserved.specs.Run.{Made, Run, none, more, events_of, Fresh}
use Rattle.conserved.proofs.Composed.{made_step, run_history}

-- the definitions answer the same
run_trace : {v z : Machine} {b d : Book} {ks : List Call} (r : Run v b ks z d) (es : List Event) → trace ks (machine_of v) es ≡ events_of r es
unfolding trace events_of
run_trace none es = refl
run_trace {ks = k ∷ ks} (more {a = a} m r) es =
    ap (λ (s : Step). trace ks s.after (event k s.answer ∷ es)) (sym (made_step m)) ∙ run_trace r (event k a ∷ es)

-- `is_settled` of these values answers a
abbrev pub SaysSettled : Machine → Bool → Type 0
SaysSettled z a = is-settled-fn.Learnt tt (z.structure, tt) a (z.structure, tt)

-- Every list of calls that the code makes from fresh values, refused ones included, marks or not.
module _ {v z : Machine} {d : Book} {ks : List Call} (f : Fresh v) (r : Run v blank ks z d) where
  comes : after_calls ks start ≡ machine_of z
  comes = after_history ks ∙ sym (ap (λ (h : History). h.machine) (run_history f r))

  -- "yes exactly when the latest accepted close reported no change and no equality, imposition or application accepted since was answered with yes"
  pub code_settled : (a : Bool) → SaysSettled z a → a ≡ settled_after (events_of r [])
  unfolding start
  code_settled a says =
      says
      ∙ ap (λ (m : calls.Machine). m.structure.settled) (sym comes)
      ∙ settled_is ks
      ∙ ap (λ (m : calls.Machine). settled_after (trace ks m [])) (sym (λ i. calls.machine (f.sig i) (f.str i)))
      ∙ ap settled_after (run_trace r [])

  -- "the next close then reports no change": it is accepted, with no merge and in one round
  pub code_settled_closes : SaysSettled z true → {a : Answer} {w : Machine} → Made z calls.close a w → a ≡ closed no_change
  code_settled_closes says m = ap (λ (s : Step). s.answer) (made_step m) ∙ (settled_closes_at ks (machine_of z) comes (sym says)).closes

  -- and a settle runs this one close
  pub code_settled_settles : SaysSettled z true → {a : Answer} {w : Machine} → Made z calls.settle a w → a ≡ summed (totals 1 0)
  code_settled_settles says m = ap (λ (s : Step). s.answer) (made_step m) ∙ (settled_closes_at ks (machine_of z) comes (sym says)).settles
