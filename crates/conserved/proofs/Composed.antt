-- The conservation rule for the code's own values.
use mathlib.Core.Path.{◌≡◌, refl, sym, ap, ◌∙◌, subst}
use mathlib.Core.List.{List, [], ◌∷◌, ◌++◌}
use mathlib.Core.Bool.{true, false}
use Rattle.ids.specs.Answers.{Answered}
use Rattle.ids.specs.Ids.{given_els, Handed}
use Rattle.unification.specs.Roots.{links_of}
use Rattle.signature.specs.Model.{sig_of}
use Rattle.signature.specs.Calls.{TypedM}
use Rattle.semantics.specs.Types.{any_marked}
use Rattle.semantics.specs.Close.{Closed}
use Rattle.semantics.specs.Calls as calls
use Rattle.semantics.specs.Calls.{Call, Totals, Answer, closed, summed, is_accepted, merges_of, settle_run, machine, Step, answers, step}
use Rattle.semantics.proofs.Judged.{looked_up, lookup_steps}
use Rattle.structure.specs.declared.Machine.{Machine}
use Rattle.structure.specs.View.{structure_of, machine_of, Looking}
use Rattle.history.specs.Book.{Book, blank, History, reached, noted, next, run, history, begin, fed}
use Rattle.history.specs.Book.{RanCloses, closes, settles, Conserved, Conservation}
use Rattle.validity.proofs.Calls.{ValidMachine}
use Rattle.history.proofs.Settling.{SettleEnds, settle_ends}
use Rattle.history.proofs.Histories.{history_valid, history_goes_on}
use Rattle.history.proofs.Conservation.{conservation}
use Rattle.conserved.specs.Run.{Made, push_type, push_pred, push_func, push_model, push_mor_app_func, push_el}
use Rattle.conserved.specs.Run.{equate, impose_type, insert_func_app_or_equate, insert_pred_app, insert_var_el}
use Rattle.conserved.specs.Run.{insert_ambient_model_el, close, type_conflicts, settle, root, root_const, lookup_type, ambient_parents, Run}
use Rattle.conserved.specs.Run.{none, more, Fresh}

-- a call that was made is a step of the definitions
pub made_step : {v w : Machine} {k : Call} {a : Answer} → Made v k a w → answers a (machine_of w) ≡ step k (machine_of v)
made_step (push_type t r e) = e
made_step (push_pred p r e) = e
made_step (push_func f r e) = e
made_step (push_model m r e) = e
made_step (push_mor_app_func m r e) = e
made_step {v} (push_el mark r e) = e (sig_of v.signature)
made_step {v} (equate x y r e) = e (sig_of v.signature)
made_step (impose_type f r e) = e
made_step (insert_func_app_or_equate x r e) = e
made_step (insert_pred_app x r e) = e
made_step {v} (insert_var_el x r e) = e (sig_of v.signature)
made_step (insert_ambient_model_el x r e) = e
made_step (close r e) = e.0
made_step {v} (type_conflicts r e) = ap (λ (h : Handed Step). h.given) (e (sig_of v.signature))
made_step (settle r e) = e
made_step {v} (root x r e) = e (sig_of v.signature)
made_step {v} (root_const x r e) = e (sig_of v.signature)
made_step {v} (lookup_type t ps r e) = ap (λ (x : Answered TypedM). answers (looked_up (given_els ps) x) (machine_of v)) e ∙ lookup_steps (machine_of v) t.0 (given_els ps)
made_step (ambient_parents ts r e) = ap (λ (l : Looking). l.step) e

-- where a list of calls has come to
abbrev come : Machine → Book → History
come v b = reached (machine_of v) b

made_next : {v w : Machine} {k : Call} {a : Answer} (b : Book) → Made v k a w → come w (fed k (is_accepted a) (merges_of a) b) ≡ next k (come v b)
unfolding next noted
made_next {k = k} b m = ap (λ (s : Step). noted k s b) (made_step m)

-- the definitions come to the same
pub run_comes : {v z : Machine} {b d : Book} {ks : List Call} → Run v b ks z d → come z d ≡ run ks (come v b)
unfolding run
run_comes none = refl
run_comes {b = b} {ks = k ∷ ks} (more m r) = run_comes r ∙ ap (run ks) (made_next b m)

pub run_history : {v z : Machine} {d : Book} {ks : List Call} → Fresh v → Run v blank ks z d → come z d ≡ history ks
unfolding history begin calls.start
run_history {ks = ks} f r = run_comes r ∙ ap (λ (m : calls.Machine). run ks (reached m blank)) (λ i. machine (f.sig i) (f.str i))

-- an accepted close, and an accepted settle, ran closes
module _ {w z : Machine} where
  pub close_ran : {c : Closed} → Made w calls.close (closed c) z → RanCloses (machine_of w) calls.close (c ∷ [])
  close_ran m = closes (sym (ap (λ (s : Step). s.answer) (made_step m)))

  pub settle_ran : {t : Totals} → Made w calls.settle (summed t) z
      → RanCloses (machine_of w) calls.settle (settle_run (sig_of w.signature) (structure_of w.structure)).reports
  settle_ran m = settles (sym (ap (λ (s : Step). s.answer) (made_step m)))

-- For every list of calls that the code makes from fresh values, and every close or settle after it that is accepted, with no element marked up to
-- then: what `Conserved` says of the book, of the links of the structure that this call hands back, and of the answers of the closes that it ran.
pub code_conserves : {v w z : Machine} {d : Book} {before : List Call} {k : Call} {a : Answer} {cs : List Closed} → Fresh v → Run v blank before w d
    → Made w k a z → RanCloses (machine_of w) k cs → any_marked (fed k (is_accepted a) (merges_of a) d).marks ≡ false
    → Conserved (fed k (is_accepted a) (merges_of a) d) (links_of z.structure.unification) cs
unfolding run Conservation
code_conserves {w = w} {z = z} {d = d} {before = before} {k = k} {a = a} {cs = cs} f r m ran unmarked =
    let was : come w d ≡ history before = run_history f r in
    let comes : come z (fed k (is_accepted a) (merges_of a) d) ≡ history (before ++ (k ∷ [])) =
    made_next d m ∙ ap (next k) was ∙ sym (history_goes_on before (k ∷ [])) in
    subst (λ (h : History). Conserved h.book h.machine.structure.links cs) (sym comes)
    (conservation before k cs (subst (λ (h : History). RanCloses h.machine k cs) was ran)
    (ap (λ (h : History). any_marked h.book.marks) (sym comes) ∙ unmarked))

-- For every list of calls that the code makes from fresh values, marks or not, and every settle after it that is accepted: it ran at most one close
-- more than there are elements, its last close reported no change, and the structure that it hands back is settled.
pub code_settles : {v w z : Machine} {d : Book} {before : List Call} {t : Totals} → Fresh v → Run v blank before w d
    → Made w calls.settle (summed t) z → SettleEnds (machine_of w) t × ((structure_of z.structure).settled ≡ true)
code_settles {w = w} {before = before} {t = t} f r m =
    let valid = subst (λ (h : History). ValidMachine h.machine) (sym (run_history f r)) (history_valid before).valid in
    let ends = settle_ends (machine_of w) valid t (sym (ap (λ (s : Step). s.answer) (made_step m))) in
    (ends, ap (λ (s : Step). s.after.structure.settled) (made_step m) ∙ ends.settled)
