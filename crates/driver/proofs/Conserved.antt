-- The conservation rule of what `run` leaves, by the function's own contract (`Learnt`).
use Prim.Native.Nat.{ℕ, zero, suc}
use mathlib.Core.Path.{◌≡◌, refl, sym, ap, ◌∙◌, subst}
use mathlib.Core.List.{List, [], ◌∷◌, ◌++◌}
use mathlib.Core.Option.{Option, none, some}
use mathlib.Core.Bool.{true, false}
use contract.Lifetimes.{Lfts}
use Rattle.unification.specs.Roots.{links_of}
use Rattle.signature.specs.declared.Signature.{Signature}
use Rattle.signature.specs.Model.{sig_of}
use Rattle.semantics.specs.Types.{any_marked}
use Rattle.semantics.specs.Close.{Closed}
use Rattle.semantics.specs.Calls as calls
use Rattle.semantics.specs.Calls.{Call, Totals, Answer, number, says, done, closed, conflicting, summed, found, typed, els, refuse, is_accepted}
use Rattle.semantics.specs.Calls.{Machine, Step, answers, settle_run, sums_of, start, rule, close_rule, settle_rule, acceptance, step, after_calls}
use Rattle.semantics.specs.Sheet.{record_at, carry_out}
use Rattle.semantics.proofs.Cases.{none_some}
use Rattle.semantics.proofs.Judged.{accepted_leaves}
use Rattle.semantics.proofs.Settling.{settle_totals}
use Rattle.structure.specs.declared.Answer as code-answer
use Rattle.structure.specs.declared.Answer.TheVariants as answer
use Rattle.structure.specs.declared.Closed as code
use Rattle.structure.specs.declared.Totals as code-totals
use Rattle.structure.specs.declared.Structure.{Structure}
use Rattle.structure.specs.declared.Stepped.{Stepped}
use Rattle.structure.specs.View.{structure_of, machine_of, closed_of, totals_of, answer_of, step_of}
use Rattle.conflicts.specs.View.{conflicts_of}
use Rattle.close.proofs.close.Reads as close-fn
use Rattle.settle.proofs.settle.Reads as settle-fn
use Rattle.history.specs.Book.{History, history, RanCloses, closes, settles, Conserved, Conservation, next, noted}
use Rattle.history.specs.Settled.{reported_change}
use Rattle.history.proofs.Settled.{by_calls}
use Rattle.history.proofs.Histories.{after_history, history_next}
use Rattle.history.proofs.Conservation.{conservation}
use Rattle.driver.specs.Calls.{list_call_of, whole_records, call_list, calls_before, calls_in, last_answer, list_before}
use Rattle.carrying.specs.View.{CarriedM}
use Rattle.driver.specs.View.{response_of, responded_step}
use Rattle.driver.specs.declared.Response.TheVariants as response
use Rattle.driver.specs.declared.Responded.{Responded}
use Rattle.driver.proofs.run.Reads as run-fn

-- Only a close answers as a close does, and only a settle as a settle does.

-- the call that answers so, where it is one that closes
closing_call : Answer → Option Call
closing_call (closed c) = some calls.close
closing_call (summed t) = some calls.settle
closing_call (number n) = none
closing_call (says b) = none
closing_call done = none
closing_call (conflicting cs n) = none
closing_call (found f) = none
closing_call (typed t) = none
closing_call (els es) = none
closing_call (refuse n) = none

-- an answer that reports no close
no_closing : (a : Answer) → reported_change a ≡ none → closing_call a ≡ none
unfolding reported_change closing_call
no_closing (closed c) e = none_some (sym e)
no_closing (summed t) e = none_some (sym e)
no_closing (number n) e = refl
no_closing (says b) e = refl
no_closing done e = refl
no_closing (conflicting cs n) e = refl
no_closing (found f) e = refl
no_closing (typed t) e = refl
no_closing (els es) e = refl
no_closing (refuse n) e = refl

closing_effect : (k : Call) (m : Machine) (j : Call) → closing_call (rule k m).answer ≡ some j → k ≡ j
closing_effect k m j =
    by_calls (λ k. closing_call (rule k m).answer ≡ some j → k ≡ j) m (λ k n e. none_some (sym (no_closing (rule k m).answer n) ∙ e))
    (unfold rule close_rule closing_call in λ e. cc) (unfold rule settle_rule closing_call in λ e. cc) k

-- an answer of a call that closes is no refusal
closing_accepted : (a : Answer) (j : Call) → closing_call a ≡ some j → is_accepted a ≡ true
unfolding closing_call is_accepted
closing_accepted (closed c) j e = refl
closing_accepted (summed t) j e = refl
closing_accepted (number n) j e = refl
closing_accepted (says b) j e = refl
closing_accepted done j e = refl
closing_accepted (conflicting cs n) j e = refl
closing_accepted (found f) j e = refl
closing_accepted (typed t) j e = refl
closing_accepted (els es) j e = refl
closing_accepted (refuse n) j e = none_some e

closing_call_lem : (k : Call) (m : Machine) (j : Call) → closing_call (step k m).answer ≡ some j → k ≡ j
unfolding acceptance
closing_call_lem k m j e =
    let leaves : step k m ≡ acceptance (rule k m) = (accepted_leaves k m (closing_accepted (step k m).answer j e)).1 in
    closing_effect k m j (ap (λ (s : Step). closing_call s.answer) (sym leaves) ∙ e)

-- a list of calls ends in a close or settle that is accepted, whose closes answered cs
pub record Ends (ks : List Call) (cs : List Closed) : Type 0 where
  pub before : List Call
  pub call : Call
  pub is : ks ≡ before ++ (call ∷ [])
  pub ran : RanCloses (history before).machine call cs

-- where the last record answers as such a call does, the list ends in one
record LastCall (bytes : List ℕ) (n : ℕ) (j : Call) : Type 0 where
  before : List Call
  is : calls_before bytes n ≡ before ++ (j ∷ [])
  answers : (step j (history before).machine).answer ≡ last_answer start bytes n

last_call : (bytes : List ℕ) (n : ℕ) (j : Call) → closing_call (last_answer start bytes n) ≡ some j → LastCall bytes n j
unfolding last_answer calls_before carry_out call_list closing_call
last_call bytes zero j e = none_some e
last_call bytes (suc n) j e =
    go (list_call_of (record_at bytes n)) refl (sym (ap closing_call after) ∙ e)
  where
    after : last_answer start bytes (suc n) ≡ (carry_out (list_call_of (record_at bytes n)) (history (calls_before bytes n)).machine).answer
    after = ap (λ (m : Machine). (carry_out (list_call_of (record_at bytes n)) m).answer) (after_history (calls_before bytes n))

    go : (o : Option Call) → list_call_of (record_at bytes n) ≡ o → closing_call (carry_out o (history (calls_before bytes n)).machine).answer ≡ some j
        → LastCall bytes (suc n) j
    go none q e = none_some e
    go (some k) q e =
        let is-j : k ≡ j = closing_call_lem k (history (calls_before bytes n)).machine j e in
        record {
          before = calls_before bytes n;
          is = ap (λ (x : Option Call). calls_before bytes n ++ call_list x) (q ∙ ap some is-j);
          answers = sym (after ∙ ap (λ (x : Option Call). (carry_out x (history (calls_before bytes n)).machine).answer) (q ∙ ap some is-j));
        }

pub ends_closed : (bytes : List ℕ) (n : ℕ) (c : Closed) → last_answer start bytes n ≡ closed c → Ends (calls_before bytes n) (c ∷ [])
unfolding closing_call
ends_closed bytes n c e =
    let l = last_call bytes n calls.close (ap closing_call e) in
    record { before = l.before; call = calls.close; is = l.is; ran = closes (l.answers ∙ e) }

pub ends_settled : (bytes : List ℕ) (n : ℕ) (t : Totals) → last_answer start bytes n ≡ summed t
    → (cs : List Closed) × Ends (calls_before bytes n) cs × (t ≡ sums_of cs)
unfolding closing_call
ends_settled bytes n t e =
    let l = last_call bytes n calls.settle (ap closing_call e) in
    let m = (history l.before).machine in
    ((settle_run m.sig m.structure).reports, record { before = l.before; call = calls.settle; is = l.is; ran = settles (l.answers ∙ e) }, settle_totals m t (l.answers ∙ e))

-- `run` asks nothing of the bytes
pub run_asked : (κs : Lfts 1) (bytes : _) → run-fn.Asked κs (bytes, tt)
run_asked κs bytes = tt

module _ (κs : Lfts 1) (bytes : _) (r : Responded) (ran : run-fn.Learnt κs (bytes, tt) r (bytes, tt)) where
  stepped : responded_step r ≡ answers (last_answer start bytes.now (whole_records bytes.now)) (history (calls_in bytes.now)).machine
  unfolding list_before
  stepped =
      ap (λ (x : CarriedM). x.step) ran
      ∙ ap (answers (last_answer start bytes.now (whole_records bytes.now))) (after_history (calls_in bytes.now))

  -- what `run` leaves is what the calls of the list leave
  pub run_leaves : machine_of r.machine ≡ after_calls (calls_in bytes.now) start
  run_leaves = ap (λ (s : Step). s.after) stepped ∙ sym (after_history (calls_in bytes.now))

  -- For every slice of bytes whose calls end in a close or settle that is accepted, with no element marked up to then: what `Conserved` says of the
  -- book of these calls, of the links of the machine that `run` hands back, and of the answers of the closes that the last call ran.
  pub run_conserves : (cs : List Closed) → Ends (calls_in bytes.now) cs → any_marked (history (calls_in bytes.now)).book.marks ≡ false
      → Conserved (history (calls_in bytes.now)).book (links_of r.machine.structure.unification) cs
  unfolding Conservation
  run_conserves cs e unmarked =
      let ks = calls_in bytes.now in
      let whole : Conserved (history ks).book (history ks).machine.structure.links cs =
      subst (λ (l : List Call). Conserved (history l).book (history l).machine.structure.links cs) (sym e.is)
      (conservation e.before e.call cs e.ran (subst (λ (l : List Call). any_marked (history l).book.marks ≡ false) e.is unmarked)) in
      subst (λ (l : List ℕ). Conserved (history ks).book l cs) (ap (λ (s : Step). s.after.structure.links) (sym stepped)) whole

  -- what `run` answers is the last answer
  answered : {a : code-answer.Answer} → r.response ≡ response.Answered a → last_answer start bytes.now (whole_records bytes.now) ≡ answer_of (conflicts_of r.conflicts) a
  answered e = ap (λ (s : Step). s.answer) (sym stepped) ∙ ap (response_of (conflicts_of r.conflicts)) e

  -- The same by what `run` answers: that the last record was an accepted close or settle.

  pub run_closed_conserves : (c : code.Closed) → r.response ≡ response.Answered (answer.Closed c)
      → any_marked (history (calls_in bytes.now)).book.marks ≡ false
      → Conserved (history (calls_in bytes.now)).book (links_of r.machine.structure.unification) (closed_of c ∷ [])
  run_closed_conserves c e = run_conserves (closed_of c ∷ []) (ends_closed bytes.now (whole_records bytes.now) (closed_of c) (answered e))

  pub run_settled_conserves : (t : code-totals.Totals) → r.response ≡ response.Answered (answer.Summed t)
      → any_marked (history (calls_in bytes.now)).book.marks ≡ false
      → (cs : List Closed) × Ends (calls_in bytes.now) cs × (totals_of t ≡ sums_of cs)
      × Conserved (history (calls_in bytes.now)).book (links_of r.machine.structure.unification) cs
  run_settled_conserves t e unmarked =
      let s = ends_settled bytes.now (whole_records bytes.now) (totals_of t) (answered e) in
      (s.0, s.1, s.2, run_conserves s.0 s.1 unmarked)

  -- The same of a close or settle of the machine that `run` hands back, by that function's own contract.

  then_conserves : (k : Call) (cs : List Closed) (z : Stepped) → step_of (sig_of r.machine.signature) z ≡ step k (machine_of r.machine)
      → RanCloses (machine_of r.machine) k cs → any_marked (history (calls_in bytes.now ++ (k ∷ []))).book.marks ≡ false
      → Conserved (history (calls_in bytes.now ++ (k ∷ []))).book (links_of z.structure.unification) cs
  unfolding Conservation next noted
  then_conserves k cs z did ran unmarked =
      let ks = calls_in bytes.now in
      let was : machine_of r.machine ≡ (history ks).machine = ap (λ (s : Step). s.after) stepped in
      let links : (history (ks ++ (k ∷ []))).machine.structure.links ≡ links_of z.structure.unification =
      ap (λ (h : History). h.machine.structure.links) (history_next ks k)
      ∙ ap (λ (s : Step). s.after.structure.links) (sym (did ∙ ap (step k) was)) in
      subst (λ (l : List ℕ). Conserved (history (ks ++ (k ∷ []))).book l cs) links
      (conservation ks k cs (subst (λ (m : Machine). RanCloses m k cs) was ran) unmarked)

  abbrev pub given : Structure × (Signature × Unit {0})
  given = (r.machine.structure, (r.machine.signature, tt))

  pub run_then_close_conserves : (z : Stepped) (c : Closed) → close-fn.Learnt tt given z given → answer_of [] z.answer ≡ closed c
      → any_marked (history (calls_in bytes.now ++ (calls.close ∷ []))).book.marks ≡ false
      → Conserved (history (calls_in bytes.now ++ (calls.close ∷ []))).book (links_of z.structure.unification) (c ∷ [])
  run_then_close_conserves z c did ok = then_conserves calls.close (c ∷ []) z did.0 (closes (ap (λ (s : Step). s.answer) (sym did.0) ∙ ok))

  pub run_then_settle_conserves : (z : Stepped) (t : Totals) → settle-fn.Learnt tt given z given → answer_of [] z.answer ≡ summed t
      → any_marked (history (calls_in bytes.now ++ (calls.settle ∷ []))).book.marks ≡ false
      → Conserved (history (calls_in bytes.now ++ (calls.settle ∷ []))).book (links_of z.structure.unification)
      (settle_run (sig_of r.machine.signature) (structure_of r.machine.structure)).reports
  run_then_settle_conserves z t did ok = then_conserves calls.settle _ z did (settles (ap (λ (s : Step). s.answer) (sym did) ∙ ok))
