-- Lists of calls as bytes, one that ends in a close and one that ends in a settle, for which each hypothesis of `run_conserves` holds, computed: the
-- example of oracle/FORMAT.md with a record that is no call, a find, a refused find and bytes that are no whole record. After the second `is_settled`
-- answers yes.
use Prim.Native.Nat.{ℕ, zero, suc}
use mathlib.Core.Path.{◌≡◌, refl, subst, sym, ap, ◌∙◌}
use mathlib.Core.Bool.{true, false}
use mathlib.Core.List.{List, [], ◌∷◌, ◌++◌}
use contract.Lifetimes.{Lfts}
use Rattle.ids.specs.Ids.{padded}
use Rattle.unification.specs.Roots.{links_of}
use Rattle.semantics.specs.Types.{any_marked}
use Rattle.semantics.specs.Close.{Closed, report}
use Rattle.semantics.specs.Calls.{Call, push_el, equate_els, root, close, settle, totals, Answer, closed, summed, is_accepted, merges_of, Machine, start, after_calls}
use Rattle.semantics.proofs.Computes.{everything}
use Rattle.history.specs.Book as book
use Rattle.history.specs.Book.{history, closes, settles, Conserved}
use Rattle.driver.specs.Calls.{root_kind, call_at, call_list, calls_before, calls_in, last_answer, list_before, run_list}
use Rattle.driver.specs.declared.Responded.{Responded}
use Rattle.driver.proofs.run.Reads as run-fn
use Rattle.driver.proofs.Conserved.{Ends, run_leaves, run_conserves}
use Rattle.driver.proofs.Settled.{SaysSettledAfter}

unfoldable pub zeros : ℕ → List ℕ
zeros zero = []
zeros (suc n) = 0 ∷ zeros n

-- a record with its kind, A and B, in front of others
abbrev recorded : ℕ → ℕ → ℕ → List ℕ → List ℕ
recorded kind a b rest = 0 ∷ 0 ∷ kind ∷ 0 ∷ a ∷ 0 ∷ b ∷ 0 ∷ (zeros 24 ++ rest)

-- two elements; a kind that there is none of; the equality of both; the root of 1; that of 9, which is no element; a record of the kind that is
-- given; three bytes
unfoldable pub worked : ℕ → List ℕ
worked kind =
    recorded 6 0 0
    (recorded 6 0 0
    (recorded 0 0 0
    (recorded 7 0 1
    (recorded root_kind 1 0
    (recorded root_kind 9 0
    (recorded kind 0 0 (1 ∷ 2 ∷ 3 ∷ [])))))))

-- the definitions that a list of bytes computes with
computed : ℕ
unfolding everything any_marked is_accepted merges_of worked zeros call_at call_list calls_before last_answer list_before padded book.blank book.taken book.fed book.noted book.next book.run book.begin book.history
computed = 0

-- the calls before the last
abbrev pub first : List Call
first = push_el false ∷ push_el false ∷ equate_els 0 1 ∷ root 1 ∷ root 9 ∷ []

-- the list with a record of some kind at its end: the call that this is, what it answers, and the answers of the closes that it runs
pub record Worked (kind : ℕ) (k : Call) (a : Answer) (cs : List Closed) : Type 0 where
  pub calls : calls_in (worked kind) ≡ first ++ (k ∷ [])
  pub answers : (run_list (worked kind)).answer ≡ a
  pub links : (run_list (worked kind)).after.structure.links ≡ 0 ∷ 0 ∷ []
  pub ends : Ends (calls_in (worked kind)) cs
  pub unmarked : any_marked (history (calls_in (worked kind))).book.marks ≡ false

-- a close: "close 1 1 2 0"
pub with_close : Worked 13 close (closed (report true 1 2 0)) (report true 1 2 0 ∷ [])
unfolding computed
with_close = record {
  calls = refl;
  answers = refl;
  links = refl;
  ends = record { before = first; call = close; is = refl; ran = closes refl };
  unmarked = refl;
}

-- a settle: "settle 2 1", whose closes are "close 1 1 2 0" and "close 0 0 1 0"
pub with_settle : Worked 15 settle (summed (totals 2 1)) (report true 1 2 0 ∷ report false 0 1 0 ∷ [])
unfolding computed
with_settle = record {
  calls = refl;
  answers = refl;
  links = refl;
  ends = record { before = first; call = settle; is = refl; ran = settles refl };
  unmarked = refl;
}

-- so the rule holds of what `run` hands back for these bytes
pub worked_conserved : {kind : ℕ} {k : Call} {a : Answer} {cs : List Closed} → Worked kind k a cs
    → (κs : Lfts 1) (bytes : _) (r : Responded) → run-fn.Learnt κs (bytes, tt) r (bytes, tt) → bytes.now ≡ worked kind
    → Conserved (history (calls_in (worked kind))).book (links_of r.machine.structure.unification) cs
worked_conserved {cs = cs} w κs bytes r ran e =
    subst (λ (l : List ℕ). Conserved (history (calls_in l)).book (links_of r.machine.structure.unification) cs) e
    (run_conserves κs bytes r ran cs (subst (λ (l : List ℕ). Ends (calls_in l) cs) (sym e) w.ends)
    (subst (λ (l : List ℕ). any_marked (history (calls_in l)).book.marks ≡ false) (sym e) w.unmarked))

-- After the list that ends in a settle the machine is settled, so that `is_settled` answers yes of what `run` hands back.

settle_settles : (after_calls (calls_in (worked 15)) start).structure.settled ≡ true
unfolding computed
settle_settles = refl

pub worked_asked : (κs : Lfts 1) (bytes : _) (r : Responded) (ran : run-fn.Learnt κs (bytes, tt) r (bytes, tt)) → bytes.now ≡ worked 15
    → SaysSettledAfter κs bytes r ran true
worked_asked κs bytes r ran e =
    sym (ap (λ (m : Machine). m.structure.settled) (run_leaves κs bytes r ran)
    ∙ ap (λ (l : List ℕ). (after_calls (calls_in l) start).structure.settled) e ∙ settle_settles)
