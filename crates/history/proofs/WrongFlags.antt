-- Wrong versions of the question whether the structure is settled (02, M-101), each refuted by a list of calls. A version says what a call leaves of
-- the flag, by the call, its answer and the flag before it, as `flag_after` does, with which a list comes to `settled_after` (`right_is`).
use mathlib.Core.Path.{◌≡◌, refl, sym, ap, ◌∙◌}
use mathlib.Core.Bool.{Bool, true, false, not, ◌&&◌, not-eq-not}
use mathlib.Core.List.{List, [], ◌∷◌, ◌++◌, map, Memᴰ}
use Prim.Native.Nat.{ℕ}
use Prim.Native.String.{String}
use lib.Dec.{eqb}
use Rattle.ids.proofs.Sorted.{no_test}
use Rattle.semantics.specs.Close.{Closed, report}
use Rattle.semantics.specs.Calls.{Call, push_type, push_pred, push_func, push_model, push_mor_app, push_el, equate_els, impose_type}
use Rattle.semantics.specs.Calls.{apply_func, apply_pred, bind_var, bind_ambient, close, type_conflicts, settle, root, root_const}
use Rattle.semantics.specs.Calls.{lookup_type, ambient_parents, Answer, closed, is_accepted, Machine, start, step, after_calls}
use Rattle.semantics.proofs.ProvedCases.{plain_el, impose, app, predicate, var, ambient_el, settled101, agree}
use Rattle.history.specs.Settled.{event, Event, trace, reported_change, latest_close, since, asserts, is_yes, any_yes, unchanged, settled_after}
use Rattle.history.proofs.Examples.{computed}
use Rattle.history.proofs.SecondClose.{no_change}
use Rattle.history.proofs.Settled.{flag_after, one_event}

abbrev pub Version : Type 0
Version = Call → Answer → Bool → Bool

-- the flag after a list that is made on m, where it was so before
unfoldable pub flag_by : Version → List Call → Machine → Bool → Bool
flag_by v [] m was = was
flag_by v (k ∷ ks) m was = flag_by v ks (step k m).after (v k (step k m).answer was)

-- the right one
right_from : (ks : List Call) (m : Machine) (es : List Event) → flag_by flag_after ks m (settled_after es) ≡ settled_after (trace ks m es)
unfolding flag_by trace
right_from [] m es = refl
right_from (k ∷ ks) m es =
    ap (flag_by flag_after ks (step k m).after) (one_event k (step k m).answer es) ∙ right_from ks (step k m).after (event k (step k m).answer ∷ es)

pub right_is : (ks : List Call) → flag_by flag_after ks start false ≡ settled_after (trace ks start [])
unfolding settled_after latest_close since any_yes unchanged
right_is ks = right_from ks start []

-- A version departs for some calls and answers: it leaves the flag, clears it or sets it there.

abbrev Cases : Type 0
Cases = Call → Answer → Bool

unfoldable pub leaving : Cases → Version
leaving at k a was = elim (at k a) [ true ↦ was | false ↦ flag_after k a was ]

unfoldable pub clearing : Cases → Version
clearing at k a was = elim (at k a) [ true ↦ false | false ↦ flag_after k a was ]

unfoldable pub setting : Cases → Version
setting at k a was = elim (at k a) [ true ↦ true | false ↦ flag_after k a was ]

-- the kind of the call's record; the finds and lookups have none and are numbered after them
unfoldable pub kind_number : Call → ℕ
kind_number (push_type t) = 1
kind_number (push_pred p) = 2
kind_number (push_func f) = 3
kind_number (push_model x) = 4
kind_number (push_mor_app x) = 5
kind_number (push_el mark) = 6
kind_number (equate_els a b) = 7
kind_number (impose_type f) = 8
kind_number (apply_func x) = 9
kind_number (apply_pred x) = 10
kind_number (bind_var v) = 11
kind_number (bind_ambient a) = 12
kind_number close = 13
kind_number type_conflicts = 14
kind_number settle = 15
kind_number (root e) = 16
kind_number (root_const e) = 17
kind_number (lookup_type t ps) = 18
kind_number (ambient_parents ts) = 19

-- calls of one kind: those answered with yes; those accepted and not answered with yes

abbrev yes_of : ℕ → Cases
yes_of n k a = eqb (kind_number k) n && is_yes a

abbrev not_yes_of : ℕ → Cases
not_yes_of n k a = eqb (kind_number k) n && (is_accepted a && not (is_yes a))

-- A row: a version's name, the version, a list, what the definition says after it and what a close then answers. The version says the opposite.

pub record Row : Type 0 where
  pub name : String
  pub version : Version
  pub calls : List Call
  pub right : Bool
  pub next : Closed

abbrev row : String → Version → List Call → Bool → Closed → Row
row name v ks right next = record { name = name; version = v; calls = ks; right = right; next = next }

pub record Shown : Type 0 where
  pub right : Bool
  pub wrong : Bool
  pub next : Answer

abbrev shown_by : Row → Shown
shown_by r = record {
  right = settled_after (trace r.calls start []);
  wrong = flag_by r.version r.calls start false;
  next = (step close (after_calls r.calls start)).answer;
}

abbrev stated_by : Row → Shown
stated_by r = record { right = r.right; wrong = not r.right; next = closed r.next }

-- the list with which most begin, which leaves it settled, and then these calls
abbrev after : List Call → List Call
after ks = settled101 ++ ks

pub table : List Row
table =
    row "no answer clears it" (leaving (λ k a. is_yes a)) (after (equate_els 0 1 ∷ [])) false (report true 1 2 0)
    ∷ row "an equality answered with yes leaves it" (leaving (yes_of 7)) (after (equate_els 0 1 ∷ [])) false (report true 1 2 0)
    ∷ row "an imposition answered with yes leaves it" (leaving (yes_of 8)) (after (impose 0 1 [] ∷ [])) false (report true 0 1 1)
    ∷ row "a function application answered with yes leaves it" (leaving (yes_of 9)) (after (app 0 [] (0 ∷ []) 1 ∷ [])) false (report true 1 2 0)
    ∷ row "a predicate application answered with yes leaves it" (leaving (yes_of 10)) (after (plain_el ∷ predicate 0 [] (3 ∷ []) ∷ [])) false
    (report true 0 2 1)
    ∷ row "an equality answered with no clears it" (clearing (not_yes_of 7)) (after (equate_els 1 2 ∷ [])) true no_change
    ∷ row "an imposition answered with no clears it" (clearing (not_yes_of 8)) (after (impose 2 0 [] ∷ [])) true no_change
    ∷ row "a function application answered with no clears it" (clearing (not_yes_of 9)) (after (app 0 [] (0 ∷ []) 0 ∷ [])) true no_change
    ∷ row "a predicate application answered with no clears it" (clearing (not_yes_of 10)) (after (predicate 0 [] (1 ∷ []) ∷ [])) true no_change
    ∷ row "an element clears it" (clearing (not_yes_of 6)) (after (plain_el ∷ [])) true no_change
    ∷ row "a variable clears it" (clearing (not_yes_of 11)) (after (var 0 2 ∷ [])) true no_change
    ∷ row "an ambient clears it" (clearing (not_yes_of 12)) (after (ambient_el 1 0 ∷ [])) true no_change
    ∷ row "a report of conflicts clears it" (clearing (not_yes_of 14)) (after (type_conflicts ∷ [])) true no_change
    ∷ row "a find clears it" (clearing (not_yes_of 16)) (after (root 2 ∷ [])) true no_change
    ∷ row "a find that shortens no path clears it" (clearing (not_yes_of 17)) (after (root_const 2 ∷ [])) true no_change
    ∷ row "a type lookup clears it" (clearing (not_yes_of 18)) (after (lookup_type 0 [] ∷ [])) true no_change
    ∷ row "an ambient lookup clears it" (clearing (not_yes_of 19)) (after (ambient_el 1 0 ∷ ambient_parents (1 ∷ []) ∷ [])) true no_change
    ∷ row "a refused call clears it" (clearing (λ k a. not (is_accepted a))) (after (equate_els 0 9 ∷ [])) true no_change
    ∷ row "a close that changed something sets it" (setting (not_yes_of 13)) (after (equate_els 0 1 ∷ close ∷ [])) false no_change
    ∷ row "a close that changed nothing does not set it" (leaving (not_yes_of 13)) (close ∷ []) true no_change
    ∷ row "a settle does not set it" (leaving (not_yes_of 15)) settled101 true no_change
    ∷ row "a no sets it" (setting (λ k a. asserts k && (is_accepted a && not (is_yes a)))) (after (equate_els 0 1 ∷ equate_els 1 2 ∷ [])) false
    (report true 1 2 0)
    ∷ row "another accepted call sets it" (setting (λ k a. not (asserts k) && is_accepted a)) (after (equate_els 0 1 ∷ plain_el ∷ [])) false
    (report true 1 2 0)
    ∷ row "a refused call sets it" (setting (λ k a. not (is_accepted a))) (after (equate_els 0 1 ∷ equate_els 0 9 ∷ [])) false (report true 1 2 0)
    ∷ row "a yes sets it" (setting (λ k a. is_yes a)) (plain_el ∷ plain_el ∷ equate_els 0 1 ∷ []) false (report true 1 2 0)
    ∷ []

rows_show : map shown_by table ≡ map stated_by table
unfolding table computed flag_by flag_after leaving clearing setting kind_number trace reported_change latest_close since asserts is_yes any_yes unchanged settled_after
rows_show = refl

module _ (r : Row) (m : Memᴰ r table) where
  holds : shown_by r ≡ stated_by r
  holds = agree shown_by stated_by table rows_show r m

  -- no version of the table is the definition
  pub refuted : ((ks : List Call) → flag_by r.version ks start false ≡ settled_after (trace ks start [])) → ⊥
  refuted same =
      not-eq-not.1 refl (sym (ap (λ (x : Shown). x.right) holds) ∙ sym (same r.calls) ∙ ap (λ (x : Shown). x.wrong) holds)

  -- and where one says yes before a close that reports a change, what 02 says of the next close is false of it too
  pub next_close_refutes : r.right ≡ false → r.next.changed ≡ true
      → ((ks : List Call) → flag_by r.version ks start false ≡ true → (step close (after_calls ks start)).answer ≡ closed no_change) → ⊥
  next_close_refutes wrong changed claim =
      let says = ap (λ (x : Shown). x.wrong) holds ∙ ap not wrong in
      let same = next_is (sym (ap (λ (x : Shown). x.next) holds) ∙ claim r.calls says) in
      no_test changed (ap (λ (c : Closed). c.changed) same)
    where
      next_is : closed r.next ≡ closed no_change → r.next ≡ no_change
      next_is e = cc

-- The builder's case: an equality answered with yes, and the close after it merges.
pub equality_refutes : ((ks : List Call) → flag_by (leaving (yes_of 7)) ks start false ≡ true → (step close (after_calls ks start)).answer ≡ closed no_change)
    → ⊥
unfolding table
equality_refutes = next_close_refutes _ (Memᴰ.tail (Memᴰ.head refl)) refl refl
