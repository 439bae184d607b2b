-- The question whether the structure is settled (02, M-101), read from the calls of a list and their answers: it reads no structure.
use Rattle.std.specs.Prelude.{Bool, true, false, not, ◌&&◌, ◌||◌, List, [], ◌∷◌}
use Rattle.std.proofs.Math.Option.{Option, none, some}
use Rattle.semantics.specs.Calls.{Call, push_type, push_pred, push_func, push_model, push_mor_app, push_el, equate_els, impose_type}
use Rattle.semantics.specs.Calls.{apply_func, apply_pred, bind_var, bind_ambient, close, type_conflicts, settle, root, root_const}
use Rattle.semantics.specs.Calls.{lookup_type, ambient_parents, Answer, number, says, done, closed, conflicting, summed, found, typed}
use Rattle.semantics.specs.Calls.{els, refuse, Machine, step}

-- a call and what it answered
pub record Event : Type 0 where
  pub call : Call
  pub answer : Answer

abbrev pub event : Call → Answer → Event
event k a = record { call = k; answer = a }

-- the calls of a list, made on m one after the other, the latest first; those made before it are es
unfoldable pub trace : List Call → Machine → List Event → List Event
trace [] m es = es
trace (k ∷ ks) m es = trace ks (step k m).after (event k (step k m).answer ∷ es)

-- Where the call ran accepted closes, alone or inside a settle: whether the latest of them reported a change. A settle "repeats close until one
-- reports no change".
unfoldable pub reported_change : Answer → Option Bool
reported_change (closed c) = some c.changed
reported_change (summed t) = some false
reported_change (number n) = none
reported_change (says b) = none
reported_change done = none
reported_change (conflicting cs n) = none
reported_change (found f) = none
reported_change (typed t) = none
reported_change (els es) = none
reported_change (refuse n) = none

-- whether "the latest accepted close" reported a change, where there was one
unfoldable pub latest_close : List Event → Option Bool
latest_close [] = none
latest_close (e ∷ es) = elim (reported_change e.answer) [ some changed ↦ some changed | none ↦ latest_close es ]

-- the calls "since"
unfoldable pub since : List Event → List Event
since [] = []
since (e ∷ es) = elim (reported_change e.answer) [ some changed ↦ [] | none ↦ e ∷ since es ]

-- the call is an "equality, imposition or application"
unfoldable pub asserts : Call → Bool
asserts (equate_els a b) = true
asserts (impose_type f) = true
asserts (apply_func x) = true
asserts (apply_pred x) = true
asserts (push_type t) = false
asserts (push_pred p) = false
asserts (push_func f) = false
asserts (push_model x) = false
asserts (push_mor_app x) = false
asserts (push_el mark) = false
asserts (bind_var v) = false
asserts (bind_ambient a) = false
asserts close = false
asserts type_conflicts = false
asserts settle = false
asserts (root e) = false
asserts (root_const e) = false
asserts (lookup_type t ps) = false
asserts (ambient_parents ts) = false

-- "answered with yes", so accepted
unfoldable pub is_yes : Answer → Bool
is_yes (says b) = b
is_yes (number n) = false
is_yes done = false
is_yes (closed c) = false
is_yes (conflicting cs n) = false
is_yes (summed t) = false
is_yes (found f) = false
is_yes (typed t) = false
is_yes (els es) = false
is_yes (refuse n) = false

-- an equality, imposition or application that was accepted and answered with yes
abbrev pub said_yes : Call → Answer → Bool
said_yes k a = asserts k && is_yes a

-- one of these calls was
unfoldable pub any_yes : List Event → Bool
any_yes [] = false
any_yes (e ∷ es) = said_yes e.call e.answer || any_yes es

-- without a close, no: "a fresh one does not" count as settled
unfoldable pub unchanged : Option Bool → Bool
unchanged none = false
unchanged (some changed) = not changed

-- "yes exactly when the latest accepted close reported no change and no equality, imposition or application accepted since was answered with yes"
unfoldable pub settled_after : List Event → Bool
settled_after es = unchanged (latest_close es) && not (any_yes (since es))
