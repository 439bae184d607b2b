-- A list of calls as bytes (oracle/FORMAT.md, "Calls in lists"): records of 32 bytes one after the other, any number of them.
use Rattle.std.specs.Prelude.{ℕ, zero, suc, ◌/◌, Bool, true, false, List, [], ◌∷◌, ◌++◌, length, eqb}
use Rattle.std.proofs.Math.Option.{Option, none, some}
use Rattle.ids.specs.Ids.{given_of}
use Rattle.semantics.specs.Calls.{Call, root, root_const, lookup_type, ambient_parents, Answer, done, Machine, Step, answers, start, after_calls}
use Rattle.semantics.specs.Sheet as sheet
use Rattle.semantics.specs.Sheet.{Record, record_at, record_bytes, carry_out}

-- The kinds of the calls that no record of a sheet makes; no sheet has a kind as high.

abbrev pub root_kind : ℕ
root_kind = 101

abbrev pub root_const_kind : ℕ
root_const_kind = 102

abbrev pub lookup_type_kind : ℕ
lookup_type_kind = 103

abbrev pub ambient_parents_kind : ℕ
ambient_parents_kind = 104

abbrev pub when : Bool → Call → Option Call → Option Call
when b k other = elim b [ true ↦ some k | false ↦ other ]

-- the call that a record of some kind is, or none: "A, an element", "A, a type; parents in words 6 to 9, their count in word 4",
-- "types in words 10 to 13, their count in word 5", and "Other words of these four kinds are not looked at"; "Kinds 1 to 14 are the records of document 01, kind 15 is that of settle"
unfoldable pub call_at : ℕ → Record → Option Call
call_at kind r =
    when (eqb kind root_kind) (root r.a)
    (when (eqb kind root_const_kind) (root_const r.a)
    (when (eqb kind lookup_type_kind) (lookup_type r.a (given_of r.parent_count r.parents))
    (when (eqb kind ambient_parents_kind) (ambient_parents (given_of r.arg_count r.args))
    (sheet.call_of r))))

abbrev pub list_call_of : Record → Option Call
list_call_of r = call_at r.kind r

-- "Bytes after the last whole record are not looked at."
abbrev pub whole_records : List ℕ → ℕ
whole_records bytes = length bytes / record_bytes

unfoldable pub call_list : Option Call → List Call
call_list none = []
call_list (some k) = k ∷ []

-- the calls of the first n records, in order: a record that does not fit is no call
unfoldable pub calls_before : List ℕ → ℕ → List Call
calls_before bytes zero = []
calls_before bytes (suc n) = calls_before bytes n ++ call_list (list_call_of (record_at bytes n))

abbrev pub calls_in : List ℕ → List Call
calls_in bytes = calls_before bytes (whole_records bytes)

-- what the last of the first n records answers, after the calls before it; a list of no records is done
unfoldable pub last_answer : Machine → List ℕ → ℕ → Answer
last_answer m bytes zero = done
last_answer m bytes (suc n) = (carry_out (list_call_of (record_at bytes n)) (after_calls (calls_before bytes n) m)).answer

-- after the first n records: the last one's answer, and what the calls leave
unfoldable pub list_before : Machine → List ℕ → ℕ → Step
list_before m bytes n = answers (last_answer m bytes n) (after_calls (calls_before bytes n) m)

-- a list from a given machine on
abbrev pub run_from : Machine → List ℕ → Step
run_from m bytes = list_before m bytes (whole_records bytes)

-- a list from its beginning
abbrev pub run_list : List ℕ → Step
run_list bytes = run_from start bytes
