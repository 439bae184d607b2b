-- The sheet program (01, "The sheet program", and 02, M-100): bytes to records, the chain, and the printed lines as bytes.
use Rattle.std.specs.Prelude.{ℕ, zero, suc, ◌+◌, ◌-◌, ◌*◌, ◌/◌, ◌%◌, Bool, true, false, not, ◌&&◌, ◌||◌, List, [], ◌∷◌, ◌++◌, length, take, drop, get_or, eqb, leb, ltb}
use Rattle.std.proofs.Math.Option.{Option, none, some}
use Rattle.ids.specs.Answers.{bad_sheet, bad_chain, malformed}
use Rattle.ids.specs.Limits.{max_list}
use Rattle.signature.specs.Model.{Kind, plain, model, enum, mor, type_entry, pred_entry, func_entry, model_entry, mor_app_entry}
use Rattle.semantics.specs.Structure.{fact, func_app, pred_app, variable, ambient}
use Rattle.semantics.specs.Close.{Closed}
use Rattle.semantics.specs.Conflicts.{Conflict}
use Rattle.semantics.specs.Calls.{Call, push_type, push_pred, push_func, push_model, push_mor_app, push_el, equate_els, impose_type}
use Rattle.semantics.specs.Calls.{apply_func, apply_pred, bind_var, bind_ambient, close, type_conflicts, settle, Totals, Answer, number, says}
use Rattle.semantics.specs.Calls.{done, closed, conflicting, summed, found, typed, els, refuse, Machine, Step, refusal, start, step}

-- "A sheet is 1 to 1,024 records of 32 bytes"
abbrev pub max_records : ℕ
max_records = 1024

abbrev pub record_bytes : ℕ
record_bytes = 32

-- "over 32,768" bytes a sheet is too long
abbrev pub max_sheet : ℕ
max_sheet = record_bytes * max_records

-- "each 16 unsigned little-endian 16-bit words"
unfoldable pub words : List ℕ → List ℕ
words [] = []
words (low ∷ []) = []
words (low ∷ high ∷ rest) = (low + 256 * high) ∷ words rest

-- "0 next index, 1 kind, 2 A, 3 B, 4 parent count, 5 argument count, 6 to 9 parents, 10 to 13 arguments"
pub record Record : Type 0 where
  pub next : ℕ
  pub kind : ℕ
  pub a : ℕ
  pub b : ℕ
  pub parent_count : ℕ
  pub arg_count : ℕ
  pub parents : List ℕ
  pub args : List ℕ
  pub rest : List ℕ

unfoldable pub record_of : List ℕ → Record
record_of ws = record {
  next = get_or ws 0 0;
  kind = get_or ws 1 0;
  a = get_or ws 2 0;
  b = get_or ws 3 0;
  parent_count = get_or ws 4 0;
  arg_count = get_or ws 5 0;
  parents = take max_list (drop 6 ws);
  args = take max_list (drop 10 ws);
  rest = drop 14 ws;
}

-- the record of an index
unfoldable pub record_at : List ℕ → ℕ → Record
record_at bytes i = record_of (words (take record_bytes (drop (record_bytes * i) bytes)))

-- "Words 14, 15 and unused ones are zero."

unfoldable pub all_zero : List ℕ → Bool
all_zero [] = true
all_zero (x ∷ xs) = eqb x 0 && all_zero xs

-- how a kind uses a list: not at all, with a count of at most four, or with one count only
pub data Use : Type 0 where
  unused : Use
  listed : Use
  exactly : ℕ → Use

unfoldable pub count_fits : Use → ℕ → Bool
count_fits unused n = eqb n 0
count_fits listed n = leb n max_list
count_fits (exactly m) n = eqb n m

unfoldable pub list_fits : Use → ℕ → List ℕ → Bool
list_fits u n slots = count_fits u n && all_zero (drop n slots)

-- what the fields of a record of some kind may hold, and the call that it is
pub record Form : Type 0 where
  pub a : ℕ → Bool
  pub b : ℕ → ℕ → Bool
  pub parents : Use
  pub args : Use
  pub call : Record → Call

abbrev pub any : ℕ → Bool
any n = true

abbrev pub zero_only : ℕ → Bool
zero_only n = eqb n 0

-- the first `count` of the slots
abbrev pub parents_of : Record → List ℕ
parents_of r = take r.parent_count r.parents

abbrev pub args_of : Record → List ℕ
args_of r = take r.arg_count r.args

-- "1 type (A kind, B model of a Mor)": "0 Plain, 1 Model, 2 Enum, 3 Mor with its model type"
unfoldable pub kind_of : ℕ → ℕ → Kind
kind_of a b = get_or (plain ∷ model ∷ enum ∷ []) a (mor b)

unfoldable pub type_form : Form
type_form = record {
  a = λ a. leb a 3;
  b = λ a b. eqb a 3 || eqb b 0;
  parents = listed;
  args = unused;
  call = λ r. push_type (type_entry (kind_of r.a r.b) (parents_of r));
}

-- "2 predicate (arguments are its arity)"
unfoldable pub pred_form : Form
pred_form = record {
  a = zero_only;
  b = λ a. zero_only;
  parents = listed;
  args = listed;
  call = λ r. push_pred (pred_entry (parents_of r) (args_of r));
}

-- "3 function (B codomain, arguments its domain)"
unfoldable pub func_form : Form
func_form = record {
  a = zero_only;
  b = λ a. any;
  parents = listed;
  args = listed;
  call = λ r. push_func (func_entry (parents_of r) (args_of r) r.b);
}

-- "4 model (A type, B mor, four arguments dom, cod, id, comp)"
unfoldable pub model_form : Form
model_form = record {
  a = any;
  b = λ a. any;
  parents = unused;
  args = exactly 4;
  call = λ r. push_model (model_entry r.a r.b (get_or r.args 0 0) (get_or r.args 1 0) (get_or r.args 2 0) (get_or r.args 3 0));
}

-- "5 morphism application function (A function; arguments morphism type, member type)"
unfoldable pub mor_app_form : Form
mor_app_form = record {
  a = any;
  b = λ a. zero_only;
  parents = unused;
  args = exactly 2;
  call = λ r. push_mor_app (mor_app_entry r.a (get_or r.args 0 0) (get_or r.args 1 0));
}

-- "6 element (A mark, 0 or 1)"
unfoldable pub el_form : Form
el_form = record {
  a = λ a. leb a 1;
  b = λ a. zero_only;
  parents = unused;
  args = unused;
  call = λ r. push_el (eqb r.a 1);
}

-- "7 equality (A, B)"
unfoldable pub equality_form : Form
equality_form = record { a = any; b = λ a. any; parents = unused; args = unused; call = λ r. equate_els r.a r.b }

-- "8 imposition (A element, B type, parents)"
unfoldable pub imposition_form : Form
imposition_form = record {
  a = any;
  b = λ a. any;
  parents = listed;
  args = unused;
  call = λ r. impose_type (fact r.a r.b (parents_of r));
}

-- "9 function application (A function, B result)"
unfoldable pub func_app_form : Form
func_app_form = record {
  a = any;
  b = λ a. any;
  parents = listed;
  args = listed;
  call = λ r. apply_func (func_app r.a (parents_of r) (args_of r) r.b);
}

-- "10 predicate application (A predicate)"
unfoldable pub pred_app_form : Form
pred_app_form = record {
  a = any;
  b = λ a. zero_only;
  parents = listed;
  args = listed;
  call = λ r. apply_pred (pred_app r.a (parents_of r) (args_of r));
}

-- "11 variable (A key 0 to 63, B element)"
unfoldable pub var_form : Form
var_form = record { a = any; b = λ a. any; parents = unused; args = unused; call = λ r. bind_var (variable r.a r.b) }

-- "12 ambient (A type, B element)"
unfoldable pub ambient_form : Form
ambient_form = record { a = any; b = λ a. any; parents = unused; args = unused; call = λ r. bind_ambient (ambient r.a r.b) }

-- "13 close. 14 conflicts."
unfoldable pub close_form : Form
close_form = record { a = zero_only; b = λ a. zero_only; parents = unused; args = unused; call = λ r. close }

unfoldable pub conflicts_form : Form
conflicts_form = record { a = zero_only; b = λ a. zero_only; parents = unused; args = unused; call = λ r. type_conflicts }

-- 02, M-100: "a sheet record of kind 15"
unfoldable pub settle_form : Form
settle_form = record { a = zero_only; b = λ a. zero_only; parents = unused; args = unused; call = λ r. settle }

-- the form of each kind; kind 0 is none
unfoldable pub forms : List (Option Form)
forms =
    none
    ∷ some type_form
    ∷ some pred_form
    ∷ some func_form
    ∷ some model_form
    ∷ some mor_app_form
    ∷ some el_form
    ∷ some equality_form
    ∷ some imposition_form
    ∷ some func_app_form
    ∷ some pred_app_form
    ∷ some var_form
    ∷ some ambient_form
    ∷ some close_form
    ∷ some conflicts_form
    ∷ some settle_form
    ∷ []

unfoldable pub form_of : ℕ → Option Form
form_of kind = get_or forms kind none

unfoldable pub fits : Form → Record → Bool
fits f r =
    (f.a r.a && f.b r.a r.b)
    && ((list_fits f.parents r.parent_count r.parents && list_fits f.args r.arg_count r.args) && all_zero r.rest)

-- the call that a record is, where its kind, counts, A and unused words are as they must be
unfoldable pub call_in : Option Form → Record → Option Call
call_in none r = none
call_in (some f) r = elim (fits f r) [ true ↦ some (f.call r) | false ↦ none ]

unfoldable pub call_of : Record → Option Call
call_of r = call_in (form_of r.kind) r

-- "kind, count, key, A or an unused word outside the above" is number 3, the lowest that a call can meet
unfoldable pub carry_out : Option Call → Machine → Step
carry_out none m = refusal m malformed
carry_out (some c) m = step c m

-- Printed: "Decimal, single spaces."

-- the digits of n in front of some bytes; as many steps as n + 1 are enough
unfoldable pub digits_from : ℕ → ℕ → List ℕ → List ℕ
digits_from zero n rest = rest
digits_from (suc k) n rest = elim (ltb n 10) [ true ↦ (48 + n) ∷ rest | false ↦ digits_from k (n / 10) ((48 + n % 10) ∷ rest) ]

unfoldable pub decimal : ℕ → List ℕ
decimal n = digits_from (suc n) n []

abbrev pub space : ℕ
space = 32

abbrev pub newline : ℕ
newline = 10

-- each number with a space before it
unfoldable pub spaced : List ℕ → List ℕ
spaced [] = []
spaced (n ∷ ns) = space ∷ (decimal n ++ spaced ns)

unfoldable pub bit : Bool → ℕ
bit true = 1
bit false = 0

-- "close"
abbrev pub close_word : List ℕ
close_word = 99 ∷ 108 ∷ 111 ∷ 115 ∷ 101 ∷ []

-- "conflict"
abbrev pub conflict_word : List ℕ
conflict_word = 99 ∷ 111 ∷ 110 ∷ 102 ∷ 108 ∷ 105 ∷ 99 ∷ 116 ∷ []

-- "conflicts"
abbrev pub conflicts_word : List ℕ
conflicts_word = 99 ∷ 111 ∷ 110 ∷ 102 ∷ 108 ∷ 105 ∷ 99 ∷ 116 ∷ 115 ∷ []

-- "settle"
abbrev pub settle_word : List ℕ
settle_word = 115 ∷ 101 ∷ 116 ∷ 116 ∷ 108 ∷ 101 ∷ []

-- "refused"
abbrev pub refused_word : List ℕ
refused_word = 114 ∷ 101 ∷ 102 ∷ 117 ∷ 115 ∷ 101 ∷ 100 ∷ []

-- "at"
abbrev pub at_word : List ℕ
at_word = 97 ∷ 116 ∷ []

-- "end"
abbrev pub end_word : List ℕ
end_word = 101 ∷ 110 ∷ 100 ∷ []

-- "/"
abbrev pub slash : ℕ
slash = 47

-- "Record 13 prints `close C M R` (changed 1 or 0, merges, rounds)."; "The close line becomes `close C M R F`" (02, M-106), F the facts added
unfoldable pub close_line : Closed → List ℕ
close_line c = close_word ++ (spaced (bit c.changed ∷ c.merges ∷ c.rounds ∷ c.added ∷ []) ++ (newline ∷ []))

-- "`conflict E T p.. / U q..` per conflict (element, two facts)"
unfoldable pub conflict_line : Conflict → List ℕ
conflict_line c =
    conflict_word
    ++ (spaced (c.el ∷ c.a.typ ∷ c.a.parents) ++ (space ∷ slash ∷ (spaced (c.b.typ ∷ c.b.parents) ++ (newline ∷ []))))

unfoldable pub conflict_lines : List Conflict → List ℕ
conflict_lines [] = []
conflict_lines (c ∷ cs) = conflict_line c ++ conflict_lines cs

-- "then `conflicts N`"
unfoldable pub conflicts_line : List Conflict → List ℕ
conflicts_line cs = conflict_lines cs ++ (conflicts_word ++ (spaced (length cs ∷ []) ++ (newline ∷ [])))

-- "It prints `settle K M`, the closes run and the merges summed."
unfoldable pub settle_line : Totals → List ℕ
settle_line t = settle_word ++ (spaced (t.closes ∷ t.merges ∷ []) ++ (newline ∷ []))

-- "A refusal prints `refused N at I` (record index, 0 for number 1)"
unfoldable pub refused_line : ℕ → ℕ → List ℕ
refused_line n i = refused_word ++ (spaced (n ∷ []) ++ (space ∷ (at_word ++ (spaced (i ∷ []) ++ (newline ∷ [])))))

-- "else `end K` (records done)"
unfoldable pub end_line : ℕ → List ℕ
end_line k = end_word ++ (spaced (k ∷ []) ++ (newline ∷ []))

-- The chain.

-- what a sheet prints, and what its records made
pub record Ran : Type 0 where
  pub printed : List ℕ
  pub machine : Machine

abbrev pub prints : List ℕ → Ran → Ran
prints bytes r = record { printed = bytes ++ r.printed; machine = r.machine }

abbrev pub stops : List ℕ → Machine → Ran
stops bytes m = record { printed = bytes; machine = m }

-- "A refusal prints `refused N at I` .. and stops"; else what the answer prints, and the rest
unfoldable pub print_answer : Answer → ℕ → Machine → Ran → Ran
print_answer (refuse n) i m rest = stops (refused_line n i) m
print_answer (number n) i m rest = rest
print_answer (says b) i m rest = rest
print_answer done i m rest = rest
print_answer (closed c) i m rest = prints (close_line c) rest
print_answer (conflicting cs n) i m rest = prints (conflicts_line cs) rest
print_answer (summed t) i m rest = prints (settle_line t) rest
print_answer (found f) i m rest = rest
print_answer (typed t) i m rest = rest
print_answer (els es) i m rest = rest

-- "next index not in the sheet, or not zero on the N-th record visited of N"
unfoldable pub chain_broken : ℕ → Bool → ℕ → Bool
chain_broken n last next = leb n next || (last && not (eqb next 0))

unfoldable pub carried : ℕ → Step → (Machine → Ran) → Ran
carried i s rest = print_answer s.answer i s.after (rest s.after)

-- a record is visited, the last that may be or not: "2 before the record is carried out"
unfoldable pub visit : ℕ → Bool → Record → ℕ → Machine → (Machine → Ran) → Ran
visit n last r i m rest =
    elim (chain_broken n last r.next) [ true ↦ stops (refused_line bad_chain i) m | false ↦ carried i (carry_out (call_of r) m) rest ]

-- the records of a sheet of n from the index i on: k are done, and after this one at most `visits` may be visited
unfoldable pub run_records : List ℕ → ℕ → ℕ → ℕ → ℕ → Machine → Ran
run_records bytes n zero i k m = visit n true (record_at bytes i) i m (λ after. stops (end_line (suc k)) after)
run_records bytes n (suc visits) i k m =
    visit n false (record_at bytes i) i m (λ after.
    elim (eqb (record_at bytes i).next 0) [
      | true ↦ stops (end_line (suc k)) after
      | false ↦ run_records bytes n visits (record_at bytes i).next (suc k) after
    ])

-- "sheet empty, not a multiple of 32 bytes, or over 32,768"
unfoldable pub bad_length : ℕ → Bool
bad_length l = eqb l 0 || (not (eqb (l % record_bytes) 0) || ltb max_sheet l)

-- "Record 0 comes first"
unfoldable pub run_sheet : List ℕ → Ran
run_sheet bytes =
    elim (bad_length (length bytes)) [
      | true ↦ stops (refused_line bad_sheet 0) start
      | false ↦ run_records bytes (length bytes / record_bytes) (length bytes / record_bytes - 1) 0 0 start
    ]
