-- The proved cases (01, "Proved sheets"): P1 to P10, rows for each number 1 to 12 and 15 and for single sentences of 01 and 02, as one table, and one theorem: every row holds (with those of RefusedSettle: `every_row_holds` there; rows on full tables are in validity/proofs/FullTables).
-- A row is data: what it runs, what that answers or prints, and claims about the machine that it leaves. That a refused call leaves the machine as
-- it was is a theorem over every call (`refused_leaves`, Judged); the rows on refusals state it where it computes in few steps.
use mathlib.Core.Path.{◌≡◌, refl, ap, ◌∙◌}
use mathlib.Core.Bool.{Bool, true, false}
use mathlib.Core.List.{List, [], ◌∷◌, ◌++◌, map, Memᴰ}
use mathlib.Core.Option.{Option, none, some}
use Prim.Native.Nat.{ℕ, zero, suc, ◌-◌, ◌/◌, ◌%◌}
use Prim.Native.Char.{code}
use Prim.Native.String.{String, [] as no_text, ◌∷◌ as ◌∷ᵗ◌}
use lib.ListN.{length, take, drop, get_or, set, replicate}
use Rattle.ids.specs.Table.{lookup_of}
use Rattle.unification.specs.Roots.{max_els}
use Rattle.signature.specs.Model.{Kind, plain, model, mor, max_types, max_preds, max_funcs, type_entry, pred_entry, func_entry, model_entry}
use Rattle.signature.specs.Model.{mor_app_entry}
use Rattle.semantics.specs.Structure.{Fact, fact, func_app, pred_app, variable, ambient, compare_func_app, result_of, max_pairs}
use Rattle.semantics.specs.Structure.{max_impositions, max_func_apps, max_pred_apps, max_facts, max_vars, with_facts, with_impositions}
use Rattle.semantics.specs.Types.{facts_at}
use Rattle.semantics.specs.Close.{report}
use Rattle.semantics.specs.Conflicts.{Conflict, conflict}
use Rattle.semantics.specs.Calls.{Call, push_type, push_func, push_pred, push_el, equate_els, impose_type, apply_func, apply_pred}
use Rattle.semantics.specs.Calls.{push_model, push_mor_app, bind_var, bind_ambient}
use Rattle.semantics.specs.Calls.{close, type_conflicts, settle, lookup_type, ambient_parents, ConcreteType, concrete_type, after_calls}
use Rattle.semantics.specs.Calls as steps
use Rattle.semantics.specs.Calls.{totals, Answer, number, says, done, closed, conflicting, found, typed, els, refuse, Machine, Step, refusal, start, step}
use Rattle.semantics.specs.Sheet.{bit, newline, run_sheet}
use Rattle.semantics.proofs.Computes.{everything}

-- What a row is.

-- calls from the empty signature and structure, calls from a machine that is given, or the bytes of a sheet
pub data Source : Type 0 where
  calls : List Call → Source
  calls_from : Machine → List Call → Source
  sheet : List ℕ → Source

-- an answer that a row states
pub data Stated : Type 0 where
  -- changed (1 or 0), merges, rounds, facts added
  closes : ℕ → ℕ → ℕ → ℕ → Stated
  -- closes run, merges summed
  settles : ℕ → ℕ → Stated
  -- the conflicts, and the finds
  conflicts : List Conflict → ℕ → Stated
  -- the type with its leading parents, or none
  types : Option ConcreteType → Stated
  refuses : ℕ → Stated

-- the stated answers of the calls, or the bytes that the sheet prints
pub data Output : Type 0 where
  tells : List Stated → Output
  prints : List ℕ → Output

-- what may be asked of a machine
pub data Question : Type 0 where
  -- the link of an element
  link : ℕ → Question
  -- the mark of an element
  mark : ℕ → Question
  -- the facts that are stored at an element
  facts : ℕ → Question
  -- the result that is stored for a function, parents and arguments
  key : ℕ → List ℕ → List ℕ → Question
  -- the impositions that are queued
  impositions : Question
  settled : Question
  -- the answer of one more call
  answer : Call → Question
  -- all of it
  machine : Question

-- what is seen
pub data Seen : Type 0 where
  el : ℕ → Seen
  flag : Bool → Seen
  fact_list : List Fact → Seen
  result : Option ℕ → Seen
  said : Answer → Seen
  whole : Machine → Seen

pub record Claim : Type 0 where
  pub question : Question
  pub seen : Seen

infixl 70 ◌is◌
abbrev pub ◌is◌ : Question → Seen → Claim
q is s = record { question = q; seen = s }

pub record Row : Type 0 where
  pub source : Source
  pub output : Output
  pub claims : List Claim

-- How a row is run.

-- what a row states of a call's answer; what the other accepted calls answer it leaves out
unfoldable pub stated : Answer → List Stated → List Stated
stated (closed c) rest = closes (bit c.changed) c.merges c.rounds c.added ∷ rest
stated (steps.summed t) rest = settles t.closes t.merges ∷ rest
stated (conflicting cs n) rest = conflicts cs n ∷ rest
stated (typed t) rest = types t ∷ rest
stated (refuse n) rest = refuses n ∷ rest
stated (number n) rest = rest
stated (says b) rest = rest
stated done rest = rest
stated (found f) rest = rest
stated (els es) rest = rest

unfoldable pub answers_of : List Call → Machine → List Stated
answers_of [] m = []
answers_of (c ∷ cs) m = stated (step c m).answer (answers_of cs (step c m).after)

unfoldable pub output_of : Source → Output
output_of (calls cs) = tells (answers_of cs start)
output_of (calls_from m cs) = tells (answers_of cs m)
output_of (sheet bytes) = prints (run_sheet bytes).printed

unfoldable pub machine_of : Source → Machine
machine_of (calls cs) = after_calls cs start
machine_of (calls_from m cs) = after_calls cs m
machine_of (sheet bytes) = (run_sheet bytes).machine

unfoldable pub look : Machine → Question → Seen
look m (link e) = el (get_or m.structure.links e e)
look m (mark e) = flag (get_or m.structure.marks e false)
look m (facts e) = fact_list (facts_at e m.structure.facts)
look m (key f ps xs) =
    result (result_of (lookup_of compare_func_app (func_app f ps xs 0) m.structure.func_apps))
look m impositions = fact_list m.structure.impositions
look m settled = flag m.structure.settled
look m (answer c) = said (step c m).answer
look m machine = whole m

-- A row holds when its source answers or prints what it states, and each claim's question shows what it claims.

pub record Shown : Type 0 where
  pub output : Output
  pub seen : List Seen

unfoldable pub shown_by : Row → Shown
shown_by r = record { output = output_of r.source; seen = map (λ c. look (machine_of r.source) c.question) r.claims }

unfoldable pub stated_by : Row → Shown
stated_by r = record { output = r.output; seen = map (λ c. c.seen) r.claims }

abbrev pub Holds : Row → Type 0
Holds r = shown_by r ≡ stated_by r

-- How rows are written.

-- the bytes of a text in ASCII
unfoldable pub bytes_of : String → List ℕ
bytes_of no_text = []
bytes_of (c ∷ᵗ s) = code c ∷ bytes_of s

unfoldable pub lines : List String → List ℕ
lines [] = []
lines (s ∷ ss) = bytes_of s ++ (newline ∷ lines ss)

-- "each 16 unsigned little-endian 16-bit words"
unfoldable pub little_endian : List ℕ → List ℕ
little_endian [] = []
little_endian (w ∷ ws) = w % 256 ∷ w / 256 ∷ little_endian ws

-- the four words of a list
abbrev pub slots : List ℕ → List ℕ
slots xs = take 4 (xs ++ (0 ∷ 0 ∷ 0 ∷ 0 ∷ []))

-- a record: next index, kind, A, B, parents, arguments
unfoldable pub entry : ℕ → ℕ → ℕ → ℕ → List ℕ → List ℕ → List ℕ
entry next kind a b ps xs =
    little_endian (next ∷ kind ∷ a ∷ b ∷ length ps ∷ length xs ∷ (slots ps ++ (slots xs ++ (0 ∷ 0 ∷ []))))

abbrev pub typ : Kind → List ℕ → Call
typ k ps = push_type (type_entry k ps)

abbrev pub func : List ℕ → List ℕ → ℕ → Call
func ps ds c = push_func (func_entry ps ds c)

abbrev pub pred : List ℕ → List ℕ → Call
pred ps ds = push_pred (pred_entry ps ds)

abbrev pub plain_el : Call
plain_el = push_el false

abbrev pub marked_el : Call
marked_el = push_el true

abbrev pub impose : ℕ → ℕ → List ℕ → Call
impose e t ps = impose_type (fact e t ps)

abbrev pub app : ℕ → List ℕ → List ℕ → ℕ → Call
app f ps xs r = apply_func (func_app f ps xs r)

abbrev pub predicate : ℕ → List ℕ → List ℕ → Call
predicate p ps xs = apply_pred (pred_app p ps xs)

-- P2's types, "Model type; Plain type (parents 0)", and with its function "(parents 0, codomain 1)" its signature
abbrev pub types2 : List Call
types2 = typ model [] ∷ typ plain (0 ∷ []) ∷ []

abbrev pub signature2 : List Call
signature2 = types2 ++ (func (0 ∷ []) [] 1 ∷ [])

-- P4: "P2's types, elements 0 to 2; imposed on 2: type 1 with parent 1"
abbrev pub imposed4 : List Call
imposed4 = types2 ++ (plain_el ∷ plain_el ∷ plain_el ∷ impose 2 1 (1 ∷ []) ∷ [])

-- P5: "P2's signature and applications, no equality, element 1 marked, a fifth element 4 imposed type 1 with parent 0, then with parent 1"
abbrev pub imposed5 : List Call
imposed5 =
    signature2
    ++ (plain_el ∷ marked_el ∷ plain_el ∷ plain_el ∷ plain_el
    ∷ app 0 (0 ∷ []) [] 2 ∷ app 0 (1 ∷ []) [] 3 ∷ impose 4 1 (0 ∷ []) ∷ impose 4 1 (1 ∷ []) ∷ [])

-- M-103: a Model type, Plain types 1 to 4 with no, one, four and no parents, elements 0 to 2, the facts imposed, a close and the report
abbrev pub reported : List Fact → List Call
reported fs =
    typ model [] ∷ typ plain [] ∷ typ plain (0 ∷ []) ∷ typ plain (0 ∷ 0 ∷ 0 ∷ 0 ∷ []) ∷ typ plain [] ∷ plain_el ∷ plain_el ∷ plain_el
    ∷ (map impose_type fs ++ (close ∷ type_conflicts ∷ []))

-- the same with no fact, and 1 merged into 0
abbrev pub merged103 : Machine
merged103 = after_calls (reported [] ++ (equate_els 0 1 ∷ close ∷ [])) start

-- n calls, of the numbers n - 1 down to 0: in this order each entry of an ordered table goes before the others
unfoldable pub down_from : ℕ → (ℕ → Call) → List Call
down_from zero call = []
down_from (suc n) call = call n ∷ down_from n call

abbrev pub model_of : ℕ → ℕ → List ℕ → Call
model_of t m fs = push_model (model_entry t m (get_or fs 0 0) (get_or fs 1 0) (get_or fs 2 0) (get_or fs 3 0))

abbrev pub mor_app : ℕ → ℕ → ℕ → Call
mor_app f mo me = push_mor_app (mor_app_entry f mo me)

abbrev pub var : ℕ → ℕ → Call
var k e = bind_var (variable k e)

abbrev pub ambient_el : ℕ → ℕ → Call
ambient_el t e = bind_ambient (ambient t e)

-- two Model types 0 and 1, a Mor type of each, 2 and 3, a Plain type 4, and nine functions
abbrev pub types_and_funcs : List Call
types_and_funcs = typ model [] ∷ typ model [] ∷ typ (mor 0) [] ∷ typ (mor 1) [] ∷ typ plain [] ∷ down_from 9 (λ n. func [] [] 0)

-- with the model of type 0, whose id is 2 and comp 3, and the morphism application function 4
abbrev pub signature7 : List Call
signature7 = types_and_funcs ++ (model_of 0 2 (0 ∷ 1 ∷ 2 ∷ 3 ∷ []) ∷ mor_app 4 2 4 ∷ [])

-- the facts of the elements 0, 1, .., each with all types, n in all, before the facts fs
unfoldable pub facts_before : ℕ → List Fact → List Fact
facts_before zero fs = fs
facts_before (suc n) fs = facts_before n (fact (n / max_types) (n % max_types) [] ∷ fs)

abbrev pub set_facts : List Fact → Machine → Machine
set_facts fs m = steps.machine m.sig (with_facts fs m.structure)

-- all types that there can be, one element more, and n facts
abbrev pub holding : ℕ → Machine
holding n = set_facts (facts_before n []) (after_calls (down_from max_types (λ n. typ plain []) ++ down_from (suc max_types) (λ n. plain_el)) start)

-- no element, and type 0 imposed on element 0
abbrev pub imposition_on_none : Machine
imposition_on_none = steps.machine (after_calls (typ plain [] ∷ []) start).sig (with_impositions (fact 0 0 [] ∷ []) start.structure)

-- Two types, the second a Model; f of 0 is 0; the predicate holds of 1; type 0 is imposed on 1; 1 and 2 are one; a settle. Then each of six calls is
-- answered with yes; the last says of 2 what was said of 1, which is new as given.

abbrev pub settled101 : List Call
settled101 =
    typ plain [] ∷ typ model [] ∷ func [] (0 ∷ []) 0 ∷ pred [] (0 ∷ []) ∷ plain_el ∷ plain_el ∷ plain_el
    ∷ app 0 [] (0 ∷ []) 0 ∷ predicate 0 [] (1 ∷ []) ∷ impose 1 0 [] ∷ equate_els 1 2 ∷ settle ∷ []

abbrev pub yes101 : List Call
yes101 =
    equate_els 0 1 ∷ impose 0 0 [] ∷ app 0 [] (1 ∷ []) 1 ∷ app 0 [] (0 ∷ []) 1 ∷ predicate 0 [] (0 ∷ []) ∷ predicate 0 [] (2 ∷ []) ∷ []

-- a sheet of one settle whose word i is 1
abbrev pub settle_with : ℕ → Row
settle_with i = record {
  source = sheet (little_endian (set (0 ∷ 15 ∷ replicate 14 0) i 1));
  output = prints (lines ("refused 3 at 0" ∷ []));
  claims = machine is whole start ∷ [];
}

-- Identities and composites (02, M-102).

-- a Model type 0 with its Mor type 1, and the model's dom 0, cod 1, id 2 and comp 3; function 4 has no arguments
abbrev pub signature102 : List Call
signature102 =
    typ model [] ∷ typ (mor 0) [] ∷ func [] (1 ∷ []) 0 ∷ func [] (1 ∷ []) 0 ∷ func [] (0 ∷ []) 1 ∷ func [] (1 ∷ 1 ∷ []) 1 ∷ func [] [] 0
    ∷ model_of 0 1 (0 ∷ 1 ∷ 2 ∷ 3 ∷ []) ∷ []

-- the same, with a type 2 of one parent, functions 4 and 5 over one parent whose results are of that type, and no types demanded of maps
abbrev pub boxed102 : List Call
boxed102 =
    typ model [] ∷ typ (mor 0) [] ∷ typ plain (0 ∷ []) ∷ down_from 4 (λ n. func [] [] 0)
    ++ (func (0 ∷ []) [] 2 ∷ func (0 ∷ []) [] 2 ∷ model_of 0 1 (0 ∷ 1 ∷ 2 ∷ 3 ∷ []) ∷ [])

abbrev pub dom : ℕ → ℕ → Call
dom f a = app 0 [] (f ∷ []) a

abbrev pub cod : ℕ → ℕ → Call
cod f a = app 1 [] (f ∷ []) a

abbrev pub identity : ℕ → ℕ → Call
identity a r = app 2 [] (a ∷ []) r

abbrev pub composite : ℕ → ℕ → ℕ → Call
composite f g h = app 3 [] (f ∷ g ∷ []) h

-- one law alone: the composite of 0 and 1 is 2, the function f has the value 3 at x, and so g has it at y
abbrev pub law_row : ℕ → ℕ → ℕ → ℕ → Row
law_row f x g y = record {
  source = calls (signature102 ++ (down_from 4 (λ n. plain_el) ++ (composite 0 1 2 ∷ app f [] (x ∷ []) 3 ∷ close ∷ [])));
  output = tells (closes 1 0 2 4 ∷ []);
  claims = key g [] (y ∷ []) is result (some 3) ∷ [];
}

-- Impositions with the wrong number of parents (02, M-105).

-- two Model types, a Plain type 2 of both, and elements 0 to 2
abbrev pub declared105 : List Call
declared105 = typ model [] ∷ typ model [] ∷ typ plain (0 ∷ 1 ∷ []) ∷ plain_el ∷ plain_el ∷ plain_el ∷ []

abbrev pub parent_count_rows : List Row
parent_count_rows =
    -- 15 for too few parents and for too many, of a type with two and of one with none; the machine is as it was
    record {
      source = calls
          (declared105
          ++ (impose 0 2 [] ∷ impose 0 2 (1 ∷ []) ∷ impose 0 2 (1 ∷ 2 ∷ 0 ∷ []) ∷ impose 0 2 (1 ∷ 2 ∷ 0 ∷ 0 ∷ []) ∷ impose 0 0 (1 ∷ []) ∷ []));
      output = tells (refuses 15 ∷ refuses 15 ∷ refuses 15 ∷ refuses 15 ∷ refuses 15 ∷ []);
      claims = machine is whole (after_calls declared105 start) ∷ [];
    }
    -- as many as the type has are accepted, which parents they are aside
    ∷ record {
      source = calls declared105;
      output = tells [];
      claims =
          answer (impose 0 2 (1 ∷ 2 ∷ [])) is said (says true) ∷ answer (impose 0 2 (0 ∷ 0 ∷ [])) is said (says true)
          ∷ answer (impose 0 0 []) is said (says true) ∷ [];
    }
    -- 3 and 5 come before 15: five parents; an element, a type and a parent that are not there
    ∷ record {
      source = calls
          (declared105 ++ (impose 0 2 (1 ∷ 1 ∷ 1 ∷ 1 ∷ 1 ∷ []) ∷ impose 3 2 (1 ∷ []) ∷ impose 0 3 (1 ∷ []) ∷ impose 0 2 (3 ∷ []) ∷ []));
      output = tells (refuses 3 ∷ refuses 5 ∷ refuses 5 ∷ refuses 5 ∷ []);
      claims = [];
    }
    -- 15 comes before 9
    ∷ record {
      source = calls (typ plain [] ∷ down_from (suc max_impositions) (λ n. plain_el) ++ down_from max_impositions (λ n. impose n 0 []));
      output = tells [];
      claims = answer (impose max_impositions 0 (0 ∷ [])) is said (refuse 15) ∷ answer (impose max_impositions 0 []) is said (refuse 9) ∷ [];
    }
    -- of an application any number of parents is accepted
    ∷ record {
      source = calls (signature2 ++ (pred (0 ∷ []) [] ∷ plain_el ∷ app 0 [] [] 0 ∷ app 0 (0 ∷ 0 ∷ []) [] 0 ∷ predicate 0 [] [] ∷ []));
      output = tells [];
      claims =
          key 0 [] [] is result (some 0) ∷ key 0 (0 ∷ 0 ∷ []) [] is result (some 0)
          ∷ answer (predicate 0 (0 ∷ 0 ∷ []) []) is said (says true) ∷ [];
    }
    ∷ []

-- 02's numbers in the order of a record 9, where the application of id or comp has one argument too few
abbrev pub arg_count_rows : List Row
arg_count_rows =
    -- 12 for id without exactly one argument, and comp without exactly two; the machine is as it was
    record {
      source = calls
          (signature102
          ++ (plain_el ∷ app 2 [] [] 0 ∷ app 2 [] (0 ∷ 0 ∷ []) 0 ∷ app 3 [] [] 0 ∷ app 3 [] (0 ∷ []) 0 ∷ app 3 [] (0 ∷ 0 ∷ 0 ∷ []) 0 ∷ []));
      output = tells (refuses 12 ∷ refuses 12 ∷ refuses 12 ∷ refuses 12 ∷ refuses 12 ∷ []);
      claims = machine is whole (after_calls (signature102 ++ (plain_el ∷ [])) start) ∷ [];
    }
    -- any other count is accepted of dom, which is neither; 3 and 5 come before 12
    ∷ record {
      source = calls (signature102 ++ (plain_el ∷ app 0 [] [] 0 ∷ app 2 [] (0 ∷ 0 ∷ 0 ∷ 0 ∷ 0 ∷ []) 0 ∷ app 2 [] [] 1 ∷ app 3 [] (1 ∷ []) 0 ∷ []));
      output = tells (refuses 3 ∷ refuses 5 ∷ refuses 5 ∷ []);
      claims = key 0 [] [] is result (some 0) ∷ [];
    }
    -- with a record 5, of whichever model, 7 comes before 12
    ∷ record {
      source = calls
          (signature7
          ++ (model_of 1 3 (5 ∷ 6 ∷ 7 ∷ 8 ∷ []) ∷ plain_el ∷ app 2 [] [] 0 ∷ app 2 [] (0 ∷ []) 0 ∷ app 3 [] (0 ∷ 0 ∷ []) 0 ∷ app 7 [] (0 ∷ []) 0
          ∷ app 8 [] (0 ∷ 0 ∷ []) 0 ∷ []));
      output = tells (refuses 7 ∷ refuses 7 ∷ refuses 7 ∷ refuses 7 ∷ refuses 7 ∷ []);
      claims = [];
    }
    ∷ []

abbrev pub map_rows : List Row
map_rows =
    -- the identity's law: of its result dom and cod are its argument
    record {
      source = calls (signature102 ++ (plain_el ∷ plain_el ∷ identity 0 1 ∷ close ∷ close ∷ []));
      output = tells (closes 1 0 2 2 ∷ closes 0 0 1 0 ∷ []);
      claims = key 0 [] (1 ∷ []) is result (some 0) ∷ key 1 [] (1 ∷ []) is result (some 0) ∷ settled is flag true ∷ [];
    }
    -- the composite's laws, each from either side
    ∷ law_row 0 0 0 2
    ∷ law_row 0 2 0 0
    ∷ law_row 1 1 1 2
    ∷ law_row 1 2 1 1
    ∷ law_row 1 0 0 1
    ∷ law_row 0 1 1 0
    -- two values of one map are one: of two identities with one result the arguments are
    ∷ record {
      source = calls (signature102 ++ (plain_el ∷ plain_el ∷ plain_el ∷ identity 0 2 ∷ identity 1 2 ∷ close ∷ []));
      output = tells (closes 1 1 3 3 ∷ []);
      claims = link 1 is el 0 ∷ key 0 [] (2 ∷ []) is result (some 0) ∷ [];
    }
    -- the premises are read up to equality: the composite is of 0, dom is declared of 3, and 0 and 3 are one
    ∷ record {
      source = calls
          (signature102 ++ (down_from 6 (λ n. plain_el) ++ (composite 0 1 2 ∷ dom 3 4 ∷ dom 2 5 ∷ equate_els 0 3 ∷ close ∷ [])));
      output = tells (closes 1 2 3 5 ∷ []);
      claims = link 3 is el 0 ∷ link 5 is el 4 ∷ [];
    }
    -- a chain of composites against the order of the table: each round carries dom one composite further, so that there are more rounds than
    -- merges and two
    ∷ record {
      source = calls
          (signature102
          ++ (down_from 6 (λ n. plain_el) ++ (composite 0 4 3 ∷ composite 1 4 0 ∷ composite 2 4 1 ∷ dom 2 5 ∷ close ∷ [])));
      output = tells (closes 1 0 4 6 ∷ []);
      claims = key 0 [] (3 ∷ []) is result (some 5) ∷ [];
    }
    -- the laws of a composite in their order: the middle one, last, gives dom(0) = 2, which the next round gives to the composite
    ∷ record {
      source = calls (signature102 ++ (plain_el ∷ plain_el ∷ plain_el ∷ composite 0 0 1 ∷ cod 0 2 ∷ close ∷ []));
      output = tells (closes 1 0 3 3 ∷ []);
      claims = key 0 [] (1 ∷ []) is result (some 2) ∷ key 1 [] (1 ∷ []) is result (some 2) ∷ [];
    }
    -- an application that a law adds is a change, and so is a pair that it queues
    ∷ record {
      source = calls (signature102 ++ (plain_el ∷ plain_el ∷ dom 1 0 ∷ close ∷ identity 0 1 ∷ close ∷ []));
      output = tells (closes 1 0 2 2 ∷ closes 1 0 2 0 ∷ []);
      claims = settled is flag false ∷ [];
    }
    ∷ record {
      source = calls (signature102 ++ (plain_el ∷ plain_el ∷ plain_el ∷ dom 1 0 ∷ cod 1 2 ∷ close ∷ identity 0 1 ∷ close ∷ []));
      output = tells (closes 1 0 2 3 ∷ closes 1 1 3 0 ∷ []);
      claims = link 2 is el 0 ∷ [];
    }
    -- the laws of every model
    ∷ record {
      source = calls
          (types_and_funcs
          ++ (model_of 0 2 (0 ∷ 1 ∷ 2 ∷ 3 ∷ []) ∷ model_of 1 3 (4 ∷ 5 ∷ 6 ∷ 7 ∷ []) ∷ plain_el ∷ plain_el ∷ plain_el
          ∷ app 6 [] (0 ∷ []) 2 ∷ app 6 [] (1 ∷ []) 2 ∷ close ∷ []));
      output = tells (closes 1 1 3 2 ∷ []);
      claims = link 1 is el 0 ∷ key 4 [] (2 ∷ []) is result (some 0) ∷ [];
    }
    -- what is looked up is looked up under the stored parents: typing merges the marked 1 into 0, and the law finds dom(1; 2) = 5 in that round. By
    -- roots it would be found in the next one, and a third round would run
    ∷ record {
      source = calls
          (boxed102 ++ (plain_el ∷ marked_el ∷ down_from 5 (λ n. plain_el)
          ++ (app 4 (0 ∷ []) [] 6 ∷ app 4 (1 ∷ []) [] 6 ∷ app 3 (1 ∷ []) (2 ∷ 3 ∷ []) 4 ∷ app 0 (1 ∷ []) (2 ∷ []) 5 ∷ close ∷ [])));
      output = tells (closes 1 1 2 3 ∷ []);
      claims = link 1 is el 0 ∷ key 0 (0 ∷ []) (4 ∷ []) is result (some 5) ∷ [];
    }
    -- .. and the root of the argument: typing merges the marked 2 into 1, and the law of the composite of 2 finds dom(1) = 5
    ∷ record {
      source = calls
          (boxed102 ++ (plain_el ∷ plain_el ∷ marked_el ∷ down_from 4 (λ n. plain_el)
          ++ (app 4 (1 ∷ []) [] 6 ∷ app 4 (2 ∷ []) [] 6 ∷ composite 2 3 4 ∷ dom 1 5 ∷ close ∷ [])));
      output = tells (closes 1 1 2 3 ∷ []);
      claims = link 2 is el 1 ∷ key 0 [] (4 ∷ []) is result (some 5) ∷ [];
    }
    -- what is added is added as roots: typing merges the marked 1 into 0, and the identity over 1 meets dom(0; 3) = 4
    ∷ record {
      source = calls
          (boxed102 ++ (plain_el ∷ marked_el ∷ down_from 4 (λ n. plain_el)
          ++ (app 4 (0 ∷ []) [] 5 ∷ app 4 (1 ∷ []) [] 5 ∷ app 2 (1 ∷ []) (2 ∷ []) 3 ∷ app 0 (0 ∷ []) (3 ∷ []) 4 ∷ close ∷ [])));
      output = tells (closes 1 2 3 3 ∷ []);
      claims = link 4 is el 2 ∷ [];
    }
    -- a close shortens a path: typing merges 2 into 1 and 1 into 0, and then the law dom(4) = 0 meets the stored result 2, whose root it finds
    ∷ record {
      source = calls
          (boxed102
          ++ (plain_el ∷ marked_el ∷ marked_el ∷ plain_el ∷ plain_el
          ∷ app 4 (1 ∷ []) [] 3 ∷ app 4 (2 ∷ []) [] 3 ∷ app 5 (0 ∷ []) [] 3 ∷ dom 4 2 ∷ identity 0 4 ∷ close ∷ []));
      output = tells (closes 1 2 2 4 ∷ []);
      claims = link 1 is el 0 ∷ link 2 is el 0 ∷ [];
    }
    -- two elements in three closes, "the element count plus one": the first merges them in its impositions, the second finds by a law what that brought
    -- together and adds cod(0; 0) = 0, and the third reports no change
    ∷ record {
      source = calls
          (boxed102
          ++ (plain_el ∷ marked_el ∷ app 3 (1 ∷ []) (0 ∷ 0 ∷ []) 0 ∷ app 0 (0 ∷ []) (0 ∷ []) 0 ∷ impose 0 2 (0 ∷ []) ∷ impose 0 2 (1 ∷ []) ∷ settle ∷ []));
      output = tells (settles 3 1 ∷ []);
      claims = link 1 is el 0 ∷ key 1 (0 ∷ []) (0 ∷ []) is result (some 0) ∷ settled is flag true ∷ [];
    }
    ∷ arg_count_rows

-- How many facts were new (02, M-106). P1 to P5 and P8 to P10 below state F as every row does.
abbrev pub added_rows : List Row
added_rows =
    -- "and no others": a merge moves the fact of 1 to 0, and none is new
    record {
      source = calls
          (typ plain [] ∷ typ plain [] ∷ plain_el ∷ plain_el ∷ impose 0 0 [] ∷ impose 1 1 [] ∷ close ∷ equate_els 0 1 ∷ close ∷ []);
      output = tells (closes 1 0 1 2 ∷ closes 1 1 2 0 ∷ []);
      claims = facts 0 is fact_list (fact 0 0 [] ∷ fact 0 1 [] ∷ []) ∷ facts 1 is fact_list [] ∷ [];
    }
    -- "that enlarged a set": one fact demanded twice and imposed is new once, in its first close
    ∷ record {
      source = calls
          (typ plain [] ∷ func [] (0 ∷ []) 0 ∷ plain_el ∷ app 0 [] (0 ∷ []) 0 ∷ impose 0 0 [] ∷ close ∷ close ∷ []);
      output = tells (closes 1 0 2 1 ∷ closes 0 0 1 0 ∷ []);
      claims = facts 0 is fact_list (fact 0 0 [] ∷ []) ∷ [];
    }
    -- a canonical copy beside a stale one enlarges the set, also where the imposing that brings it merged: 2 has the type with parent 1, the marked 1 is merged
    -- with 0, and the type with parent 0 is inserted; `canonicalise_refs` makes the two one
    ∷ record {
      source = calls (types2 ++ (plain_el ∷ marked_el ∷ plain_el ∷ impose 2 1 (1 ∷ []) ∷ impose 2 1 (0 ∷ []) ∷ close ∷ []));
      output = tells (closes 1 1 1 2 ∷ []);
      claims = link 1 is el 0 ∷ facts 2 is fact_list (fact 2 1 (0 ∷ []) ∷ []) ∷ [];
    }
    -- a close that changes something with no merge and no new fact: a law inserts an application. There are four before it and four after it, since the first
    -- close merged 1 with 0 in its impositions, and `functionality` makes one of two keys
    ∷ record {
      source = calls
          (boxed102
          ++ (plain_el ∷ marked_el ∷ app 3 (1 ∷ []) (0 ∷ 0 ∷ []) 0 ∷ app 0 (0 ∷ []) (0 ∷ []) 0 ∷ app 1 (0 ∷ []) [] 0 ∷ app 1 (1 ∷ []) [] 0
          ∷ impose 0 2 (0 ∷ []) ∷ impose 0 2 (1 ∷ []) ∷ close ∷ close ∷ []));
      output = tells (closes 1 1 2 2 ∷ closes 1 0 2 0 ∷ []);
      claims = key 1 (0 ∷ []) (0 ∷ []) is result (some 0) ∷ key 1 (1 ∷ []) [] is result none ∷ [];
    }
    ∷ []

-- The table.

unfoldable pub table : List Row
table =
    -- P1: "fresh, close"
    record { source = calls (close ∷ []); output = tells (closes 0 0 1 0 ∷ []); claims = settled is flag true ∷ [] }
    -- P1 as a sheet
    ∷ record { source = sheet (entry 0 13 0 0 [] []); output = prints (lines ("close 0 0 1 0" ∷ "end 1" ∷ [])); claims = [] }
    -- P2: "whole, chained 0 to 11": two types, the function, four elements, two applications, the equality, close, conflicts
    ∷ record {
      source = sheet
          (entry 1 1 1 0 [] []
          ++ entry 2 1 0 0 (0 ∷ []) []
          ++ entry 3 3 0 1 (0 ∷ []) []
          ++ entry 4 6 0 0 [] []
          ++ entry 5 6 0 0 [] []
          ++ entry 6 6 0 0 [] []
          ++ entry 7 6 0 0 [] []
          ++ entry 8 9 0 2 (0 ∷ []) []
          ++ entry 9 9 0 3 (1 ∷ []) []
          ++ entry 10 7 2 3 [] []
          ++ entry 11 13 0 0 [] []
          ++ entry 0 14 0 0 [] []);
      output = prints (lines ("close 1 1 2 2" ∷ "conflict 2 1 0 / 1 1" ∷ "conflicts 1" ∷ "end 12" ∷ []));
      claims = link 3 is el 2 ∷ facts 2 is fact_list (fact 2 1 (0 ∷ []) ∷ fact 2 1 (1 ∷ []) ∷ []) ∷ [];
    }
    -- P2 as calls
    ∷ record {
      source = calls
          (signature2
          ++ (plain_el ∷ plain_el ∷ plain_el ∷ plain_el
          ∷ app 0 (0 ∷ []) [] 2 ∷ app 0 (1 ∷ []) [] 3 ∷ equate_els 2 3 ∷ close ∷ type_conflicts ∷ []));
      output = tells (closes 1 1 2 2 ∷ conflicts (conflict 2 (fact 2 1 (0 ∷ [])) (fact 2 1 (1 ∷ [])) ∷ []) 1 ∷ []);
      claims = [];
    }
    -- P3: "one-argument function, 0 to 2, 1 to 3, equality 0, 1"; its domain and codomain are one Plain type
    ∷ record {
      source = calls
          (typ plain [] ∷ func [] (0 ∷ []) 0 ∷ plain_el ∷ plain_el ∷ plain_el ∷ plain_el
          ∷ app 0 [] (0 ∷ []) 2 ∷ app 0 [] (1 ∷ []) 3 ∷ equate_els 0 1 ∷ close ∷ []);
      output = tells (closes 1 2 3 2 ∷ []);
      claims = link 1 is el 0 ∷ link 3 is el 2 ∷ key 0 [] (0 ∷ []) is result (some 2) ∷ key 0 [] (1 ∷ []) is result none ∷ [];
    }
    -- P4: "Close `1 0 1`."
    ∷ record {
      source = calls (imposed4 ++ (close ∷ []));
      output = tells (closes 1 0 1 1 ∷ []);
      claims = facts 2 is fact_list (fact 2 1 (1 ∷ []) ∷ []) ∷ settled is flag false ∷ [];
    }
    -- P4: "Equality 0, 1: close `1 1 2`"; "2 has one fact"
    ∷ record {
      source = calls (imposed4 ++ (close ∷ equate_els 0 1 ∷ close ∷ []));
      output = tells (closes 1 0 1 1 ∷ closes 1 1 2 1 ∷ []);
      claims = facts 2 is fact_list (fact 2 1 (0 ∷ []) ∷ []) ∷ settled is flag false ∷ [];
    }
    -- P4: "then `0 0 1`; 2 has one fact"
    ∷ record {
      source = calls (imposed4 ++ (close ∷ equate_els 0 1 ∷ close ∷ close ∷ []));
      output = tells (closes 1 0 1 1 ∷ closes 1 1 2 1 ∷ closes 0 0 1 0 ∷ []);
      claims = facts 2 is fact_list (fact 2 1 (0 ∷ []) ∷ []) ∷ settled is flag true ∷ [];
    }
    -- P5: "`1 1 2`, parent 1 stale in a key"
    ∷ record {
      source = calls (imposed5 ++ (close ∷ []));
      output = tells (closes 1 1 2 3 ∷ []);
      claims =
          link 1 is el 0 ∷ key 0 (0 ∷ []) [] is result (some 2) ∷ key 0 (1 ∷ []) [] is result (some 3)
          ∷ facts 4 is fact_list (fact 4 1 (0 ∷ []) ∷ []) ∷ [];
    }
    -- P5: "then `1 1 3`": no key has parent 1 any more
    ∷ record {
      source = calls (imposed5 ++ (close ∷ close ∷ []));
      output = tells (closes 1 1 2 3 ∷ closes 1 1 3 0 ∷ []);
      claims = link 3 is el 2 ∷ key 0 (0 ∷ []) [] is result (some 2) ∷ key 0 (1 ∷ []) [] is result none ∷ [];
    }
    -- P5: "then `0 0 1`"
    ∷ record {
      source = calls (imposed5 ++ (close ∷ close ∷ close ∷ []));
      output = tells (closes 1 1 2 3 ∷ closes 1 1 3 0 ∷ closes 0 0 1 0 ∷ []);
      claims = settled is flag true ∷ [];
    }
    -- P1 as a settle: "repeats close until one reports no change", and with no element that is the first
    ∷ record { source = calls (settle ∷ []); output = tells (settles 1 0 ∷ []); claims = settled is flag true ∷ [] }
    ∷ record { source = sheet (entry 0 15 0 0 [] []); output = prints (lines ("settle 1 0" ∷ "end 1" ∷ [])); claims = [] }
    -- P4 as settles
    ∷ record {
      source = calls (imposed4 ++ (settle ∷ equate_els 0 1 ∷ settle ∷ []));
      output = tells (settles 2 0 ∷ settles 2 1 ∷ []);
      claims = facts 2 is fact_list (fact 2 1 (0 ∷ []) ∷ []) ∷ settled is flag true ∷ [];
    }
    -- P5 as a settle; the next one has nothing to do
    ∷ record {
      source = calls (imposed5 ++ (settle ∷ []));
      output = tells (settles 3 2 ∷ []);
      claims =
          link 1 is el 0 ∷ link 3 is el 2 ∷ key 0 (0 ∷ []) [] is result (some 2) ∷ key 0 (1 ∷ []) [] is result none
          ∷ facts 4 is fact_list (fact 4 1 (0 ∷ []) ∷ []) ∷ settled is flag true ∷ answer settle is said (steps.summed (totals 1 0)) ∷ [];
    }
    -- "at most the element count plus one closes": with one element as many
    ∷ record {
      source = calls (typ plain [] ∷ plain_el ∷ impose 0 0 [] ∷ settle ∷ []);
      output = tells (settles 2 0 ∷ []);
      claims = facts 0 is fact_list (fact 0 0 [] ∷ []) ∷ [];
    }
    -- four elements in four closes: each close but the last merges one element with 0, which brings 0 a fact whose parent the next close merges
    ∷ record {
      source = calls
          (types2
          ++ (typ plain (0 ∷ []) ∷ plain_el ∷ marked_el ∷ marked_el ∷ marked_el ∷ impose 0 2 (1 ∷ []) ∷ impose 2 2 (0 ∷ [])
          ∷ impose 0 1 (3 ∷ []) ∷ impose 3 1 (2 ∷ []) ∷ impose 0 1 (0 ∷ []) ∷ settle ∷ []));
      output = tells (settles 4 3 ∷ []);
      claims = link 1 is el 0 ∷ link 2 is el 0 ∷ link 3 is el 0 ∷ [];
    }
    -- P6: "a type with two parents, given 7: absent; given 7, 8, 9: parents 7, 8"
    ∷ record {
      source = calls
          (typ model [] ∷ typ model [] ∷ typ plain (0 ∷ 1 ∷ []) ∷ lookup_type 2 (7 ∷ []) ∷ lookup_type 2 (7 ∷ 8 ∷ 9 ∷ []) ∷ []);
      output = tells (types none ∷ types (some (concrete_type 2 (7 ∷ 8 ∷ []))) ∷ []);
      claims = [];
    }
    -- P7: "one type imposed on one element with parents 1 and with 1, 2"; the type has two parents. M-105: "case P7 becomes a refusal"
    ∷ record {
      source = calls (declared105 ++ (impose 0 2 (1 ∷ []) ∷ impose 0 2 (1 ∷ 2 ∷ []) ∷ close ∷ type_conflicts ∷ []));
      output = tells (refuses 15 ∷ closes 1 0 1 1 ∷ conflicts [] 0 ∷ []);
      claims = facts 0 is fact_list (fact 0 2 (1 ∷ 2 ∷ []) ∷ []) ∷ [];
    }
    -- P7 as a sheet, which stops there
    ∷ record {
      source = sheet
          (entry 1 1 1 0 [] []
          ++ entry 2 1 1 0 [] []
          ++ entry 3 1 0 0 (0 ∷ 1 ∷ []) []
          ++ entry 4 6 0 0 [] []
          ++ entry 5 6 0 0 [] []
          ++ entry 6 6 0 0 [] []
          ++ entry 7 8 0 2 (1 ∷ []) []
          ++ entry 8 8 0 2 (1 ∷ 2 ∷ []) []
          ++ entry 9 13 0 0 [] []
          ++ entry 0 14 0 0 [] []);
      output = prints (lines ("refused 15 at 6" ∷ []));
      claims = machine is whole (after_calls declared105 start) ∷ [];
    }
    -- P8: "equalities (1, 2), (0, 2): 1 and 2 link to 0"
    ∷ record {
      source = calls (plain_el ∷ plain_el ∷ plain_el ∷ equate_els 1 2 ∷ equate_els 0 2 ∷ close ∷ []);
      output = tells (closes 1 2 2 0 ∷ []);
      claims = link 1 is el 0 ∷ link 2 is el 0 ∷ [];
    }
    -- P9: "both marked, merged: marked"
    ∷ record {
      source = calls (marked_el ∷ marked_el ∷ equate_els 0 1 ∷ close ∷ []);
      output = tells (closes 1 1 2 0 ∷ []);
      claims = link 1 is el 0 ∷ mark 0 is flag true ∷ mark 1 is flag false ∷ [];
    }
    -- P9: "One marked: unmarked", of the root that stays
    ∷ record {
      source = calls (marked_el ∷ plain_el ∷ equate_els 0 1 ∷ close ∷ []);
      output = tells (closes 1 1 2 0 ∷ []);
      claims = link 1 is el 0 ∷ mark 0 is flag false ∷ mark 1 is flag false ∷ [];
    }
    -- P9: "One marked: unmarked", of the root that is linked
    ∷ record {
      source = calls (plain_el ∷ marked_el ∷ equate_els 0 1 ∷ close ∷ []);
      output = tells (closes 1 1 2 0 ∷ []);
      claims = link 1 is el 0 ∷ mark 0 is flag false ∷ mark 1 is flag false ∷ [];
    }
    -- P10: "equality 0, 0: `close 0 0 1`"
    ∷ record { source = calls (plain_el ∷ equate_els 0 0 ∷ close ∷ []); output = tells (closes 0 0 1 0 ∷ []); claims = link 0 is el 0 ∷ [] }
    -- "a structure counts as settled when its latest accepted close reported no change; a fresh one does not"
    ∷ record { source = calls []; output = tells []; claims = settled is flag false ∷ [] }
    ∷ record { source = calls (close ∷ plain_el ∷ []); output = tells (closes 0 0 1 0 ∷ []); claims = settled is flag true ∷ [] }
    -- M-101: ".. and no equality, imposition or application accepted since was answered with yes"; each of these is
    ∷ record {
      source = calls settled101;
      output = tells (settles 2 1 ∷ []);
      claims =
          settled is flag true
          ∷ map (λ (k : Call). answer k is said (says true)) yes101;
    }
    ∷ map (λ (k : Call). record { source = calls (settled101 ++ (k ∷ [])); output = tells (settles 2 1 ∷ []); claims = settled is flag false ∷ [] }) yes101
    -- the question goes by answers: it says no here, and a close would report no change
    ++ record {
      source = calls (settled101 ++ (predicate 0 [] (2 ∷ []) ∷ []));
      output = tells (settles 2 1 ∷ []);
      claims = settled is flag false ∷ answer close is said (closed (report false 0 1 0)) ∷ [];
    }
    -- after a yes nothing but a close gives it back
    ∷ record {
      source = calls
          (settled101
          ++ (equate_els 0 1 ∷ equate_els 1 2 ∷ impose 2 0 [] ∷ plain_el ∷ var 0 2 ∷ type_conflicts ∷ steps.root 2 ∷ lookup_type 0 []
          ∷ ambient_parents [] ∷ equate_els 0 9 ∷ []));
      output = tells (settles 2 1 ∷ conflicts [] 0 ∷ types (some (concrete_type 0 [])) ∷ refuses 5 ∷ []);
      claims = settled is flag false ∷ answer close is said (closed (report true 1 2 0)) ∷ [];
    }
    -- calls answered with no, calls that are none of these, and refused ones: settled stays, and the next close and settle find nothing to do
    ∷ record {
      source = calls
          (settled101
          ++ (equate_els 1 2 ∷ impose 2 0 [] ∷ app 0 [] (0 ∷ []) 0 ∷ predicate 0 [] (1 ∷ []) ∷ plain_el ∷ marked_el ∷ var 0 2 ∷ ambient_el 1 0
          ∷ type_conflicts ∷ steps.root 2 ∷ steps.root_const 2 ∷ lookup_type 0 [] ∷ ambient_parents (1 ∷ []) ∷ equate_els 0 9 ∷ typ plain [] ∷ []));
      output = tells (settles 2 1 ∷ conflicts [] 0 ∷ types (some (concrete_type 0 [])) ∷ refuses 5 ∷ refuses 4 ∷ []);
      claims =
          settled is flag true ∷ answer close is said (closed (report false 0 1 0)) ∷ answer settle is said (steps.summed (totals 1 0)) ∷ [];
    }
    -- "Impositions stay queued", with parents as roots, and the same one is not queued again
    ∷ record {
      source = calls (imposed4 ++ (equate_els 0 1 ∷ close ∷ []));
      output = tells (closes 1 1 2 1 ∷ []);
      claims = impositions is fact_list (fact 2 1 (0 ∷ []) ∷ []) ∷ answer (impose 2 1 (1 ∷ [])) is said (says false) ∷ [];
    }
    -- "`canonicalise_refs` rewrites predicate applications, .. ; .. ambient elements it leaves untouched"
    ∷ record {
      source = calls
          (typ model [] ∷ pred [] (0 ∷ []) ∷ plain_el ∷ plain_el
          ∷ predicate 0 [] (1 ∷ []) ∷ ambient_el 0 1 ∷ equate_els 0 1 ∷ close ∷ []);
      output = tells (closes 1 1 2 1 ∷ []);
      claims =
          answer (predicate 0 [] (0 ∷ [])) is said (says false) ∷ answer (predicate 0 [] (1 ∷ [])) is said (says true)
          ∷ answer (ambient_parents (0 ∷ [])) is said (els (1 ∷ [])) ∷ [];
    }
    -- "the first later fact that disagrees is reported and the search moves on to the next class": three facts, then two of another class
    ∷ record {
      source = calls
          (types2
          ++ (typ plain [] ∷ plain_el ∷ plain_el ∷ plain_el ∷ impose 0 1 (0 ∷ []) ∷ impose 0 1 (1 ∷ []) ∷ impose 0 1 (2 ∷ [])
          ∷ impose 1 0 [] ∷ impose 1 2 [] ∷ close ∷ type_conflicts ∷ []));
      output = tells
          (closes 1 0 1 5
          ∷ conflicts (conflict 0 (fact 0 1 (0 ∷ [])) (fact 0 1 (1 ∷ [])) ∷ conflict 1 (fact 1 0 []) (fact 1 2 []) ∷ []) 1
          ∷ []);
      claims = [];
    }
    -- M-103: no class with two stored facts, no find
    ∷ record { source = calls (reported (fact 0 2 (0 ∷ []) ∷ fact 1 3 (0 ∷ 1 ∷ 2 ∷ 0 ∷ []) ∷ [])); output = tells (closes 1 0 1 2 ∷ conflicts [] 0 ∷ []); claims = [] }
    -- M-103: a class with three facts: the parent of the first one, whichever facts come after it
    ∷ record {
      source = calls (reported (fact 0 2 (2 ∷ []) ∷ fact 0 2 (1 ∷ []) ∷ fact 0 3 (0 ∷ 1 ∷ 2 ∷ 0 ∷ []) ∷ []));
      output = tells (closes 1 0 1 3 ∷ conflicts (conflict 0 (fact 0 2 (1 ∷ [])) (fact 0 2 (2 ∷ [])) ∷ []) 1 ∷ []);
      claims = [];
    }
    -- M-103: three classes: a first fact with four parents, also where none is compared, one without, and one whose parent was found before
    ∷ record {
      source = calls
          (reported
          (fact 0 3 (0 ∷ 1 ∷ 2 ∷ 0 ∷ []) ∷ fact 0 4 [] ∷ fact 1 1 [] ∷ fact 1 2 (0 ∷ []) ∷ fact 2 2 (0 ∷ []) ∷ fact 2 4 [] ∷ []));
      output = tells
          (closes 1 0 1 6
          ∷ conflicts
          (conflict 0 (fact 0 3 (0 ∷ 1 ∷ 2 ∷ 0 ∷ [])) (fact 0 4 []) ∷ conflict 1 (fact 1 1 []) (fact 1 2 (0 ∷ []))
          ∷ conflict 2 (fact 2 2 (0 ∷ [])) (fact 2 4 []) ∷ []) 5
          ∷ []);
      claims = [];
    }
    -- M-103: stored facts that are one as roots are two stored facts; 1 is in the class of 0. No list of calls leaves such facts
    ∷ record {
      source = calls_from (set_facts (fact 2 2 (0 ∷ []) ∷ fact 2 2 (1 ∷ []) ∷ []) merged103) (type_conflicts ∷ []);
      output = tells (conflicts [] 1 ∷ []);
      claims = link 1 is el 0 ∷ [];
    }
    -- M-103: the first fact is the first in the order of roots; all later ones agree with it up to the shorter length, and its parent is found once.
    -- No list of calls makes facts of one type with different numbers of parents (M-105)
    ∷ record {
      source = calls_from (set_facts (fact 2 3 (0 ∷ 2 ∷ []) ∷ fact 2 3 (0 ∷ 2 ∷ 2 ∷ []) ∷ fact 2 3 (1 ∷ []) ∷ []) merged103) (type_conflicts ∷ []);
      output = tells (conflicts [] 1 ∷ []);
      claims = [];
    }
    -- `canonicalise_refs` rewrites facts at the end of a close only: the typing of round 1 stores type 1 with parent 1 at element 3, then merges
    -- 1 into 0; in round 2 it stores the same fact with parent 0, so that a third round runs
    ∷ record {
      source = calls
          (signature2
          ++ (func (0 ∷ []) [] 1 ∷ plain_el ∷ marked_el ∷ plain_el ∷ plain_el
          ∷ app 0 (1 ∷ []) [] 3 ∷ app 1 (0 ∷ []) [] 2 ∷ app 1 (1 ∷ []) [] 2 ∷ close ∷ []));
      output = tells (closes 1 1 3 3 ∷ []);
      claims = link 1 is el 0 ∷ facts 3 is fact_list (fact 3 1 (0 ∷ []) ∷ []) ∷ [];
    }
    -- "`typing` does function arguments, predicate arguments, ..": element 3 has type 1 with parent 2 as an argument of a function, then with
    -- the marked 0 and with 1 as an argument of a predicate, so that 0 merges with 2
    ∷ record {
      source = calls
          (types2
          ++ (func (0 ∷ []) (1 ∷ []) 0 ∷ pred (0 ∷ []) (1 ∷ []) ∷ marked_el ∷ plain_el ∷ plain_el ∷ plain_el ∷ plain_el
          ∷ app 0 (2 ∷ []) (3 ∷ []) 4 ∷ predicate 0 (0 ∷ []) (3 ∷ []) ∷ predicate 0 (1 ∷ []) (3 ∷ []) ∷ close ∷ []));
      output = tells (closes 1 1 2 4 ∷ []);
      claims = link 1 is el 1 ∷ link 2 is el 0 ∷ [];
    }
    -- ".. predicate arguments, function results": element 3 has type 1 with parent 2 as an argument of a predicate, then with the marked 0 and
    -- with 1 as a result
    ∷ record {
      source = calls
          (signature2
          ++ (pred (0 ∷ []) (1 ∷ []) ∷ marked_el ∷ plain_el ∷ plain_el ∷ plain_el
          ∷ predicate 0 (2 ∷ []) (3 ∷ []) ∷ app 0 (0 ∷ []) [] 3 ∷ app 0 (1 ∷ []) [] 3 ∷ close ∷ []));
      output = tells (closes 1 1 2 3 ∷ []);
      claims = link 1 is el 1 ∷ link 2 is el 0 ∷ [];
    }
    -- number 4, "kinds 1 to 5 after any accepted of 6 to 14", and a refused call leaves the machine as it was
    ∷ record {
      source = calls (plain_el ∷ typ plain [] ∷ []);
      output = tells (refuses 4 ∷ []);
      claims = machine is whole (after_calls (plain_el ∷ []) start) ∷ [];
    }
    -- a structure that no call makes, with an imposition on an element that is not there: the bound ends the settle before it is settled
    ∷ record {
      source = calls_from imposition_on_none (settle ∷ close ∷ settle ∷ []);
      output = tells (settles 1 0 ∷ closes 0 0 1 0 ∷ settles 1 0 ∷ []);
      claims = [];
    }
    ∷ record { source = calls_from imposition_on_none (settle ∷ []); output = tells (settles 1 0 ∷ []); claims = settled is flag false ∷ [] }
    -- "Number 4 treats kind 15 as it does 14", and a settle of one close leaves what the close leaves
    ∷ record {
      source = calls (settle ∷ typ plain [] ∷ []);
      output = tells (settles 1 0 ∷ refuses 4 ∷ []);
      claims = machine is whole (after_calls (close ∷ []) start) ∷ [];
    }
    -- numbers 3, 4 and 5 leave the machine as it was
    ∷ record {
      source = calls
          (imposed5 ++ (impose 0 0 (0 ∷ 0 ∷ 0 ∷ 0 ∷ 0 ∷ []) ∷ func [] [] 0 ∷ equate_els 0 9 ∷ app 1 [] [] 0 ∷ lookup_type 2 [] ∷ []));
      output = tells (refuses 3 ∷ refuses 4 ∷ refuses 5 ∷ refuses 5 ∷ refuses 5 ∷ []);
      claims = machine is whole (after_calls imposed5 start) ∷ [];
    }
    -- "Record 0 comes first; next index 0 ends the chain": records 0, 2, 1, and record 3 is not visited
    ∷ record {
      source = sheet (entry 2 6 0 0 [] [] ++ entry 0 14 0 0 [] [] ++ entry 1 13 0 0 [] [] ++ entry 0 16 0 0 [] []);
      output = prints (lines ("close 0 0 1 0" ∷ "conflicts 0" ∷ "end 3" ∷ []));
      claims = [];
    }
    -- "A refusal prints `refused N at I` (record index, ..) and stops"
    ∷ record {
      source = sheet (entry 1 13 0 0 [] [] ++ entry 2 7 0 0 [] [] ++ entry 0 13 0 0 [] []);
      output = prints (lines ("close 0 0 1 0" ∷ "refused 5 at 1" ∷ []));
      claims = machine is whole (after_calls (close ∷ []) start) ∷ [];
    }
    -- number 1: "sheet empty, not a multiple of 32 bytes"
    ∷ record { source = sheet []; output = prints (lines ("refused 1 at 0" ∷ [])); claims = machine is whole start ∷ [] }
    ∷ record {
      source = sheet (take 31 (entry 0 13 0 0 [] []));
      output = prints (lines ("refused 1 at 0" ∷ []));
      claims = machine is whole start ∷ [];
    }
    -- number 2: "next index not in the sheet"
    ∷ record {
      source = sheet (entry 1 13 0 0 [] []);
      output = prints (lines ("refused 2 at 0" ∷ []));
      claims = machine is whole start ∷ [];
    }
    -- number 2: "not zero on the N-th record visited of N"; "all that earlier records made" is left
    ∷ record {
      source = sheet (entry 1 6 0 0 [] [] ++ entry 1 13 0 0 [] []);
      output = prints (lines ("refused 2 at 1" ∷ []));
      claims = machine is whole (after_calls (plain_el ∷ []) start) ∷ [];
    }
    -- number 3: "kind .. outside the above"
    ∷ record {
      source = sheet (entry 0 16 0 0 [] []);
      output = prints (lines ("refused 3 at 0" ∷ []));
      claims = machine is whole start ∷ [];
    }
    -- number 3: ".. or an unused word outside the above": B of a close
    ∷ record {
      source = sheet (entry 0 13 0 1 [] []);
      output = prints (lines ("refused 3 at 0" ∷ []));
      claims = machine is whole start ∷ [];
    }
    -- number 3: ".., key, A ..": a variable of key 64, an element of mark 2
    ∷ record {
      source = calls (plain_el ∷ var max_vars 0 ∷ []);
      output = tells (refuses 3 ∷ []);
      claims = machine is whole (after_calls (plain_el ∷ []) start) ∷ [];
    }
    ∷ record {
      source = sheet (entry 0 6 2 0 [] []);
      output = prints (lines ("refused 3 at 0" ∷ []));
      claims = machine is whole start ∷ [];
    }
    -- number 6: "Mor's model, or a type in 4 or 12, not Model; record 4's mor not a Mor of A; record 5's morphism type not Mor"
    ∷ record {
      source = calls
          (types_and_funcs
          ++ (typ (mor 4) [] ∷ model_of 4 2 (0 ∷ 1 ∷ 2 ∷ 3 ∷ []) ∷ model_of 0 3 (0 ∷ 1 ∷ 2 ∷ 3 ∷ []) ∷ model_of 0 4 (0 ∷ 1 ∷ 2 ∷ 3 ∷ [])
          ∷ mor_app 4 0 4 ∷ plain_el ∷ ambient_el 4 0 ∷ []));
      output = tells (refuses 6 ∷ refuses 6 ∷ refuses 6 ∷ refuses 6 ∷ refuses 6 ∷ refuses 6 ∷ []);
      claims = [];
    }
    -- number 7: "application of id, comp or a morphism application function", where a record 5 stands; dom may be applied
    ∷ record {
      source = calls (signature7 ++ (plain_el ∷ app 2 [] [] 0 ∷ app 3 [] [] 0 ∷ app 4 [] [] 0 ∷ []));
      output = tells (refuses 7 ∷ refuses 7 ∷ refuses 7 ∷ []);
      claims = answer (app 0 [] [] 0) is said (says true) ∷ [];
    }
    -- number 8: "model type, function in records 4 and 5, morphism pair, .. given again"
    ∷ record {
      source = calls (signature7 ++ (model_of 0 2 (5 ∷ 6 ∷ 7 ∷ 8 ∷ []) ∷ []));
      output = tells (refuses 8 ∷ []);
      claims = [];
    }
    ∷ record {
      source = calls signature7;
      output = tells [];
      claims =
          answer (model_of 1 3 (5 ∷ 6 ∷ 7 ∷ 0 ∷ [])) is said (refuse 8) ∷ answer (model_of 1 3 (4 ∷ 6 ∷ 7 ∷ 8 ∷ [])) is said (refuse 8)
          ∷ answer (model_of 1 3 (5 ∷ 6 ∷ 7 ∷ 5 ∷ [])) is said (refuse 8) ∷ answer (mor_app 3 3 4) is said (refuse 8)
          ∷ answer (mor_app 4 3 4) is said (refuse 8) ∷ answer (mor_app 5 2 4) is said (refuse 8) ∷ [];
    }
    -- number 8: ".., variable or ambient given again"
    ∷ record {
      source = calls (typ model [] ∷ plain_el ∷ plain_el ∷ var 7 0 ∷ var 7 1 ∷ ambient_el 0 0 ∷ ambient_el 0 1 ∷ []);
      output = tells (refuses 8 ∷ refuses 8 ∷ []);
      claims = machine is whole (after_calls (typ model [] ∷ plain_el ∷ plain_el ∷ var 7 0 ∷ ambient_el 0 0 ∷ []) start) ∷ [];
    }
    -- number 9: "an entry needed, its table at its limit": one type, predicate and function too many
    ∷ record {
      source = calls
          (down_from (suc max_types) (λ n. typ plain []) ++ (down_from (suc max_preds) (λ n. pred [] []) ++ down_from (suc max_funcs) (λ n. func [] [] 0)));
      output = tells (refuses 9 ∷ refuses 9 ∷ refuses 9 ∷ []);
      claims = [];
    }
    -- number 9: one element and one pair too many
    ∷ record {
      source = calls (down_from (suc max_els) (λ n. plain_el) ++ down_from (suc max_pairs) (λ n. equate_els 0 0));
      output = tells (refuses 9 ∷ refuses 9 ∷ []);
      claims = [];
    }
    -- number 9: one imposition too many; one that is queued needs no entry
    ∷ record {
      source = calls (typ plain [] ∷ down_from (suc max_impositions) (λ n. plain_el) ++ down_from (suc max_impositions) (λ n. impose n 0 []));
      output = tells (refuses 9 ∷ []);
      claims = answer (impose 1 0 []) is said (says false) ∷ [];
    }
    -- number 9: one function application and one predicate application too many
    ∷ record {
      source = calls
          (typ plain []
          ∷ down_from max_funcs (λ n. func [] [] 0)
          ++ (down_from max_preds (λ n. pred [] [])
          ++ (down_from 16 (λ n. plain_el)
          ++ (down_from (suc max_func_apps) (λ n. app (n / 16) [] (n % 16 ∷ []) 0)
          ++ down_from (suc max_pred_apps) (λ n. predicate (n / 16) [] (n % 16 ∷ []))))));
      output = tells (refuses 9 ∷ refuses 9 ∷ []);
      claims = answer (app 1 [] (0 ∷ []) 0) is said (says false) ∷ answer (predicate 1 [] (0 ∷ [])) is said (says false) ∷ [];
    }
    -- number 10: "ambient lookup of a type with none"
    ∷ record {
      source = calls (typ model [] ∷ typ model [] ∷ plain_el ∷ ambient_el 0 0 ∷ ambient_parents (0 ∷ 1 ∷ []) ∷ []);
      output = tells (refuses 10 ∷ []);
      claims = machine is whole (after_calls (typ model [] ∷ typ model [] ∷ plain_el ∷ ambient_el 0 0 ∷ []) start) ∷ [];
    }
    -- number 11: "the close would at some moment hold 1,025 facts": 1,024 are held, and the next refuses the close; a fact that is
    -- there is no other one; the rows on a settle that meets 11 in its second close are in RefusedSettle
    ∷ record {
      source = calls_from (holding (max_facts - 1)) (impose max_types 0 [] ∷ close ∷ []);
      output = tells (closes 1 0 1 1 ∷ []);
      claims = [];
    }
    ∷ record {
      source = calls_from (holding max_facts) (impose 0 0 [] ∷ close ∷ []);
      output = tells (closes 0 0 1 0 ∷ []);
      claims = [];
    }
    ∷ record {
      source = calls_from (holding max_facts) (impose max_types 0 [] ∷ close ∷ settle ∷ []);
      output = tells (refuses 11 ∷ refuses 11 ∷ []);
      claims = [];
    }
    -- number 3: ".. or an unused word outside the above": of a settle these are all but the first two
    ∷ map settle_with (2 ∷ 3 ∷ 4 ∷ 5 ∷ 6 ∷ 7 ∷ 8 ∷ 9 ∷ 10 ∷ 11 ∷ 12 ∷ 13 ∷ 14 ∷ 15 ∷ []) ++ (map_rows ++ (parent_count_rows ++ added_rows))

-- The theorem.

-- what two functions make of a list's first n entries, and of the others
joined : {A B : Type 0} (f g : A → B) (n : ℕ) (l : List A) → map f (take n l) ≡ map g (take n l) → map f (drop n l) ≡ map g (drop n l) → map f l ≡ map g l
joined f g zero l a b = b
joined f g (suc n) [] a b = refl
joined f g (suc n) (x ∷ xs) a b = cc (joined f g n xs (cc) b)

-- the rows by computing, a few at a time

rows_0 : map shown_by (take 8 (drop 0 table)) ≡ map stated_by (take 8 (drop 0 table))
unfolding everything stated answers_of output_of machine_of look shown_by stated_by bytes_of lines little_endian entry down_from facts_before table
rows_0 = refl

rows_1 : map shown_by (take 8 (drop 8 table)) ≡ map stated_by (take 8 (drop 8 table))
unfolding everything stated answers_of output_of machine_of look shown_by stated_by bytes_of lines little_endian entry down_from facts_before table
rows_1 = refl

rows_2 : map shown_by (take 8 (drop 16 table)) ≡ map stated_by (take 8 (drop 16 table))
unfolding everything stated answers_of output_of machine_of look shown_by stated_by bytes_of lines little_endian entry down_from facts_before table
rows_2 = refl

rows_3 : map shown_by (take 8 (drop 24 table)) ≡ map stated_by (take 8 (drop 24 table))
unfolding everything stated answers_of output_of machine_of look shown_by stated_by bytes_of lines little_endian entry down_from facts_before table
rows_3 = refl

rows_4 : map shown_by (take 8 (drop 32 table)) ≡ map stated_by (take 8 (drop 32 table))
unfolding everything stated answers_of output_of machine_of look shown_by stated_by bytes_of lines little_endian entry down_from facts_before table
rows_4 = refl

rows_5 : map shown_by (take 8 (drop 40 table)) ≡ map stated_by (take 8 (drop 40 table))
unfolding everything stated answers_of output_of machine_of look shown_by stated_by bytes_of lines little_endian entry down_from facts_before table
rows_5 = refl

rows_6 : map shown_by (take 8 (drop 48 table)) ≡ map stated_by (take 8 (drop 48 table))
unfolding everything stated answers_of output_of machine_of look shown_by stated_by bytes_of lines little_endian entry down_from facts_before table
rows_6 = refl

rows_7 : map shown_by (take 8 (drop 56 table)) ≡ map stated_by (take 8 (drop 56 table))
unfolding everything stated answers_of output_of machine_of look shown_by stated_by bytes_of lines little_endian entry down_from facts_before table
rows_7 = refl

rows_8 : map shown_by (take 8 (drop 64 table)) ≡ map stated_by (take 8 (drop 64 table))
unfolding everything stated answers_of output_of machine_of look shown_by stated_by bytes_of lines little_endian entry down_from facts_before table
rows_8 = refl

rows_9 : map shown_by (take 8 (drop 72 table)) ≡ map stated_by (take 8 (drop 72 table))
unfolding everything stated answers_of output_of machine_of look shown_by stated_by bytes_of lines little_endian entry down_from facts_before table
rows_9 = refl

rows_10 : map shown_by (take 8 (drop 80 table)) ≡ map stated_by (take 8 (drop 80 table))
unfolding everything stated answers_of output_of machine_of look shown_by stated_by bytes_of lines little_endian entry down_from facts_before table
rows_10 = refl

rows_11 : map shown_by (take 8 (drop 88 table)) ≡ map stated_by (take 8 (drop 88 table))
unfolding everything stated answers_of output_of machine_of look shown_by stated_by bytes_of lines little_endian entry down_from facts_before table
rows_11 = refl

rows_12 : map shown_by (take 8 (drop 96 table)) ≡ map stated_by (take 8 (drop 96 table))
unfolding everything stated answers_of output_of machine_of look shown_by stated_by bytes_of lines little_endian entry down_from facts_before table
rows_12 = refl

rows_13_104 : map shown_by (take 1 (drop 104 table)) ≡ map stated_by (take 1 (drop 104 table))
unfolding everything stated answers_of output_of machine_of look shown_by stated_by bytes_of lines little_endian entry down_from facts_before table
rows_13_104 = refl

rows_13_105 : map shown_by (take 1 (drop 105 table)) ≡ map stated_by (take 1 (drop 105 table))
unfolding everything stated answers_of output_of machine_of look shown_by stated_by bytes_of lines little_endian entry down_from facts_before table
rows_13_105 = refl

rows_13_106 : map shown_by (take 1 (drop 106 table)) ≡ map stated_by (take 1 (drop 106 table))
unfolding everything stated answers_of output_of machine_of look shown_by stated_by bytes_of lines little_endian entry down_from facts_before table
rows_13_106 = refl

rows_13_107 : map shown_by (take 1 (drop 107 table)) ≡ map stated_by (take 1 (drop 107 table))
unfolding everything stated answers_of output_of machine_of look shown_by stated_by bytes_of lines little_endian entry down_from facts_before table
rows_13_107 = refl

rows_13_108 : map shown_by (take 1 (drop 108 table)) ≡ map stated_by (take 1 (drop 108 table))
unfolding everything stated answers_of output_of machine_of look shown_by stated_by bytes_of lines little_endian entry down_from facts_before table
rows_13_108 = refl

-- the row on applications that number 12 refuses, call by call: compared at once, the two machines take too much memory
mapped : Machine
mapped = after_calls (signature102 ++ (plain_el ∷ [])) start

misapplied_0 : step (app 2 [] [] 0) mapped ≡ refusal mapped 12
unfolding everything mapped
misapplied_0 = refl

misapplied_1 : step (app 2 [] (0 ∷ 0 ∷ []) 0) mapped ≡ refusal mapped 12
unfolding everything mapped
misapplied_1 = refl

misapplied_2 : step (app 3 [] [] 0) mapped ≡ refusal mapped 12
unfolding everything mapped
misapplied_2 = refl

misapplied_3 : step (app 3 [] (0 ∷ []) 0) mapped ≡ refusal mapped 12
unfolding everything mapped
misapplied_3 = refl

misapplied_4 : step (app 3 [] (0 ∷ 0 ∷ 0 ∷ []) 0) mapped ≡ refusal mapped 12
unfolding everything mapped
misapplied_4 = refl

misapplied : after_calls (app 2 [] [] 0 ∷ app 2 [] (0 ∷ 0 ∷ []) 0 ∷ app 3 [] [] 0 ∷ app 3 [] (0 ∷ []) 0 ∷ app 3 [] (0 ∷ 0 ∷ 0 ∷ []) 0 ∷ []) mapped ≡ mapped
unfolding after_calls
misapplied =
    ap (λ (x : Step). after_calls (app 2 [] (0 ∷ 0 ∷ []) 0 ∷ app 3 [] [] 0 ∷ app 3 [] (0 ∷ []) 0 ∷ app 3 [] (0 ∷ 0 ∷ 0 ∷ []) 0 ∷ []) x.after) misapplied_0
    ∙ ap (λ (x : Step). after_calls (app 3 [] [] 0 ∷ app 3 [] (0 ∷ []) 0 ∷ app 3 [] (0 ∷ 0 ∷ 0 ∷ []) 0 ∷ []) x.after) misapplied_1
    ∙ ap (λ (x : Step). after_calls (app 3 [] (0 ∷ []) 0 ∷ app 3 [] (0 ∷ 0 ∷ 0 ∷ []) 0 ∷ []) x.after) misapplied_2
    ∙ ap (λ (x : Step). after_calls (app 3 [] (0 ∷ 0 ∷ 0 ∷ []) 0 ∷ []) x.after) misapplied_3
    ∙ ap (λ (x : Step). after_calls ([]) x.after) misapplied_4

arg_count_row : Row
arg_count_row = record {
  source = calls (signature102 ++ (plain_el ∷ app 2 [] [] 0 ∷ app 2 [] (0 ∷ 0 ∷ []) 0 ∷ app 3 [] [] 0 ∷ app 3 [] (0 ∷ []) 0 ∷ app 3 [] (0 ∷ 0 ∷ 0 ∷ []) 0 ∷ []));
  output = tells (refuses 12 ∷ refuses 12 ∷ refuses 12 ∷ refuses 12 ∷ refuses 12 ∷ []);
  claims = machine is whole (after_calls (signature102 ++ (plain_el ∷ [])) start) ∷ [];
}

arg_count_output : output_of arg_count_row.source ≡ arg_count_row.output
unfolding everything stated answers_of output_of arg_count_row
arg_count_output = refl

arg_count_machine : machine_of arg_count_row.source ≡ mapped
unfolding machine_of after_calls arg_count_row mapped
arg_count_machine = misapplied

arg_count_shown : shown_by arg_count_row ≡ stated_by arg_count_row
unfolding shown_by stated_by look arg_count_row mapped
arg_count_shown =
    ap (λ (x : Output). record { output = x; seen = whole (machine_of arg_count_row.source) ∷ [] }) arg_count_output
    ∙ ap (λ (x : Machine). record { output = arg_count_row.output; seen = whole x ∷ [] }) arg_count_machine

rows_13_109 : map shown_by (take 1 (drop 109 table)) ≡ map stated_by (take 1 (drop 109 table))
unfolding table arg_count_row
rows_13_109 = ap (λ (x : Shown). x ∷ []) arg_count_shown

rows_13_110 : map shown_by (take 1 (drop 110 table)) ≡ map stated_by (take 1 (drop 110 table))
unfolding everything stated answers_of output_of machine_of look shown_by stated_by bytes_of lines little_endian entry down_from facts_before table
rows_13_110 = refl

rows_13_111 : map shown_by (take 1 (drop 111 table)) ≡ map stated_by (take 1 (drop 111 table))
unfolding everything stated answers_of output_of machine_of look shown_by stated_by bytes_of lines little_endian entry down_from facts_before table
rows_13_111 = refl

rows_14 : map shown_by (take 8 (drop 112 table)) ≡ map stated_by (take 8 (drop 112 table))
unfolding everything stated answers_of output_of machine_of look shown_by stated_by bytes_of lines little_endian entry down_from facts_before table
rows_14 = refl

rows_15 : map shown_by (take 8 (drop 120 table)) ≡ map stated_by (take 8 (drop 120 table))
unfolding everything stated answers_of output_of machine_of look shown_by stated_by bytes_of lines little_endian entry down_from facts_before table
rows_15 = refl

rows_16 : map shown_by (drop 128 table) ≡ map stated_by (drop 128 table)
unfolding everything stated answers_of output_of machine_of look shown_by stated_by bytes_of lines little_endian entry down_from facts_before table
rows_16 = refl

-- all rows
rows_show : map shown_by table ≡ map stated_by table
unfolding table
rows_show =
    joined shown_by stated_by 8 (drop 0 table) rows_0 (
    joined shown_by stated_by 8 (drop 8 table) rows_1 (
    joined shown_by stated_by 8 (drop 16 table) rows_2 (
    joined shown_by stated_by 8 (drop 24 table) rows_3 (
    joined shown_by stated_by 8 (drop 32 table) rows_4 (
    joined shown_by stated_by 8 (drop 40 table) rows_5 (
    joined shown_by stated_by 8 (drop 48 table) rows_6 (
    joined shown_by stated_by 8 (drop 56 table) rows_7 (
    joined shown_by stated_by 8 (drop 64 table) rows_8 (
    joined shown_by stated_by 8 (drop 72 table) rows_9 (
    joined shown_by stated_by 8 (drop 80 table) rows_10 (
    joined shown_by stated_by 8 (drop 88 table) rows_11 (
    joined shown_by stated_by 8 (drop 96 table) rows_12 (
    joined shown_by stated_by 1 (drop 104 table) rows_13_104 (
    joined shown_by stated_by 1 (drop 105 table) rows_13_105 (
    joined shown_by stated_by 1 (drop 106 table) rows_13_106 (
    joined shown_by stated_by 1 (drop 107 table) rows_13_107 (
    joined shown_by stated_by 1 (drop 108 table) rows_13_108 (
    joined shown_by stated_by 1 (drop 109 table) rows_13_109 (
    joined shown_by stated_by 1 (drop 110 table) rows_13_110 (
    joined shown_by stated_by 1 (drop 111 table) rows_13_111 (
    joined shown_by stated_by 8 (drop 112 table) rows_14 (
    joined shown_by stated_by 8 (drop 120 table) rows_15 (
    rows_16)))))))))))))))))))))))

-- two functions that agree on a list agree at each of its entries
pub agree : {A B : Type 0} (f g : A → B) (l : List A) → map f l ≡ map g l → (a : A) → Memᴰ a l → f a ≡ g a
agree f g [] e a x = elim x [ ]
agree f g (x ∷ xs) e a (Memᴰ.head p) = cc
agree f g (x ∷ xs) e a (Memᴰ.tail m) = agree f g xs (cc) a m

-- every row that computes holds; `every_row_holds` (RefusedSettle) is over all
pub computed_row_holds : (r : Row) → Memᴰ r table → Holds r
computed_row_holds r m = agree shown_by stated_by table rows_show r m
