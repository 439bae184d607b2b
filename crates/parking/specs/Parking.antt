-- Lists with stores and loads in them (02, M-104): "Under the signature it was stored with, a loaded structure continues the history of the stored one, and
-- the conservation rule's list with it; for any other accepted load the passes' rule starts from what it holds, its settled mark included, and the
-- conservation rule does not apply."
use Rattle.std.specs.Prelude.{◌≡◌, true, false, List, [], ◌∷◌, ◌++◌, ℕ, zero, suc}
use Rattle.std.proofs.Math.Option.{Option, none, some, map}
use Rattle.ids.specs.Answers.{Answered, accepted, refused}
use Rattle.signature.specs.Model.{Sig}
use Rattle.semantics.specs.Structure.{Structure}
use Rattle.semantics.specs.Types.{any_marked}
use Rattle.semantics.specs.Close.{Closed}
use Rattle.semantics.specs.Calls.{Call, Answer, is_accepted, merges_of, Machine, machine, Step, start, step}
use Rattle.history.specs.Book.{Book, blank, fed, history, RanCloses, Conserved}
use Rattle.history.specs.Settled.{Event, event, trace}
use Rattle.file.specs.File.{store, load}
use Rattle.parking.specs.Same.{same_sig}

-- What is done one after the other. A store that is refused keeps no file and is left out.
pub data Act : Type 0 where
  call : Call → Act
  -- a store, whose file is kept beside the list
  park : Act
  -- a load of a file so kept: the first is 0
  restore : ℕ → Act
  -- a load of bytes of which nothing is known
  load_other : List ℕ → Act
  -- "over a rig shutdown": signature and structure are empty again, and the files are kept
  restart : Act

-- What the conservation rule and M-101 note of a list, beside its structure: the calls, the book, and the calls with their answers, the latest first.
pub record Notes : Type 0 where
  pub list : List Call
  pub book : Book
  pub events : List Event

abbrev pub notes : List Call → Book → List Event → Notes
notes ks b es = record { list = ks; book = b; events = es }

-- a list that begins
unfoldable pub no_notes : Notes
no_notes = notes [] blank []

-- one call more, and its answer
unfoldable pub taken_down : Call → Answer → Notes → Notes
taken_down k a n = notes (n.list ++ (k ∷ [])) (fed k (is_accepted a) (merges_of a) n.book) (event k a ∷ n.events)

-- what is noted of a list of calls alone
unfoldable pub notes_of : List Call → Notes
notes_of ks = notes ks (history ks).book (trace ks start [])

-- a file that a store gave: its bytes, "the signature it was stored with" and what was noted then. It has no structure but the one that the bytes say.
pub record Parked : Type 0 where
  pub bytes : List ℕ
  pub sig : Sig
  pub notes : Option Notes

abbrev pub parked : List ℕ → Sig → Option Notes → Parked
parked bytes g n = record { bytes = bytes; sig = g; notes = n }

-- where the acts have come to; nothing is noted where "the conservation rule does not apply"
pub record State : Type 0 where
  pub machine : Machine
  pub notes : Option Notes
  pub files : List Parked

abbrev pub state : Machine → Option Notes → List Parked → State
state m n files = record { machine = m; notes = n; files = files }

-- a call that went so
unfoldable pub called : Call → Step → State → State
called k t s = state t.after (map (taken_down k t.answer) s.notes) s.files

-- the file of what is there now
unfoldable pub parked_now : State → Parked
parked_now s = parked (store s.machine.structure) s.machine.sig s.notes

-- a load that answered so, with what is noted of the structure that it gives; a refused one leaves everything as it was
unfoldable pub loaded : Answered Structure → Option Notes → State → State
loaded (refused n) known s = s
loaded (accepted x) known s = state (machine s.machine.sig x) known s.files

-- "Under the signature it was stored with": what was noted at the store
unfoldable pub taken_back : Sig → Parked → Option Notes
taken_back g p = elim (same_sig g p.sig) [ true ↦ p.notes | false ↦ none ]

unfoldable pub file_at : ℕ → List Parked → Option Parked
file_at i [] = none
file_at zero (p ∷ ps) = some p
file_at (suc i) (p ∷ ps) = file_at i ps

-- without such a file there is no load
unfoldable pub restored : Option Parked → State → State
restored none s = s
restored (some p) s = loaded (load s.machine.sig p.bytes) (taken_back s.machine.sig p) s

unfoldable pub act : Act → State → State
act (call k) s = called k (step k s.machine) s
act park s = state s.machine s.notes (s.files ++ (parked_now s ∷ []))
act (restore i) s = restored (file_at i s.files) s
act (load_other bytes) s = loaded (load s.machine.sig bytes) none s
act restart s = state start (some no_notes) s.files

unfoldable pub acts : List Act → State → State
acts [] s = s
acts (a ∷ l) s = acts l (act a s)

-- "A list begins at the empty signature and structure"
unfoldable pub fresh : State
fresh = state start (some no_notes) []

unfoldable pub acted : List Act → State
acted l = acts l fresh

-- The claims.

-- The machine and what is noted are those of a list of calls alone, the one that is noted: the calls up to the store, then those after the load.
pub record Continues (m : Machine) (n : Notes) : Type 0 where
  pub machine : m ≡ (history n.list).machine
  pub notes : n ≡ notes_of n.list

-- `Conservation` with any acts before the close or settle: where the rule applies when it returns, it holds of book, links and reports.
unfoldable pub ParkedConservation : Type 1
ParkedConservation =
    (before : List Act) (k : Call) (cs : List Closed) (n : Notes) → RanCloses (acted before).machine k cs
    → (acted (before ++ (call k ∷ []))).notes ≡ some n → any_marked n.book.marks ≡ false
    → Conserved n.book (acted (before ++ (call k ∷ []))).machine.structure.links cs
