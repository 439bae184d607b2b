-- A sheet that goes on from a parked structure (02, M-104): "Keep a finished structure over a rig shutdown." Its leading records of kinds 1 to 5 declare
-- the signature, and before the first other record that the chain visits, or before the last line, the file is loaded and takes the place of the structure.
use Rattle.std.specs.Prelude.{ℕ, zero, suc, ◌-◌, ◌/◌, ◌≡◌, Bool, true, false, not, ◌&&◌, List, [], ◌++◌, length, eqb, leb, ltb}
use Rattle.ids.specs.Answers.{Answered, accepted, refused, bad_sheet, wrong_length}
use Rattle.signature.specs.Model.{Sig}
use Rattle.semantics.specs.Structure.{Structure}
use Rattle.semantics.specs.Calls.{Machine, machine, start}
use Rattle.semantics.specs.Sheet.{record_bytes, Record, record_at, Ran, prints, stops, visit, run_records, bad_length, refused_line, end_line}
use Rattle.file.specs.File.{load}
use Rattle.storing.specs.View.{max_bytes}
use Rattle.sheet.specs.declared.Stage.{Stage}
use Rattle.sheet.specs.declared.Stage.TheVariants as stages
use Rattle.sheet.specs.Pieces.{is_ended, ProgressM, PieceM, piece, refusal_piece, done_before, rest_at, rest_of}

-- "The sheet's leading records of kinds 1 to 5"
unfoldable pub declares : ℕ → Bool
declares kind = ltb 0 kind && leb kind 5

-- a file that is longer than the longest is not read to its end: its length is refused
unfoldable pub load_file : Sig → List ℕ → Answered Structure
load_file g file = elim (ltb max_bytes (length file)) [ true ↦ refused wrong_length | false ↦ load g file ]

-- loaded before the record of an index: the structure takes the place of the machine's, or the sheet stops with `refused N at I`
unfoldable pub onward : Answered Structure → ℕ → Machine → (Machine → Ran) → Ran
onward (accepted s) i m rest = rest (machine m.sig s)
onward (refused n) i m rest = stops (refused_line n i) m

abbrev pub loading : List ℕ → ℕ → Machine → (Machine → Ran) → Ran
loading file i m rest = onward (load_file m.sig file) i m rest

-- at the end of the sheet, k records done
abbrev pub loading_end : List ℕ → ℕ → Machine → Ran
loading_end file k m = loading file 0 m (λ loaded. stops (end_line k) loaded)

-- a record where the file is still to be loaded: one that declares is visited, before any other it is loaded, and the rest is as ever
unfoldable pub visit_waiting : List ℕ → List ℕ → ℕ → ℕ → ℕ → Bool → ℕ → Machine → (Machine → Ran) → Ran
visit_waiting file bytes n visits k last i m rest =
    elim (declares (record_at bytes i).kind) [
      | true ↦ visit n last (record_at bytes i) i m rest
      | false ↦ loading file i m (λ loaded. run_records bytes n visits i k loaded)
    ]

-- the records of a sheet from an index on, as `run_records` has them, where the file is still to be loaded
unfoldable pub resume_records : List ℕ → List ℕ → ℕ → ℕ → ℕ → ℕ → Machine → Ran
resume_records file bytes n zero i k m = visit_waiting file bytes n zero k true i m (loading_end file (suc k))
resume_records file bytes n (suc visits) i k m =
    visit_waiting file bytes n (suc visits) k false i m (λ after.
    elim (eqb (record_at bytes i).next 0) [
      | true ↦ loading_end file (suc k) after
      | false ↦ resume_records file bytes n visits (record_at bytes i).next (suc k) after
    ])

-- what a sheet that is resumed from a file prints, and the machine at its end: as `run_sheet`
unfoldable pub resume_sheet : List ℕ → List ℕ → Ran
resume_sheet file bytes =
    elim (bad_length (length bytes)) [
      | true ↦ stops (refused_line bad_sheet 0) start
      | false ↦ resume_records file bytes (length bytes / record_bytes) (length bytes / record_bytes - 1) 0 0 start
    ]

-- The same in pieces.

-- the file is loaded now
unfoldable pub is_due_at : Stage → Record → Bool
is_due_at stages.Refusing r = false
is_due_at stages.Visiting r = not (declares r.kind)
is_due_at stages.Listing r = false
is_due_at stages.Ending r = true
is_due_at stages.Ended r = false

abbrev pub is_due : List ℕ → ProgressM → Bool
is_due bytes p = is_due_at p.stage (record_at bytes p.index)

-- with another structure
abbrev pub holding : Structure → ProgressM → ProgressM
holding s p = record {
  stage = p.stage;
  machine = machine p.machine.sig s;
  count = p.count;
  index = p.index;
  done = p.done;
  conflicts = p.conflicts;
  printed = p.printed;
}

unfoldable pub loaded_piece : Answered Structure → ProgressM → PieceM
loaded_piece (accepted s) p = piece [] (holding s p)
loaded_piece (refused n) p = refusal_piece n p.index p.machine

-- the piece that the load is
abbrev pub restored_piece : List ℕ → ProgressM → PieceM
restored_piece file p = loaded_piece (load_file p.machine.sig file) p

-- what is printed from here on, where the file is still to be loaded; no conflicts are listed before it is
unfoldable pub waiting_at : Stage → List ℕ → List ℕ → ProgressM → Ran
waiting_at stages.Refusing file bytes p = stops (refused_line bad_sheet 0) p.machine
waiting_at stages.Visiting file bytes p =
    resume_records file bytes p.count (p.count - 1 - done_before p.count p.done) p.index (done_before p.count p.done) p.machine
waiting_at stages.Listing file bytes p = rest_at stages.Listing bytes p
waiting_at stages.Ending file bytes p = loading file p.index p.machine (λ loaded. stops (end_line p.done) loaded)
waiting_at stages.Ended file bytes p = stops [] p.machine

abbrev pub waiting_of : List ℕ → List ℕ → ProgressM → Ran
waiting_of file bytes p = waiting_at p.stage file bytes p

-- some refusal
pub record Refusal (line : List ℕ) : Type 0 where
  pub number : ℕ
  pub index : ℕ
  pub is : line ≡ refused_line number index

-- a piece with which the sheet stops is a refusal
abbrev pub Refuses : PieceM → Type 0
Refuses q = is_ended q.progress.stage ≡ true → Refusal q.line

-- the sheet in some bytes stood as p, and was carried out up to the load, or to its refusal
pub record Declared (bytes : List ℕ) (p : ProgressM) (q : PieceM) : Type 0 where
  -- whatever file is loaded, what was to be printed is the line, and what is to be printed after it
  pub rest : (file : List ℕ) → waiting_of file bytes p ≡ prints q.line (waiting_of file bytes q.progress)
  -- before the end nothing was printed, and the load is due
  pub quiet : is_ended q.progress.stage ≡ false → q.line ≡ []
  pub due : is_ended q.progress.stage ≡ false → is_due bytes q.progress ≡ true
  pub refuses : Refuses q

-- the same, with the load: what was to be printed is the line, and what a sheet prints that stands as after q
pub record Resumed (file bytes : List ℕ) (p : ProgressM) (q : PieceM) : Type 0 where
  pub rest : waiting_of file bytes p ≡ prints q.line (rest_of bytes q.progress)
  pub refuses : Refuses q

-- Up to the last line, before which a structure is parked.

unfoldable pub is_last : Stage → Bool
is_last stages.Refusing = false
is_last stages.Visiting = false
is_last stages.Listing = false
is_last stages.Ending = true
is_last stages.Ended = true

-- the sheet in some bytes stood as after the piece p, and was carried out up to the piece q
pub record Finished (bytes : List ℕ) (p q : PieceM) : Type 0 where
  -- what was to be printed with p is a text, and then what is to be printed with q
  pub text : List ℕ
  pub rest : prints p.line (rest_of bytes p.progress) ≡ prints text (prints q.line (rest_of bytes q.progress))
  -- only the last line is to come; or nothing, after a refusal
  pub last : is_last q.progress.stage ≡ true
  pub refuses : Refuses p → Refuses q

-- What a run came to.

-- its last line is `end K`, and the machine is m
pub record Ended (r : Ran) (m : Machine) : Type 0 where
  pub text : List ℕ
  pub done : ℕ
  pub is : r ≡ stops (text ++ end_line done) m

-- its last line is a refusal
pub record Stopped (r : Ran) (line : List ℕ) : Type 0 where
  pub text : List ℕ
  pub is : r.printed ≡ text ++ line
  pub refusal : Refusal line
