-- A session: a sheet that is run on a machine, or a machine to which records are handed in one by one, between two calls of the library. What it stands
-- for is a piece: a line that is still to be taken, and how the sheet stands after it.
use Rattle.std.specs.Prelude.{ℕ, zero, suc, ◌+◌, ◌*◌, ◌/◌, min, Bool, true, false, List, [], ◌∷◌, length, take, get_or, eqb}
use Rattle.ids.specs.Answers.{Answered, accepted, refused, Outcome}
use Rattle.semantics.specs.Structure.{Structure}
use Rattle.semantics.specs.Calls.{Answer, number, says, done, closed, conflicting, summed, found, typed, els, refuse, Step, start}
use Rattle.semantics.specs.Sheet.{record_bytes, Record, call_of, carry_out, bit}
use Rattle.sheet.specs.declared.Stage.{Stage}
use Rattle.sheet.specs.declared.Stage.TheVariants as stages
use Rattle.sheet.specs.Pieces.{ProgressM, PieceM, standing, piece, start_of, step_piece, next_piece, pieces_of}
use Rattle.resuming.specs.Resuming.{holding}

-- the stages by their numbers
unfoldable pub stage_at : ℕ → Stage
stage_at n = get_or (stages.Refusing ∷ stages.Visiting ∷ stages.Listing ∷ stages.Ending ∷ []) n stages.Ended

-- A session begins.

-- the empty machine, with nothing to print
abbrev pub begun : PieceM
begun = piece [] (standing stages.Ended start 0 0 0)

-- a sheet of so many bytes, before its first record
abbrev pub begun_sheet : ℕ → PieceM
begun_sheet l = piece [] (start_of l)

-- A record is handed in.

-- an answer as numbers: which one it is, and what it says
pub record ReplyM : Type 0 where
  pub kind : ℕ
  pub numbers : List ℕ

abbrev pub reply : ℕ → ℕ → ℕ → ℕ → ℕ → ReplyM
reply k a b c d = record { kind = k; numbers = a ∷ b ∷ c ∷ d ∷ [] }

-- the last three answer no record
unfoldable pub numbers_of : Answer → ReplyM
numbers_of done = reply 0 0 0 0 0
numbers_of (number n) = reply 1 n 0 0 0
numbers_of (says b) = reply 2 (bit b) 0 0 0
numbers_of (closed c) = reply 3 (bit c.changed) c.merges c.rounds c.added
numbers_of (conflicting cs f) = reply 4 (length cs) f 0 0
numbers_of (summed t) = reply 5 t.closes t.merges 0 0
numbers_of (refuse n) = reply 6 n 0 0 0
numbers_of (found f) = reply 0 0 0 0 0
numbers_of (typed t) = reply 0 0 0 0 0
numbers_of (els es) = reply 0 0 0 0 0

-- how many records that were handed in a session counts: as many as a word can say
abbrev pub max_done : ℕ
max_done = 65535

-- one record more
abbrev pub counted : ℕ → ℕ
counted k = min (k + 1) max_done

-- with so many records done
abbrev pub having : ℕ → PieceM → PieceM
having k q = piece q.line (record {
  stage = q.progress.stage;
  machine = q.progress.machine;
  count = q.progress.count;
  index = q.progress.index;
  done = k;
  conflicts = q.progress.conflicts;
  printed = q.progress.printed;
})

-- the answer of a record, and the session, which has the record's lines: it stands in no sheet, after so many that were handed in before
pub record HandedInM : Type 0 where
  pub answer : ReplyM
  pub session : PieceM

abbrev pub handed_by : Step → ℕ → HandedInM
handed_by s at = record { answer = numbers_of s.answer; session = having (counted at) (step_piece s at 0 0 (counted at)) }

abbrev pub handed_in : Record → PieceM → HandedInM
handed_in r q = handed_by (carry_out (call_of r) q.progress.machine) q.progress.done

-- Lines.

-- nothing comes any more; a session without a sheet has no last line
unfoldable pub is_over : Stage → ℕ → Bool
is_over stages.Refusing n = false
is_over stages.Visiting n = false
is_over stages.Listing n = false
is_over stages.Ending n = eqb n 0
is_over stages.Ended n = true

-- the whole records among some bytes
abbrev pub whole_records : List ℕ → List ℕ
whole_records bytes = take (record_bytes * (length bytes / record_bytes)) bytes

-- whether a piece is handed out: it has a line, or it is the last
unfoldable pub is_taken : List ℕ → ProgressM → Bool
is_taken [] p = is_over p.stage p.count
is_taken (b ∷ bs) p = true

-- pieces up to one that is handed out, at most so many
unfoldable pub taken_within : ℕ → List ℕ → PieceM → PieceM
taken_within zero bytes q = q
taken_within (suc k) bytes q =
    elim (is_taken q.line q.progress) [ true ↦ q | false ↦ taken_within k bytes (next_piece bytes q.progress) ]

abbrev pub up_to_line : List ℕ → PieceM → PieceM
up_to_line bytes q = taken_within (pieces_of bytes q.progress) bytes q

-- a line, or none, and the session without it
pub record TakenM : Type 0 where
  pub line : List ℕ
  pub session : PieceM

abbrev pub taken_from : PieceM → TakenM
taken_from q = record { line = q.line; session = piece [] q.progress }

-- the next line is taken
abbrev pub next_line : List ℕ → PieceM → TakenM
next_line bytes q = taken_from (up_to_line bytes q)

-- Over a shutdown.

-- what storing answers, as numbers, and the buffer that it leaves
pub record ParkedM : Type 0 where
  pub size : ℕ
  pub refused : ℕ
  pub file : List ℕ

unfoldable pub parked_by : Answered ℕ → List ℕ → ParkedM
parked_by (accepted n) file = record { size = n; refused = 0; file = file }
parked_by (refused n) file = record { size = 0; refused = n; file = file }

abbrev pub parked : Outcome ℕ (List ℕ) → ParkedM
parked o = parked_by o.answer o.after

-- a session from a structure that was loaded; beside a refusal it is as it was
pub record ResumedM : Type 0 where
  pub refused : ℕ
  pub session : PieceM

unfoldable pub resumed : Answered Structure → PieceM → ResumedM
resumed (accepted s) q = record { refused = 0; session = piece q.line (holding s q.progress) }
resumed (refused n) q = record { refused = n; session = q }
