-- A sheet carried out piece by piece (01, "The sheet program"): how it stands, the next piece of what it prints, what is
-- still to be printed, and in how many pieces.
use Rattle.std.specs.Prelude.{ℕ, zero, suc, ◌+◌, ◌-◌, ◌*◌, ◌/◌, min, ◌≡◌, Bool, true, false, List, [], ◌∷◌, ◌++◌, length, take, drop, eqb}
use Rattle.ids.specs.Answers.{bad_sheet, bad_chain}
use Rattle.unification.specs.Roots.{max_els}
use Rattle.semantics.specs.Conflicts.{Conflict}
use Rattle.semantics.specs.Calls.{Answer, number, says, done, closed, conflicting, summed, found, typed, els, refuse, Machine, Step, start}
use Rattle.semantics.specs.Sheet.{max_records, record_bytes, max_sheet, Record, record_at, call_of, carry_out, chain_broken, Ran, prints, stops, run_records}
use Rattle.semantics.specs.Sheet.{bad_length, close_line, conflict_line, conflict_lines, settle_line, refused_line, end_line}
use Rattle.lines.specs.View.{conflicts_end}
use Rattle.sheet.specs.declared.Stage.{Stage}
use Rattle.sheet.specs.declared.Stage.TheVariants as stages

unfoldable pub is_ended : Stage → Bool
is_ended stages.Refusing = false
is_ended stages.Visiting = false
is_ended stages.Listing = false
is_ended stages.Ending = false
is_ended stages.Ended = true

-- what the next piece is of, and what the records so far made; how many records there are, which one comes next, and how
-- many are done; the conflicts of a listing, and how many of them are printed
pub record ProgressM : Type 0 where
  pub stage : Stage
  pub machine : Machine
  pub count : ℕ
  pub index : ℕ
  pub done : ℕ
  pub conflicts : List Conflict
  pub printed : ℕ

-- with no conflicts to list
abbrev pub standing : Stage → Machine → ℕ → ℕ → ℕ → ProgressM
standing s m n i k = record { stage = s; machine = m; count = n; index = i; done = k; conflicts = []; printed = 0 }

-- a piece of what is printed, a line or nothing, and what comes after it
pub record PieceM : Type 0 where
  pub line : List ℕ
  pub progress : ProgressM

abbrev pub piece : List ℕ → ProgressM → PieceM
piece line p = record { line = line; progress = p }

-- "sheet empty, not a multiple of 32 bytes, or over 32,768"; else "Record 0 comes first"
unfoldable pub start_of : ℕ → ProgressM
start_of l = elim (bad_length l) [ true ↦ standing stages.Refusing start 0 0 0 | false ↦ standing stages.Visiting start (l / record_bytes) 0 0 ]

-- The next piece.

-- "A refusal prints `refused N at I` .. and stops"
abbrev pub refusal_piece : ℕ → ℕ → Machine → PieceM
refusal_piece k i m = piece (refused_line k i) (standing stages.Ended m 0 0 0)

-- "next index 0 ends the chain"
unfoldable pub follow_of : Machine → ℕ → ℕ → ℕ → ProgressM
follow_of m n next k = elim (eqb next 0) [ true ↦ standing stages.Ending m n next k | false ↦ standing stages.Visiting m n next k ]

-- the conflicts of record 14 are listed, one in a piece
abbrev pub listing_all : List Conflict → Machine → ℕ → ℕ → ℕ → ProgressM
listing_all cs m n next k = record { stage = stages.Listing; machine = m; count = n; index = next; done = k; conflicts = cs; printed = 0 }

-- what the answer to a record prints
unfoldable pub answer_piece : Answer → ℕ → Machine → ℕ → ℕ → ℕ → PieceM
answer_piece (refuse x) i m n next k = refusal_piece x i m
answer_piece (number x) i m n next k = piece [] (follow_of m n next k)
answer_piece (says b) i m n next k = piece [] (follow_of m n next k)
answer_piece done i m n next k = piece [] (follow_of m n next k)
answer_piece (closed c) i m n next k = piece (close_line c) (follow_of m n next k)
answer_piece (conflicting cs f) i m n next k = piece [] (listing_all cs m n next k)
answer_piece (summed t) i m n next k = piece (settle_line t) (follow_of m n next k)
answer_piece (found f) i m n next k = piece [] (follow_of m n next k)
answer_piece (typed t) i m n next k = piece [] (follow_of m n next k)
answer_piece (els es) i m n next k = piece [] (follow_of m n next k)

abbrev pub step_piece : Step → ℕ → ℕ → ℕ → ℕ → PieceM
step_piece s i n next k = answer_piece s.answer i s.after n next k

-- how many records are done before a visit: at most all but one
abbrev pub done_before : ℕ → ℕ → ℕ
done_before n k = min k (n - 1)

-- a record is visited: "2 before the record is carried out"
unfoldable pub visit_piece : Record → ProgressM → PieceM
visit_piece r p =
    elim (chain_broken p.count (eqb (p.count - 1 - done_before p.count p.done) 0) r.next) [
      | true ↦ refusal_piece bad_chain p.index p.machine
      | false ↦ step_piece (carry_out (call_of r) p.machine) p.index p.count r.next (done_before p.count p.done + 1)
    ]

-- one more conflict is printed
abbrev pub one_printed : ProgressM → ProgressM
one_printed p = record {
  stage = p.stage;
  machine = p.machine;
  count = p.count;
  index = p.index;
  done = p.done;
  conflicts = p.conflicts;
  printed = p.printed + 1;
}

-- "`conflict E T p.. / U q..` per conflict .., then `conflicts N`", where some are still to be printed
unfoldable pub list_piece : List Conflict → ProgressM → PieceM
list_piece [] p = piece (conflicts_end (length p.conflicts)) (follow_of p.machine p.count p.index p.done)
list_piece (c ∷ cs) p = piece (conflict_line c) (one_printed p)

-- by the stage, where the record that comes next is given
unfoldable pub piece_at : Stage → Record → ProgressM → PieceM
piece_at stages.Refusing r p = refusal_piece bad_sheet 0 p.machine
piece_at stages.Visiting r p = visit_piece r p
piece_at stages.Listing r p = list_piece (drop p.printed p.conflicts) p
piece_at stages.Ending r p = piece (end_line p.done) (standing stages.Ended p.machine 0 0 0)
piece_at stages.Ended r p = piece [] p

abbrev pub next_piece : List ℕ → ProgressM → PieceM
next_piece bytes p = piece_at p.stage (record_at bytes p.index) p

-- so many pieces, their lines one after the other
unfoldable pub pieces : List ℕ → ℕ → ProgressM → PieceM
pieces bytes zero p = piece [] p
pieces bytes (suc k) p = piece ((next_piece bytes p).line ++ (pieces bytes k (next_piece bytes p).progress).line) (pieces bytes k (next_piece bytes p).progress).progress

-- What is still to be printed.

-- the records of a sheet of n from an index on, when k are done
unfoldable pub visiting : List ℕ → ℕ → ℕ → ℕ → Machine → Ran
visiting bytes n i k m = run_records bytes n (n - 1 - done_before n k) i (done_before n k) m

-- after a record: the next one, or the last line
unfoldable pub following : List ℕ → ℕ → ℕ → ℕ → Machine → Ran
following bytes n next k m = elim (eqb next 0) [ true ↦ stops (end_line k) m | false ↦ visiting bytes n next k m ]

-- what is printed from here on, and the machine at the end
unfoldable pub rest_at : Stage → List ℕ → ProgressM → Ran
rest_at stages.Refusing bytes p = stops (refused_line bad_sheet 0) p.machine
rest_at stages.Visiting bytes p = visiting bytes p.count p.index p.done p.machine
rest_at stages.Listing bytes p =
    prints (conflict_lines (drop p.printed p.conflicts) ++ conflicts_end (length p.conflicts))
    (following bytes p.count p.index p.done p.machine)
rest_at stages.Ending bytes p = stops (end_line p.done) p.machine
rest_at stages.Ended bytes p = stops [] p.machine

abbrev pub rest_of : List ℕ → ProgressM → Ran
rest_of bytes p = rest_at p.stage bytes p

-- In how many pieces.

-- of a record, by its answer, with those that come after it
unfoldable pub answer_pieces : Answer → ℕ → ℕ
answer_pieces (refuse x) after = 1
answer_pieces (number x) after = suc after
answer_pieces (says b) after = suc after
answer_pieces done after = suc after
answer_pieces (closed c) after = suc after
answer_pieces (conflicting cs f) after = suc (suc (length cs + after))
answer_pieces (summed t) after = suc after
answer_pieces (found f) after = suc after
answer_pieces (typed t) after = suc after
answer_pieces (els es) after = suc after

unfoldable pub visit_pieces : ℕ → Bool → Record → Machine → (Machine → ℕ) → ℕ
visit_pieces n last r m after =
    elim (chain_broken n last r.next) [
      | true ↦ 1
      | false ↦ answer_pieces (carry_out (call_of r) m).answer (after (carry_out (call_of r) m).after)
    ]

-- as `run_records` goes
unfoldable pub record_pieces : List ℕ → ℕ → ℕ → ℕ → Machine → ℕ
record_pieces bytes n zero i m = visit_pieces n true (record_at bytes i) m (λ after. 1)
record_pieces bytes n (suc visits) i m =
    visit_pieces n false (record_at bytes i) m (λ after.
    elim (eqb (record_at bytes i).next 0) [
      | true ↦ 1
      | false ↦ record_pieces bytes n visits (record_at bytes i).next after
    ])

unfoldable pub pieces_visiting : List ℕ → ℕ → ℕ → ℕ → Machine → ℕ
pieces_visiting bytes n i k m = record_pieces bytes n (n - 1 - done_before n k) i m

unfoldable pub pieces_following : List ℕ → ℕ → ℕ → ℕ → Machine → ℕ
pieces_following bytes n next k m = elim (eqb next 0) [ true ↦ 1 | false ↦ pieces_visiting bytes n next k m ]

unfoldable pub pieces_at : Stage → List ℕ → ProgressM → ℕ
pieces_at stages.Refusing bytes p = 1
pieces_at stages.Visiting bytes p = pieces_visiting bytes p.count p.index p.done p.machine
pieces_at stages.Listing bytes p =
    suc (length (drop p.printed p.conflicts) + pieces_following bytes p.count p.index p.done p.machine)
pieces_at stages.Ending bytes p = 1
pieces_at stages.Ended bytes p = 0

abbrev pub pieces_of : List ℕ → ProgressM → ℕ
pieces_of bytes p = pieces_at p.stage bytes p

-- of one record at most: the visit, its conflicts, and their number
abbrev pub pieces_of_one : ℕ
pieces_of_one = max_els + 2

-- of a sheet at most
abbrev pub max_pieces : ℕ
max_pieces = pieces_of_one * max_records + 1

-- an array holds a sheet's bytes as far as there is room for them
abbrev pub Holds : List ℕ → List ℕ → Type 0
Holds bytes sheet = take max_sheet sheet ≡ take (length sheet) bytes
