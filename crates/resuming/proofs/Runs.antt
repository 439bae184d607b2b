-- What the programs come to: `resume_sheet` prints what the sheet prints that is resumed from the file, and `park_sheet` stores the structure of a run that
-- came to its end, or tells the refusal of one that did not. Over the definitions, by what the contracts of `resuming` say.
use Prim.Native.Nat.{ℕ}
use mathlib.Core.Path.{◌≡◌, refl, sym, ap, ◌∙◌}
use mathlib.Core.Bool.{true, false, true≢false}
use mathlib.Core.List.{List, [], ◌++◌, append-nil, append_assoc}
use lib.ListN.{length}
use Rattle.semantics.specs.Sheet.{Ran, prints, stops, run_sheet, end_line}
use Rattle.sheet.specs.declared.Stage.{Stage}
use Rattle.sheet.specs.declared.Stage.TheVariants as stages
use Rattle.sheet.specs.Pieces.{is_ended, PieceM, piece, start_of, pieces, rest_at, rest_of, Holds}
use Rattle.sheet.proofs.Pieces.{pieces_rest, start_rest}
use Rattle.resuming.specs.Resuming.{resume_sheet, Refuses, Resumed, is_last, Finished, Ended, Stopped}
use Rattle.resuming.proofs.Waiting.{start_waits}
use Rattle.resuming.proofs.Laws.{start_on, on_refuses}

-- A sheet, an array that holds it, and a file.
module _ (file sheet bytes : List ℕ) (holds : Holds bytes sheet) {q : PieceM} (resumed : Resumed file bytes (start_of (length sheet)) q) where
  -- up to the load, and from there on
  pub resumed_prints : resume_sheet file sheet ≡ prints q.line (rest_of bytes q.progress)
  resumed_prints = sym (start_waits file sheet bytes holds) ∙ resumed.rest

  -- from there to the last piece
  pub resumed_pieces : (k : ℕ) → (pieces bytes k q.progress).progress.stage ≡ stages.Ended
      → resume_sheet file sheet ≡ stops (q.line ++ (pieces bytes k q.progress).line) (pieces bytes k q.progress).progress.machine
  unfolding rest_at
  resumed_pieces k h =
      let last = pieces bytes k q.progress in
      resumed_prints
      ∙ ap (prints q.line) (pieces_rest bytes k q.progress
      ∙ ap (λ (s : Stage). prints last.line (rest_at s bytes last.progress)) h
      ∙ ap (λ (t : List ℕ). stops t last.progress.machine) (append-nil last.line))

-- What is left of a run at its last piece.
module _ {bytes : List ℕ} {p q : PieceM} (f : Finished bytes p q) {run : Ran} (is : run ≡ prints p.line (rest_of bytes p.progress)) where
  -- before its last line: this is the machine whose structure is parked
  pub parks : is_ended q.progress.stage ≡ false → Ended run q.progress.machine
  unfolding is_last is_ended rest_at
  parks on = at q.progress.stage refl f.last on where
    at : (s : Stage) → q.progress.stage ≡ s → is_last s ≡ true → is_ended s ≡ false → Ended run q.progress.machine
    at stages.Refusing e l h = absurd (true≢false (sym l))
    at stages.Visiting e l h = absurd (true≢false (sym l))
    at stages.Listing e l h = absurd (true≢false (sym l))
    at stages.Ending e l h =
        record {
          text = f.text ++ q.line;
          done = q.progress.done;
          is =
              is ∙ f.rest
              ∙ ap (λ (s : Stage). prints f.text (prints q.line (rest_at s bytes q.progress))) e
              ∙ ap (λ (t : List ℕ). stops t q.progress.machine) (sym (append_assoc f.text q.line (end_line q.progress.done)));
        }
    at stages.Ended e l h = absurd (true≢false h)

  -- after its last line: a refusal
  pub parks_not : Refuses p → is_ended q.progress.stage ≡ true → Stopped run q.line
  unfolding is_ended rest_at
  parks_not refuses over = record { text = f.text; is = at q.progress.stage refl over; refusal = f.refuses refuses over } where
    at : (s : Stage) → q.progress.stage ≡ s → is_ended s ≡ true → run.printed ≡ f.text ++ q.line
    at stages.Refusing e h = absurd (true≢false (sym h))
    at stages.Visiting e h = absurd (true≢false (sym h))
    at stages.Listing e h = absurd (true≢false (sym h))
    at stages.Ending e h = absurd (true≢false (sym h))
    at stages.Ended e h =
        ap (λ (r : Ran). r.printed) (is ∙ f.rest ∙ ap (λ (s : Stage). prints f.text (prints q.line (rest_at s bytes q.progress))) e)
        ∙ ap (λ (t : List ℕ). f.text ++ t) (append-nil q.line)

-- The two ways in which `park_sheet` starts.
module _ (sheet bytes : List ℕ) (holds : Holds bytes sheet) {q : PieceM} where
  module _ (f : Finished bytes (piece [] (start_of (length sheet))) q) where
    pub parks_sheet : is_ended q.progress.stage ≡ false → Ended (run_sheet sheet) q.progress.machine
    parks_sheet = parks f (sym (start_rest sheet bytes holds))

    pub parks_no_sheet : is_ended q.progress.stage ≡ true → Stopped (run_sheet sheet) q.line
    parks_no_sheet = parks_not f (sym (start_rest sheet bytes holds)) (on_refuses (piece [] (start_of (length sheet))) (start_on (length sheet)))

  module _ (file : List ℕ) {p : PieceM} (resumed : Resumed file bytes (start_of (length sheet)) p) (f : Finished bytes p q) where
    pub parks_resumed : is_ended q.progress.stage ≡ false → Ended (resume_sheet file sheet) q.progress.machine
    parks_resumed = parks f (resumed_prints file sheet bytes holds resumed)

    pub parks_no_resumed : is_ended q.progress.stage ≡ true → Stopped (resume_sheet file sheet) q.line
    parks_no_resumed = parks_not f (resumed_prints file sheet bytes holds resumed) resumed.refuses
