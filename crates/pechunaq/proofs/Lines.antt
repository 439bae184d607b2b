-- The lines of a session, one after the other, are what its sheet prints: theorems about the definitions, which the contracts of `pechunaq_begin_sheet` and
-- `pechunaq_next_line` carry over to the code.
use Prim.Native.Nat.{ℕ, zero, suc, ◌*◌, ◌/◌}
use mathlib.Core.Path.{◌≡◌, refl, sym, ap, ◌∙◌}
use mathlib.Core.Bool.{Bool, true, false, true≢false}
use mathlib.Core.List.{List, [], ◌∷◌, ◌++◌, append-nil, append_assoc}
use native.Mathlib.Omega.{arith}
use lib.ListN.{length, take}
use lib.Seq.{take_all}
use Rattle.ids.specs.Answers.{bad_sheet}
use Rattle.ids.proofs.Tests.{chosen}
use Rattle.semantics.specs.Calls.{start}
use Rattle.semantics.specs.Sheet.{record_bytes, max_sheet, Ran, prints, stops, bad_length, run_sheet, refused_line}
use Rattle.sheet.specs.declared.Stage.{Stage}
use Rattle.sheet.specs.declared.Stage.TheVariants as stages
use Rattle.sheet.specs.Pieces.{ProgressM, PieceM, start_of, piece_at, next_piece, pieces_at, pieces_of, rest_at, rest_of}
use Rattle.sheet.proofs.Pieces.{rest_next, pieces_next, some_to_come, good_length, start_rest}
use Rattle.pechunaq.specs.Session.{begun_sheet, is_over, whole_records, is_taken, taken_within, up_to_line, TakenM, next_line}
use Rattle.pechunaq.proofs.Laws.{over_ended}

-- what a session prints from here on, and the machine at the end
abbrev pub to_print : List ℕ → PieceM → Ran
to_print bytes q = prints q.line (rest_of bytes q.progress)

-- a piece that is not handed out has no line
untaken_line : (line : List ℕ) (p : ProgressM) → is_taken line p ≡ false → line ≡ []
unfolding is_taken
untaken_line [] p h = refl
untaken_line (b ∷ bs) p h = absurd (true≢false h)

-- nor is it the last
untaken_on : (line : List ℕ) (p : ProgressM) → is_taken line p ≡ false → is_over p.stage p.count ≡ false
unfolding is_taken
untaken_on [] p h = h
untaken_on (b ∷ bs) p h = absurd (true≢false h)

module _ (bytes : List ℕ) where
  -- pieces that are passed over lose nothing
  passed_rest : (k : ℕ) (q : PieceM) → to_print bytes (taken_within k bytes q) ≡ to_print bytes q
  unfolding taken_within
  passed_rest zero q = refl
  passed_rest (suc k) q = go (is_taken q.line q.progress) refl (passed_rest k (next_piece bytes q.progress)) where
    go : (t : Bool) → is_taken q.line q.progress ≡ t
        → to_print bytes (taken_within k bytes (next_piece bytes q.progress)) ≡ to_print bytes (next_piece bytes q.progress)
        → to_print bytes (elim t [ true ↦ q | false ↦ taken_within k bytes (next_piece bytes q.progress) ]) ≡ to_print bytes q
    go true h e = refl
    go false h e =
        e ∙ sym (rest_next bytes q.progress) ∙ ap (λ (line : List ℕ). prints line (rest_of bytes q.progress)) (sym (untaken_line q.line q.progress h))

  -- What was to be printed is the line, and then what is to be printed after it.
  pub line_rest : (q : PieceM) → to_print bytes q ≡ prints (next_line bytes q).line (to_print bytes (next_line bytes q).session)
  line_rest q = sym (passed_rest (pieces_of bytes q.progress) q)

  up_to_taken : (k : ℕ) (q : PieceM) → pieces_of bytes q.progress ≡ k → is_taken (taken_within k bytes q).line (taken_within k bytes q).progress ≡ true
  unfolding taken_within
  up_to_taken zero q e = go (is_taken q.line q.progress) refl where
    go : (t : Bool) → is_taken q.line q.progress ≡ t → is_taken q.line q.progress ≡ true
    go true h = h
    go false h = absurd (omega (arith, e, some_to_come bytes q.progress (over_ended q.progress.stage q.progress.count (untaken_on q.line q.progress h))))
  up_to_taken (suc k) q e =
      let rest : pieces_of bytes (next_piece bytes q.progress).progress ≡ k = omega (arith, e, pieces_next bytes q.progress) in
      go (is_taken q.line q.progress) refl (up_to_taken k (next_piece bytes q.progress) rest) where
        r : Bool → PieceM
        r t = elim t [ true ↦ q | false ↦ taken_within k bytes (next_piece bytes q.progress) ]

        go : (t : Bool) → is_taken q.line q.progress ≡ t → is_taken (r false).line (r false).progress ≡ true → is_taken (r t).line (r t).progress ≡ true
        go true h f = h
        go false h f = f

  -- There is no line only where nothing comes any more.
  pub line_none : (q : PieceM) → (next_line bytes q).line ≡ [] → is_over (next_line bytes q).session.progress.stage (next_line bytes q).session.progress.count ≡ true
  unfolding is_taken
  line_none q e =
      let last : PieceM = up_to_line bytes q in
      ap (λ (line : List ℕ). is_taken line last.progress) (sym e) ∙ up_to_taken (pieces_of bytes q.progress) q refl

  -- so many lines, one after the other, and the session after them
  unfoldable pub lines_taken : ℕ → PieceM → TakenM
  lines_taken zero q = record { line = []; session = q }
  lines_taken (suc k) q = record { line = (next_line bytes q).line ++ (lines_taken k (next_line bytes q).session).line; session = (lines_taken k (next_line bytes q).session).session }

  -- what was to be printed is these lines, and then what is to be printed after them
  pub lines_rest : (k : ℕ) (q : PieceM) → to_print bytes q ≡ prints (lines_taken k q).line (to_print bytes (lines_taken k q).session)
  unfolding lines_taken
  lines_rest zero q = refl
  lines_rest (suc k) q =
      let one : TakenM = next_line bytes q in
      let all : TakenM = lines_taken k one.session in
      line_rest q
      ∙ ap (prints one.line) (lines_rest k one.session)
      ∙ ap (λ (t : List ℕ). stops t (to_print bytes all.session).machine) (sym (append_assoc one.line all.line (to_print bytes all.session).printed))

-- a sheet whose length is not refused has whole records only
whole_all : (sheet : List ℕ) → bad_length (length sheet) ≡ false → whole_records sheet ≡ sheet
whole_all sheet h = take_all (record_bytes * (length sheet / record_bytes)) sheet (omega (arith, (good_length (length sheet) h).1.1))

-- what a session has to print at its start is what the sheet prints
pub session_rest : (sheet : List ℕ) → to_print (whole_records sheet) (begun_sheet (length sheet)) ≡ run_sheet sheet
unfolding start_of run_sheet rest_at
session_rest sheet = go (bad_length (length sheet)) refl where
  go : (t : Bool) → bad_length (length sheet) ≡ t → rest_of (whole_records sheet) (start_of (length sheet)) ≡ run_sheet sheet
  go true h =
      ap (rest_of (whole_records sheet)) (sym (chosen _ h)) ∙ chosen _ h
  go false h =
      let all : whole_records sheet ≡ sheet = whole_all sheet h in
      let short : take max_sheet sheet ≡ sheet = take_all max_sheet sheet (good_length (length sheet) h).1.0 in
      start_rest sheet (whole_records sheet) (short ∙ sym (take_all (length sheet) sheet (omega arith)) ∙ ap (take (length sheet)) (sym all))

-- The lines from the first to the last are the definition's bytes, and the machine at the end is the definition's.
pub session_prints : (sheet : List ℕ) (k : ℕ) → let last = lines_taken (whole_records sheet) k (begun_sheet (length sheet)) in
    last.session.line ≡ [] → last.session.progress.stage ≡ stages.Ended → run_sheet sheet ≡ stops last.line last.session.progress.machine
unfolding rest_at
session_prints sheet k e h =
    let bytes : List ℕ = whole_records sheet in
    let last : TakenM = lines_taken bytes k (begun_sheet (length sheet)) in
    sym (session_rest sheet) ∙ lines_rest bytes k (begun_sheet (length sheet))
    ∙ ap (λ (line : List ℕ). prints last.line (prints line (rest_of bytes last.session.progress))) e
    ∙ ap (λ (s : Stage). prints last.line (rest_at s bytes last.session.progress)) h
    ∙ ap (λ (t : List ℕ). stops t last.session.progress.machine) (append-nil last.line)

-- It is met: the one line of a sheet of no bytes is its refusal.
pub empty_prints : run_sheet [] ≡ stops (refused_line bad_sheet 0) start
unfolding bad_length start_of lines_taken taken_within is_taken is_over pieces_at piece_at
empty_prints = session_prints [] 1 refl refl ∙ ap (λ (t : List ℕ). stops t start) (append-nil (refused_line bad_sheet 0))
