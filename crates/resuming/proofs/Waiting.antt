-- What a sheet prints where its file is still to be loaded, piece by piece: theorems about the definitions, which the contracts of `resuming` carry over to
-- the code.
use Prim.Native.Nat.{ℕ, zero, suc, ◌+◌, ◌-◌, ◌/◌, ◌<◌}
use mathlib.Core.Path.{◌≡◌, refl, sym, ap, ◌∙◌}
use mathlib.Core.Bool.{Bool, true, false, true≢false}
use mathlib.Core.List.{List, [], append-nil}
use native.Mathlib.Omega.{arith}
use lib.ListN.{length, take}
use lib.Seq.{take_all}
use lib.Dec.{eqb}
use borrow.Author.Tests.{eqb-true, not-true, not-false}
use Rattle.ids.specs.Answers.{Answered, accepted, refused, bad_chain, bad_sheet}
use Rattle.ids.proofs.Tests.{chosen, unchosen}
use Rattle.semantics.specs.Structure.{Structure}
use Rattle.semantics.specs.Calls as calls
use Rattle.semantics.specs.Calls.{Answer, number, says, done, closed, conflicting, summed, found, typed, els, refuse, Machine, machine, Step}
use Rattle.semantics.specs.Sheet.{record_bytes, max_sheet, Record, record_at, call_of, carry_out, Ran, prints, stops, chain_broken, visit, carried, print_answer}
use Rattle.semantics.specs.Sheet.{run_records, bad_length, refused_line, end_line}
use Rattle.records.proofs.Laws.{sheet_record}
use Rattle.sheet.specs.declared.Stage.{Stage}
use Rattle.sheet.specs.declared.Stage.TheVariants as stages
use Rattle.sheet.specs.Pieces.{is_ended, ProgressM, PieceM, standing, piece, start_of, refusal_piece, follow_of, answer_piece, done_before, visit_piece}
use Rattle.sheet.specs.Pieces.{piece_at, next_piece, visiting, rest_at, rest_of, Holds}
use Rattle.sheet.proofs.Pieces.{next_in, visit_same, run_from, good_length, records_same}
use Rattle.resuming.specs.Resuming.{declares, load_file, onward, loading, loading_end, visit_waiting, resume_records, resume_sheet, is_due_at, is_due, holding}
use Rattle.resuming.specs.Resuming.{loaded_piece, restored_piece, waiting_at, waiting_of}
use Rattle.resuming.proofs.Quiet.{Quiet, declaring_quiet}

-- a line that is the last
ends_with : (line : List ℕ) (m : Machine) → stops line m ≡ prints line (stops [] m)
ends_with line m = ap (λ (t : List ℕ). stops t m) (sym (append-nil line))

-- what holds of both holds of what a test chooses
pub chooses : {R : Type 0} (P : R → Type 0) (t : Bool) (x y : R) → P x → P y → P (elim t [ true ↦ x | false ↦ y ])
chooses P true x y h k = h
chooses P false x y h k = k

unfoldable pub is_listing : Stage → Bool
is_listing stages.Refusing = false
is_listing stages.Visiting = false
is_listing stages.Listing = true
is_listing stages.Ending = false
is_listing stages.Ended = false

module _ (file bytes : List ℕ) where
  -- The load.

  loaded_rest : (p : ProgressM) (a : Answered Structure) (rest : Machine → Ran)
      → ((s : Structure) → rest (machine p.machine.sig s) ≡ rest_of bytes (holding s p))
      → onward a p.index p.machine rest ≡ prints (loaded_piece a p).line (rest_of bytes (loaded_piece a p).progress)
  unfolding onward loaded_piece rest_at
  loaded_rest p (accepted s) rest h = h s
  loaded_rest p (refused n) rest h = ends_with (refused_line n p.index) p.machine

  -- a record that does not declare
  record_loads : (n visits i k : ℕ) (m : Machine) → declares (record_at bytes i).kind ≡ false
      → resume_records file bytes n visits i k m ≡ loading file i m (λ loaded. run_records bytes n visits i k loaded)
  unfolding resume_records visit_waiting
  record_loads n zero i k m h = sym (unchosen _ h)
  record_loads n (suc visits) i k m h = sym (unchosen _ h)

  -- where it is due, what is to be printed is what the load prints, and what a sheet prints from there on
  pub due_rest : (p : ProgressM) → is_due bytes p ≡ true
      → waiting_of file bytes p ≡ prints (restored_piece file p).line (rest_of bytes (restored_piece file p).progress)
  unfolding is_due_at waiting_at rest_at visiting
  due_rest p = at p.stage refl where
    holds : (s : Stage) → p.stage ≡ s → (t : Structure) → rest_at s bytes (holding t p) ≡ rest_of bytes (holding t p)
    holds s e t = ap (λ (x : Stage). rest_at x bytes (holding t p)) (sym e)

    at : (s : Stage) → p.stage ≡ s → is_due_at s (record_at bytes p.index) ≡ true
        → waiting_at s file bytes p ≡ prints (restored_piece file p).line (rest_of bytes (restored_piece file p).progress)
    at stages.Refusing e h = absurd (true≢false (sym h))
    at stages.Visiting e h =
        record_loads p.count (p.count - 1 - done_before p.count p.done) p.index (done_before p.count p.done) p.machine (not-true _ h)
        ∙ loaded_rest p (load_file p.machine.sig file) _ (holds stages.Visiting e)
    at stages.Listing e h = absurd (true≢false (sym h))
    at stages.Ending e h = loaded_rest p (load_file p.machine.sig file) _ (holds stages.Ending e)
    at stages.Ended e h = absurd (true≢false (sym h))

  -- Before the load.

  -- what was to be printed is a piece and what comes after it; before the end the piece prints nothing, and lists nothing
  pub record Goes (was : Ran) (q : PieceM) : Type 0 where
    pub rest : was ≡ prints q.line (waiting_of file bytes q.progress)
    pub quiet : is_ended q.progress.stage ≡ false → q.line ≡ []
    pub unlisted : is_listing q.progress.stage ≡ false

  goes_choice : (t : Bool) (a b : Ran) (q r : PieceM) → Goes a q → Goes b r → Goes (elim t [ true ↦ a | false ↦ b ]) (elim t [ true ↦ q | false ↦ r ])
  goes_choice true a b q r h k = h
  goes_choice false a b q r h k = k

  refusal_goes : (x i : ℕ) (m : Machine) → Goes (stops (refused_line x i) m) (refusal_piece x i m)
  unfolding waiting_at is_ended is_listing
  refusal_goes x i m = record { rest = ends_with (refused_line x i) m; quiet = λ h. absurd (true≢false h); unlisted = refl }

  -- after a record, when k are done
  module _ (n next k : ℕ) (m : Machine) where
    abbrev followed : Ran
    followed =
        elim (eqb next 0) [ true ↦ loading_end file k m | false ↦ resume_records file bytes n (n - 1 - done_before n k) next (done_before n k) m ]

    follow_goes : Goes followed (piece [] (follow_of m n next k))
    unfolding follow_of waiting_at is_listing
    follow_goes = go (eqb next 0) refl where
      go : (t : Bool) → eqb next 0 ≡ t
          → Goes (elim t [ true ↦ loading_end file k m | false ↦ resume_records file bytes n (n - 1 - done_before n k) next (done_before n k) m ])
          (piece [] (elim t [ true ↦ standing stages.Ending m n next k | false ↦ standing stages.Visiting m n next k ]))
      go true e =
          record {
            rest = ap (λ (i : ℕ). loading file i m (λ loaded. stops (end_line k) loaded)) (sym (eqb-true next 0 e));
            quiet = λ h. refl;
            unlisted = refl;
          }
      go false e = record { rest = refl; quiet = λ h. refl; unlisted = refl }

    answer_goes : (i : ℕ) (a : Answer) → Quiet a → Goes (print_answer a i m followed) (answer_piece a i m n next k)
    unfolding print_answer answer_piece Quiet
    answer_goes i (refuse x) h = refusal_goes x i m
    answer_goes i (number x) h = follow_goes
    answer_goes i (says b) h = follow_goes
    answer_goes i done h = follow_goes
    answer_goes i (closed c) h = absurd h
    answer_goes i (conflicting cs f) h = absurd h
    answer_goes i (summed t) h = absurd h
    answer_goes i (found f) h = follow_goes
    answer_goes i (typed t) h = follow_goes
    answer_goes i (els es) h = follow_goes

  -- what comes after a record matters only where its chain is not broken
  waiting_same : (n v k : ℕ) (b : Bool) (i : ℕ) (m : Machine) (one two : Machine → Ran)
      → (chain_broken n b (record_at bytes i).next ≡ false → (a : Machine) → one a ≡ two a)
      → visit_waiting file bytes n v k b i m one ≡ visit_waiting file bytes n v k b i m two
  unfolding visit_waiting
  waiting_same n v k b i m one two same =
      ap (λ (r : Ran). elim (declares (record_at bytes i).kind) [ true ↦ r | false ↦ loading file i m (λ loaded. run_records bytes n v i k loaded) ])
      (visit_same n b (record_at bytes i) m i one two same)

  -- a record that declares
  visiting_goes : (p : ProgressM) → declares (record_at bytes p.index).kind ≡ true
      → Goes (waiting_at stages.Visiting file bytes p) (visit_piece (record_at bytes p.index) p)
  unfolding waiting_at visit visit_piece carried visit_waiting resume_records
  visiting_goes p h =
      let n = p.count in
      let d = done_before n p.done in
      let r = record_at bytes p.index in
      let s = carry_out (call_of r) p.machine in
      let went = goes_choice (chain_broken n (eqb (n - 1 - d) 0) r.next) _ _ _ _ (refusal_goes bad_chain p.index p.machine)
      (answer_goes n r.next (d + 1) s.after p.index s.answer (declaring_quiet r p.machine h)) in
      record {
        rest =
            run_from bytes n (loading_end file) (visit_waiting file bytes n) (resume_records file bytes n) (waiting_same n) (λ i k m. refl) (λ visits i k m. refl)
            p.index d p.machine
            ∙ sym (chosen _ h)
            ∙ went.rest;
        quiet = went.quiet;
        unlisted = went.unlisted;
      }

  -- the next piece, where the load is not due
  pub waits : (p : ProgressM) → is_ended p.stage ≡ false → is_due bytes p ≡ false → is_listing p.stage ≡ false
      → Goes (waiting_of file bytes p) (next_piece bytes p)
  unfolding is_ended is_due_at is_listing waiting_at piece_at
  waits p = at p.stage where
    at : (s : Stage) → is_ended s ≡ false → is_due_at s (record_at bytes p.index) ≡ false → is_listing s ≡ false
        → Goes (waiting_at s file bytes p) (piece_at s (record_at bytes p.index) p)
    at stages.Refusing e h l = refusal_goes bad_sheet 0 p.machine
    at stages.Visiting e h l = visiting_goes p (not-false _ h)
    at stages.Listing e h l = absurd (true≢false l)
    at stages.Ending e h l = absurd (true≢false h)
    at stages.Ended e h l = absurd (true≢false e)

  -- nothing is printed any more
  pub ended_rest : (p : ProgressM) → is_ended p.stage ≡ true → waiting_of file bytes p ≡ rest_of bytes p
  unfolding is_ended waiting_at rest_at
  ended_rest p = at p.stage where
    at : (s : Stage) → is_ended s ≡ true → waiting_at s file bytes p ≡ rest_at s bytes p
    at stages.Refusing h = absurd (true≢false (sym h))
    at stages.Visiting h = absurd (true≢false (sym h))
    at stages.Listing h = absurd (true≢false (sym h))
    at stages.Ending h = absurd (true≢false (sym h))
    at stages.Ended h = refl

-- The start.

pub start_unlisted : (l : ℕ) → is_listing (start_of l).stage ≡ false
unfolding start_of is_listing
start_unlisted l = chooses (λ (p : ProgressM). is_listing p.stage ≡ false) (bad_length l) _ _ refl refl

-- a sheet's records are those of the array that it is the first part of
module _ (file bytes : List ℕ) (n : ℕ) where
  abbrev sheet : List ℕ
  sheet = take n bytes

  abbrev many : ℕ
  many = n / record_bytes

  waiting_records : (v k : ℕ) (b : Bool) (i : ℕ) (m : Machine) (one two : Machine → Ran) → i < many
      → (chain_broken many b (record_at bytes i).next ≡ false → (a : Machine) → one a ≡ two a)
      → visit_waiting file bytes many v k b i m one ≡ visit_waiting file sheet many v k b i m two
  unfolding visit_waiting
  waiting_records v k b i m one two h same =
      waiting_same file bytes many v k b i m one two same
      ∙ ap (λ (rest : Machine → Ran). elim (declares (record_at bytes i).kind) [
        | true ↦ visit many b (record_at bytes i) i m two
        | false ↦ loading file i m rest
      ]) (λ j loaded. records_same bytes n v i k loaded h j)
      ∙ ap (λ (r : Record). elim (declares r.kind) [
        | true ↦ visit many b r i m two
        | false ↦ loading file i m (λ loaded. run_records sheet many v i k loaded)
      ]) (sym (sheet_record bytes n i h))

  resume_same : (visits i k : ℕ) (m : Machine) → i < many → resume_records file bytes many visits i k m ≡ resume_records file sheet many visits i k m
  unfolding resume_records
  resume_same zero i k m h = waiting_records zero k true i m _ _ h (λ whole a. refl)
  resume_same (suc visits) i k m h =
      waiting_records (suc visits) k false i m _ _ h
      (λ whole a.
      ap (λ (r : Ran). elim (eqb (record_at bytes i).next 0) [ true ↦ loading_end file (suc k) a | false ↦ r ])
      (resume_same visits (record_at bytes i).next (suc k) a (next_in many false (record_at bytes i).next whole)))
      ∙ ap (λ (r : Record). visit_waiting file sheet many (suc visits) k false i m (λ (after : Machine).
      elim (eqb r.next 0) [ true ↦ loading_end file (suc k) after | false ↦ resume_records file sheet many visits r.next (suc k) after ]))
      (sym (sheet_record bytes n i h))

-- what is to be printed at the start is what the sheet prints that is resumed from the file
pub start_waits : (file sheet bytes : List ℕ) → Holds bytes sheet → waiting_of file bytes (start_of (length sheet)) ≡ resume_sheet file sheet
unfolding start_of resume_sheet waiting_at
start_waits file sheet bytes holds = go (bad_length (length sheet)) refl where
  n : ℕ
  n = length sheet / record_bytes

  go : (t : Bool) → bad_length (length sheet) ≡ t
      → ◌≡◌ {A = Ran} (waiting_of file bytes (elim t [ true ↦ standing stages.Refusing calls.start 0 0 0 | false ↦ standing stages.Visiting calls.start n 0 0 ]))
      (elim t [ true ↦ stops (refused_line bad_sheet 0) calls.start | false ↦ resume_records file sheet n (n - 1) 0 0 calls.start ])
  go true h = refl
  go false h =
      let good = good_length (length sheet) h in
      let zeroth : done_before n 0 ≡ 0 = omega arith in
      let all : n - 1 - 0 ≡ n - 1 = omega arith in
      let whole : take (length sheet) bytes ≡ sheet = sym holds ∙ take_all (max_sheet) sheet good.1.0 in
      ap (λ (d : ℕ). resume_records file bytes n (n - 1 - d) 0 d calls.start) zeroth
      ∙ ap (λ (f : ℕ). resume_records file bytes n f 0 0 calls.start) all
      ∙ resume_same file bytes (length sheet) (n - 1) 0 0 calls.start good.0
      ∙ ap (λ (xs : List ℕ). resume_records file xs n (n - 1) 0 0 calls.start) whole
