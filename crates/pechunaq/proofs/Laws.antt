-- Laws of what a session stands for, by the parts of the code.
use Prim.Native.Nat.{ℕ, zero, suc, ◌*◌, ◌/◌, ◌<◌, min}
use mathlib.Core.Path.{◌≡◌, refl, sym, ap, ◌∙◌}
use mathlib.Core.Bool.{Bool, true, false, true≢false}
use mathlib.Core.List.{List, [], ◌∷◌, map}
use mathlib.Core.Logic.{◌⊎◌, inl, inr}
use native.Mathlib.Omega.{arith}
use lib.ListN.{length, take, length-take}
use lib.Dec.{ltb}
use borrow.Author.Tests.{ltb-true}
use Rattle.ids.specs.Ids.{types_of}
use Rattle.ids.proofs.Tests.{chosen, unchosen}
use Rattle.ids.proofs.Views.{map_take, take_same}
use Rattle.signature.specs.declared.TypeKind.{TypeKind}
use Rattle.signature.specs.declared.Type as code
use Rattle.signature.specs.Model.{TypeM, type_entry, kind_of, type_of}
use Rattle.semantics.specs.Calls.{Step}
use Rattle.semantics.specs.Sheet.{record_bytes, Record, record_at, call_of, carry_out}
use Rattle.records.specs.View.{record_within, blank}
use Rattle.records.proofs.Laws.{record_within_lem, sheet_record}
use Rattle.structure.specs.declared.Answer.{Answer}
use Rattle.structure.specs.View.{answer_of, machine_of}
use Rattle.conflicts.specs.View.{conflicts_of}
use Rattle.carrying.specs.declared.Carried.{Carried}
use Rattle.carrying.specs.View.{CarriedM, carried_step, carried_of, with_conflicts}
use Rattle.sheet.specs.declared.Stage.{Stage}
use Rattle.sheet.specs.declared.Stage.TheVariants as stages
use Rattle.sheet.specs.declared.Progress.{Progress}
use Rattle.sheet.specs.Pieces.{is_ended, ProgressM, PieceM, piece, step_piece, piece_at, next_piece, pieces_of}
use Rattle.sheet.specs.View.{progress_of}
use Rattle.sheet.proofs.Laws.{reads_within}
use Rattle.sheet.proofs.Pieces.{pieces_next, some_to_come}
use Rattle.ids.specs.Answers.{Answered, Outcome}
use Rattle.semantics.specs.Structure as model
use Rattle.structure.specs.View.{structure_of}
use Rattle.std.specs.declared.result.Result.{Result}
use Rattle.storing.specs.View.{stored_of}
use Rattle.loading.specs.declared.Loading.{Loading}
use Rattle.loading.specs.View.{LoadingM, loading, loading_of, answer_of as loaded}
use Rattle.resuming.proofs.Laws.{loading_answer}
use Rattle.pechunaq.specs.Session.{ReplyM, numbers_of, counted, having, HandedInM, handed_in, is_over, whole_records, is_taken, taken_within, up_to_line, TakenM, taken_from, next_line, ParkedM, parked, ResumedM, resumed}

-- a type, by its kind
pub by_kind : (t : code.Type) {k : TypeKind} {x : TypeM} → t.kind ≡ k → x ≡ type_entry (kind_of k) (types_of t.parents) → x ≡ type_of t
by_kind t e h = h ∙ ap (λ (k : TypeKind). type_entry (kind_of k) (types_of t.parents)) (sym e)

-- the leading entries of an array, each made of one in another
pub viewed : {A B C : Type 0} (f : B → C) (h : A → C) (k n : ℕ) (xs : List A) (ys : List B) → map f ys ≡ map h xs → min k (length xs) ≡ min n (length xs)
    → map f (take k ys) ≡ map h (take n xs)
viewed f h k n xs ys e m = map_take f k ys ∙ ap (take k) e ∙ sym (map_take h k xs) ∙ ap (map h) (take_same k n xs m)

-- the numbers of an answer, by the answer
pub by_answer : (s : Carried) {a : Answer} {x : ReplyM} → s.answer ≡ a → x ≡ numbers_of (answer_of (conflicts_of s.conflicts) a)
    → x ≡ numbers_of (carried_step s).answer
by_answer s e h = h ∙ ap (λ (a : Answer). numbers_of (answer_of (conflicts_of s.conflicts) a)) (sym e)

-- what storing answers, as numbers
pub parks : (o : Result ℕ ℕ) (file : List ℕ) {s : Result ℕ ℕ} {x : Outcome ℕ (List ℕ)} {y : ParkedM} → o ≡ s → stored_of o file ≡ x → y ≡ parked (stored_of s file) → y ≡ parked x
parks o file e h is = is ∙ ap (λ (s : Result ℕ ℕ). parked (stored_of s file)) (sym e) ∙ ap parked h

-- a session by what its load answers
pub resumes : (r : Loading) (x : Answered model.Structure) (q : PieceM) {a : Result Unit ℕ} {y : ResumedM} → r.answer ≡ a → loading_of r ≡ loading x
    → y ≡ resumed (loaded a (structure_of r.structure)) q → y ≡ resumed x q
resumes r x q e h is =
    is
    ∙ ap (λ (a : Result Unit ℕ). resumed (loaded a (structure_of r.structure)) q) (sym e)
    ∙ ap (λ (m : LoadingM). resumed m.answer q) h
    ∙ ap (λ (a : Answered model.Structure). resumed a q) (loading_answer x)

-- A record is handed in: of bytes, to a session that stands for q.
module _ (bytes : List ℕ) (q : PieceM) (p : Progress) {r : Record} (k : Carried) (whole : length bytes ≡ record_bytes)
    (open_is : progress_of p ≡ q.progress) (record_is : r ≡ record_within bytes 0) (carried-is : carried_of k ≡ with_conflicts (carry_out (call_of r) (machine_of p.machine)))
  where
    carries : carried_step k ≡ carry_out (call_of (record_at bytes 0)) q.progress.machine
    carries =
        let read : r ≡ record_at bytes 0 = record_is ∙ record_within_lem bytes 0 (omega (arith, whole)) in
        ap (λ (x : CarriedM). x.step) carried-is ∙ (λ i. carry_out (call_of (read i)) (open_is i).machine)

    pub hands : {a : ReplyM} {d : ℕ} {r' : PieceM} {s : PieceM} → a ≡ numbers_of (carried_step k).answer → d ≡ counted p.position.done → r' ≡ step_piece (carried_step k) p.position.done 0 0 d
        → s ≡ having d r' → ◌≡◌ {A = HandedInM} (record { answer = a; session = s }) (handed_in (record_at bytes 0) q)
    hands {d = d} numbers done lines kept =
        let at : p.position.done ≡ q.progress.done = ap (λ (x : ProgressM). x.done) open_is in
        let counts : d ≡ counted q.progress.done = done ∙ ap counted at in
        let answer : numbers_of (carried_step k).answer ≡ numbers_of (carry_out (call_of (record_at bytes 0)) q.progress.machine).answer =
        ap (λ (x : Step). numbers_of x.answer) carries in
        λ i. record {
          answer = (numbers ∙ answer) i;
          session = (kept ∙ ap (having d) lines ∙ (λ j. having (counts j) (step_piece (carries j) (at j) 0 0 (counts j)))) i;
        }

-- The records of some bytes are their whole records.

-- past the last whole record there is nothing
pub whole_reads : (bytes : List ℕ) (p : ProgressM) {given : Record} {q : PieceM} → given ≡ record_within bytes p.index → q ≡ piece_at p.stage given p
    → q ≡ next_piece (whole_records bytes) p
unfolding record_within
whole_reads bytes p {given} {q} e is =
    reads_within (whole_records bytes) p (length bytes / record_bytes) (omega (arith, length-take (record_bytes * (length bytes / record_bytes)) bytes)) (e ∙ go (ltb p.index (length bytes / record_bytes)) refl) is where
      go : (t : Bool) → ltb p.index (length bytes / record_bytes) ≡ t
          → ◌≡◌ {A = Record} (elim t [ true ↦ record_at bytes p.index | false ↦ blank ]) (elim t [ true ↦ record_at (whole_records bytes) p.index | false ↦ blank ])
      go true h =
          let in_whole : p.index < record_bytes * (length bytes / record_bytes) / record_bytes = omega (arith, ltb-true p.index (length bytes / record_bytes) h) in
          sym (sheet_record bytes (record_bytes * (length bytes / record_bytes)) p.index in_whole)
      go false h = refl

-- Lines.

-- what is not over has not ended
pub over_ended : (s : Stage) (n : ℕ) → is_over s n ≡ false → is_ended s ≡ false
unfolding is_over is_ended
over_ended stages.Refusing n h = refl
over_ended stages.Visiting n h = refl
over_ended stages.Listing n h = refl
over_ended stages.Ending n h = refl
over_ended stages.Ended n h = absurd (true≢false h)

-- nor is what comes before the last line
pub never_over : (s : Stage) (n : ℕ) → (s ≡ stages.Refusing) ⊎ ((s ≡ stages.Visiting) ⊎ (s ≡ stages.Listing)) → false ≡ is_over s n
unfolding is_over
never_over s n (inl e) = sym (ap (λ (s : Stage). is_over s n) e)
never_over s n (inr (inl e)) = sym (ap (λ (s : Stage). is_over s n) e)
never_over s n (inr (inr e)) = sym (ap (λ (s : Stage). is_over s n) e)

-- a line that is not empty is taken
pub taken_line : (line : List ℕ) (p : ProgressM) → (length line ≡ 0 → ⊥) → is_taken line p ≡ true
unfolding is_taken
taken_line [] p h = absurd (h refl)
taken_line (b ∷ bs) p h = refl

-- with an empty one it goes by whether something comes
pub taken_none : (line : List ℕ) (p : ProgressM) {b : Bool} → length line ≡ 0 → is_over p.stage p.count ≡ b → is_taken line p ≡ b
unfolding is_taken
taken_none [] p h e = e
taken_none (b ∷ bs) p h e = absurd (omega (arith, h))

-- what is taken stays
pub taken_now : (k : ℕ) (bytes : List ℕ) (q : PieceM) → is_taken q.line q.progress ≡ true → taken_within k bytes q ≡ q
unfolding taken_within
taken_now zero bytes q h = refl
taken_now (suc k) bytes q h = sym (chosen _ h)

-- the next piece, where this one is not taken
pub taken_on : (bytes : List ℕ) (q : PieceM) {r : PieceM} → is_taken q.line q.progress ≡ false → is_ended q.progress.stage ≡ false
    → r ≡ next_piece bytes q.progress → up_to_line bytes r ≡ up_to_line bytes q
unfolding taken_within
taken_on bytes q h on e =
    let fewer : pieces_of bytes q.progress ≡ suc (pieces_of bytes (next_piece bytes q.progress).progress) =
    omega (arith, pieces_next bytes q.progress, some_to_come bytes q.progress on) in
    ap (up_to_line bytes) e ∙ unchosen q h ∙ ap (λ (k : ℕ). taken_within k bytes q) (sym fewer)

-- a line is taken from a session that stands for q
pub takes : (bytes : List ℕ) (q r : PieceM) {given s : PieceM} → given ≡ q → r ≡ up_to_line bytes given → s ≡ piece [] r.progress
    → ◌≡◌ {A = TakenM} (record { line = r.line; session = s }) (next_line bytes q)
takes bytes q r e h is = (λ i. record { line = r.line; session = is i }) ∙ ap taken_from (h ∙ ap (up_to_line bytes) e)
