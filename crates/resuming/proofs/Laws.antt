-- Laws of the parts of the code: a record of an index, the load, a sheet up to the load and up to its last line.
use Prim.Native.Nat.{ℕ, ◌≤◌, ◌<◌, ◌-◌}
use mathlib.Core.Path.{◌≡◌, refl, sym, ap, subst, ◌∙◌}
use mathlib.Core.Bool.{Bool, true, false, true≢false}
use mathlib.Core.List.{List, [], ◌∷◌, ◌++◌, append_assoc}
use mathlib.Core.Logic.{◌⊎◌, inl, inr}
use native.Mathlib.Omega.{arith}
use lib.ListN.{length, drop}
use lib.Dec.{eqb, ltb}
use borrow.Author.Tests.{ltb-true, ltb-false, lt-ltb, le-ltb}
use Rattle.ids.specs.Answers.{Answered, accepted, refused, bad_chain, bad_sheet, wrong_length}
use Rattle.ids.proofs.Tests.{chosen, unchosen}
use Rattle.semantics.specs.Structure as model
use Rattle.semantics.specs.Conflicts.{Conflict}
use Rattle.semantics.specs.Calls.{Answer, number, says, done, closed, conflicting, summed, found, typed, els, refuse, Machine}
use Rattle.semantics.specs.Sheet.{max_records, max_sheet, Record, record_of, record_at, call_of, carry_out, Ran, prints, stops, chain_broken, bad_length, conflict_line}
use Rattle.records.specs.View.{record_in}
use Rattle.records.proofs.Laws.{record_in_lem}
use Rattle.structure.specs.View.{structure_of}
use Rattle.file.specs.File.{load}
use Rattle.storing.specs.View.{max_bytes}
use Rattle.loading.specs.declared.Loading.{Loading}
use Rattle.std.specs.declared.result.Result.{Result}
use Rattle.loading.specs.View.{LoadingM, loading, answer_of, loading_of}
use Rattle.sheet.specs.declared.Stage.{Stage}
use Rattle.sheet.specs.declared.Stage.TheVariants as stages
use Rattle.sheet.specs.Pieces.{is_ended, ProgressM, PieceM, standing, piece, start_of, refusal_piece, follow_of, answer_piece, done_before, visit_piece, list_piece, listing_all, one_printed}
use Rattle.sheet.specs.Pieces.{piece_at, next_piece, rest_of}
use Rattle.sheet.proofs.Laws.{nothing_past}
use Rattle.sheet.proofs.Pieces.{rest_next}
use Rattle.resuming.specs.Resuming.{load_file, is_due_at, is_due, loaded_piece, restored_piece, holding, waiting_of, Refuses, Declared, Resumed, is_last}
use Rattle.resuming.proofs.Waiting.{chooses, is_listing, Goes, waits, due_rest, ended_rest, start_unlisted}

-- the kind of the record of an index, in an array as long as the longest sheet
pub kind_in : (bytes : List ℕ) (i : ℕ) {r : Record} → length bytes ≡ max_sheet → r ≡ record_in bytes i → r.kind ≡ (record_at bytes i).kind
unfolding record_in record_of
kind_in bytes i {r} long e = go (ltb i max_records) refl where
  go : (t : Bool) → ltb i max_records ≡ t → r.kind ≡ (record_at bytes i).kind
  go true h = ap (λ (x : Record). x.kind) (e ∙ record_in_lem bytes i (ltb-true i max_records h))
  go false h =
      let past : record_at bytes i ≡ record_of [] = nothing_past bytes i (omega (arith, long, ltb-false i max_records h)) in
      ap (λ (x : Record). x.kind) (e ∙ sym (unchosen (record_at bytes i) h)) ∙ sym (ap (λ (x : Record). x.kind) past)

-- whether the load is due, by the stage
pub due_at : (bytes : List ℕ) (p : ProgressM) {s : Stage} {b : Bool} → p.stage ≡ s → b ≡ is_due_at s (record_at bytes p.index) → b ≡ is_due bytes p
due_at bytes p e h = h ∙ ap (λ (s : Stage). is_due_at s (record_at bytes p.index)) (sym e)

pub due_never : (bytes : List ℕ) (p : ProgressM) → (p.stage ≡ stages.Refusing) ⊎ ((p.stage ≡ stages.Listing) ⊎ (p.stage ≡ stages.Ended)) → false ≡ is_due bytes p
unfolding is_due_at
due_never bytes p (inl e) = due_at bytes p e refl
due_never bytes p (inr (inl e)) = due_at bytes p e refl
due_never bytes p (inr (inr e)) = due_at bytes p e refl

-- whether it is the last line, by the stage
pub last_in : (s : Stage) → (s ≡ stages.Ending) ⊎ (s ≡ stages.Ended) → true ≡ is_last s
unfolding is_last
last_in s (inl e) = sym (ap is_last e)
last_in s (inr e) = sym (ap is_last e)

pub last_not : (s : Stage) → (s ≡ stages.Ending → ⊥) → (s ≡ stages.Ended → ⊥) → false ≡ is_last s
unfolding is_last
last_not stages.Refusing h k = refl
last_not stages.Visiting h k = refl
last_not stages.Listing h k = refl
last_not stages.Ending h k = absurd (h refl)
last_not stages.Ended h k = absurd (k refl)

-- A sheet stops before its last line with a refusal only.

refusal_refuses : (x i : ℕ) (m : Machine) → Refuses (refusal_piece x i m)
refusal_refuses x i m h = record { number = x; index = i; is = refl }

-- it does not stop
pub on_refuses : (q : PieceM) → is_ended q.progress.stage ≡ false → Refuses q
on_refuses q e h = absurd (true≢false (sym h ∙ e))

-- after a record
follow_refuses : (line : List ℕ) (m : Machine) (n next k : ℕ) → Refuses (piece line (follow_of m n next k))
unfolding follow_of is_ended
follow_refuses line m n next k =
    on_refuses (piece line (follow_of m n next k))
    (chooses (λ (p : ProgressM). is_ended p.stage ≡ false) (eqb next 0) (standing stages.Ending m n next k) (standing stages.Visiting m n next k) refl refl)

answer_refuses : (a : Answer) (i : ℕ) (m : Machine) (n next k : ℕ) → Refuses (answer_piece a i m n next k)
unfolding answer_piece is_ended
answer_refuses (refuse x) i m n next k = refusal_refuses x i m
answer_refuses (number x) i m n next k = follow_refuses _ m n next k
answer_refuses (says b) i m n next k = follow_refuses _ m n next k
answer_refuses done i m n next k = follow_refuses _ m n next k
answer_refuses (closed c) i m n next k = follow_refuses _ m n next k
answer_refuses (conflicting cs f) i m n next k = on_refuses (piece [] (listing_all cs m n next k)) refl
answer_refuses (summed t) i m n next k = follow_refuses _ m n next k
answer_refuses (found f) i m n next k = follow_refuses _ m n next k
answer_refuses (typed t) i m n next k = follow_refuses _ m n next k
answer_refuses (els es) i m n next k = follow_refuses _ m n next k

pub stops_refused : (bytes : List ℕ) (p : ProgressM) → is_last p.stage ≡ false → Refuses (next_piece bytes p)
unfolding visit_piece list_piece is_ended piece_at is_last
stops_refused bytes p = at p.stage refl where
  visited : (r : Record) → Refuses (visit_piece r p)
  visited r =
      chooses Refuses (chain_broken p.count (eqb (p.count - 1 - done_before p.count p.done) 0) r.next) _ _ (refusal_refuses bad_chain p.index p.machine)
      (answer_refuses (carry_out (call_of r) p.machine).answer p.index (carry_out (call_of r) p.machine).after p.count r.next _)

  listed : p.stage ≡ stages.Listing → (cs : List Conflict) → Refuses (list_piece cs p)
  listed e [] = follow_refuses _ p.machine p.count p.index p.done
  listed e (c ∷ cs) = on_refuses (piece (conflict_line c) (one_printed p)) (ap is_ended e)

  at : (s : Stage) → p.stage ≡ s → is_last s ≡ false → Refuses (piece_at s (record_at bytes p.index) p)
  at stages.Refusing e h = refusal_refuses bad_sheet 0 p.machine
  at stages.Visiting e h = visited (record_at bytes p.index)
  at stages.Listing e h = listed e (drop p.printed p.conflicts)
  at stages.Ending e h = absurd (true≢false h)
  at stages.Ended e h = absurd (true≢false h)

-- it is not the end
pub last_ended : (s : Stage) → is_last s ≡ false → is_ended s ≡ false
unfolding is_last is_ended
last_ended stages.Refusing h = refl
last_ended stages.Visiting h = refl
last_ended stages.Listing h = refl
last_ended stages.Ending h = absurd (true≢false h)
last_ended stages.Ended h = absurd (true≢false h)

-- before the load it is not the last
not_last : (r : Record) (s : Stage) → is_ended s ≡ false → is_due_at s r ≡ false → is_last s ≡ false
unfolding is_ended is_due_at is_last
not_last r stages.Refusing h d = refl
not_last r stages.Visiting h d = refl
not_last r stages.Listing h d = refl
not_last r stages.Ending h d = absurd (true≢false d)
not_last r stages.Ended h d = absurd (true≢false h)

pub start_on : (l : ℕ) → is_ended (start_of l).stage ≡ false
unfolding start_of is_ended
start_on l = chooses (λ (p : ProgressM). is_ended p.stage ≡ false) (bad_length l) _ _ refl refl

-- Up to the load.

-- a sheet under way, where the file is still to be loaded
pub record Waits (bytes : List ℕ) (p : ProgressM) (q : PieceM) : Type 0 where
  pub rest : (file : List ℕ) → waiting_of file bytes p ≡ prints q.line (waiting_of file bytes q.progress)
  pub quiet : is_ended q.progress.stage ≡ false → q.line ≡ []
  pub unlisted : is_listing q.progress.stage ≡ false
  pub refuses : Refuses q

pub waits_start : (bytes : List ℕ) (l : ℕ) {q : PieceM} → q ≡ piece [] (start_of l) → Waits bytes (start_of l) q
waits_start bytes l {q} e =
    record {
      rest = λ file. ap (λ (x : PieceM). prints x.line (waiting_of file bytes x.progress)) (sym e);
      quiet = λ h. ap (λ (x : PieceM). x.line) e;
      unlisted = ap (λ (x : PieceM). is_listing x.progress.stage) e ∙ start_unlisted l;
      refuses = on_refuses q (ap (λ (x : PieceM). is_ended x.progress.stage) e ∙ start_on l);
    }

module _ {bytes : List ℕ} {p : ProgressM} {q : PieceM} (w : Waits bytes p q) where
  -- one more piece
  pub waits_on : {r : PieceM} → r ≡ next_piece bytes q.progress → is_ended q.progress.stage ≡ false → is_due bytes q.progress ≡ false
      → Waits bytes p r
  waits_on {r} e on due =
      let goes : (file : List ℕ) → Goes file bytes (waiting_of file bytes q.progress) (next_piece bytes q.progress) =
      λ file. waits file bytes q.progress on due w.unlisted in
      record {
        rest =
            λ file. w.rest file
            ∙ ap (λ (t : List ℕ). prints t (waiting_of file bytes q.progress)) (w.quiet on)
            ∙ (goes file).rest
            ∙ ap (λ (x : PieceM). prints x.line (waiting_of file bytes x.progress)) (sym e);
        quiet = λ h. ap (λ (x : PieceM). x.line) e ∙ (goes []).quiet (ap (λ (x : PieceM). is_ended x.progress.stage) (sym e) ∙ h);
        unlisted = ap (λ (x : PieceM). is_listing x.progress.stage) e ∙ (goes []).unlisted;
        refuses = subst Refuses (sym e) (stops_refused bytes q.progress (not_last _ q.progress.stage on due));
      }

-- with the load
loaded_refuses : (a : Answered model.Structure) (p : ProgressM) → is_ended p.stage ≡ false → Refuses (loaded_piece a p)
unfolding loaded_piece
loaded_refuses (accepted s) p on = on_refuses (piece [] (holding s p)) on
loaded_refuses (refused n) p on = refusal_refuses n p.index p.machine

module _ {bytes : List ℕ} {p : ProgressM} {q : PieceM} (d : Declared bytes p q) (file : List ℕ) where
  pub resumes_ended : is_ended q.progress.stage ≡ true → Resumed file bytes p q
  resumes_ended h = record { rest = d.rest file ∙ ap (prints q.line) (ended_rest file bytes q.progress h); refuses = d.refuses }

  pub resumes : {r : PieceM} {given : List ℕ} → is_ended q.progress.stage ≡ false → given ≡ file → r ≡ restored_piece given q.progress
      → Resumed file bytes p r
  resumes {r} on same is =
      let e : r ≡ restored_piece file q.progress = is ∙ ap (λ (f : List ℕ). restored_piece f q.progress) same in
      record {
        rest =
            d.rest file
            ∙ ap (λ (t : List ℕ). prints t (waiting_of file bytes q.progress)) (d.quiet on)
            ∙ due_rest file bytes q.progress (d.due on)
            ∙ ap (λ (x : PieceM). prints x.line (rest_of bytes x.progress)) (sym e);
        refuses = subst Refuses (sym e) (loaded_refuses (load_file q.progress.machine.sig file) q.progress on);
      }

-- Up to the last line.

-- a sheet under way, after the piece p
pub record Going (bytes : List ℕ) (p q : PieceM) : Type 0 where
  pub text : List ℕ
  pub rest : prints p.line (rest_of bytes p.progress) ≡ prints text (prints q.line (rest_of bytes q.progress))
  pub refuses : Refuses p → Refuses q

module _ {bytes : List ℕ} {p q : PieceM} (g : Going bytes p q) where
  pub going_on : {r : PieceM} → r ≡ next_piece bytes q.progress → is_last q.progress.stage ≡ false → Going bytes p r
  going_on {r} e more =
      let after = prints r.line (rest_of bytes r.progress) in
      record {
        text = g.text ++ q.line;
        rest =
            g.rest
            ∙ ap (λ (x : Ran). prints g.text (prints q.line x))
            (rest_next bytes q.progress ∙ ap (λ (x : PieceM). prints x.line (rest_of bytes x.progress)) (sym e))
            ∙ ap (λ (t : List ℕ). stops t after.machine) (sym (append_assoc g.text q.line after.printed));
        refuses = λ h. subst Refuses (sym e) (stops_refused bytes q.progress more);
      }

-- The load.

pub loading_answer : (a : Answered model.Structure) → (loading a).answer ≡ a
unfolding loading
loading_answer (accepted s) = refl
loading_answer (refused n) = refl

module _ (file : List ℕ) (p : ProgressM) {q : PieceM} where
  pub restores_long : max_bytes < length file → q ≡ refusal_piece wrong_length p.index p.machine → q ≡ restored_piece file p
  unfolding load_file loaded_piece
  restores_long h e = e ∙ ap (λ (a : Answered model.Structure). loaded_piece a p) (chosen (load p.machine.sig file) (lt-ltb max_bytes (length file) h))

  -- by what the load answers, with the structure beside it
  pub restores : length file ≤ max_bytes → (r : Loading) → loading_of r ≡ loading (load p.machine.sig file) → {a : Result Unit ℕ} → r.answer ≡ a
      → q ≡ loaded_piece (answer_of a (structure_of r.structure)) p → q ≡ restored_piece file p
  unfolding load_file
  restores h r ensured {a} e is =
      is
      ∙ ap (λ (x : Result Unit ℕ). loaded_piece (answer_of x (structure_of r.structure)) p) (sym e)
      ∙ ap (λ (x : LoadingM). loaded_piece x.answer p) ensured
      ∙ ap (λ (x : Answered model.Structure). loaded_piece x p)
      (loading_answer (load p.machine.sig file) ∙ unchosen (refused wrong_length) (le-ltb max_bytes (length file) h))
