-- Laws of the next piece, by the parts of the code.
use Prim.Native.Nat.{ℕ, ◌+◌, ◌-◌, ◌*◌, ◌/◌, ◌%◌, ◌≤◌, ◌<◌}
use mathlib.Core.Path.{◌≡◌, refl, sym, ap, ◌∙◌}
use mathlib.Core.Bool.{Bool, true, false, not}
use mathlib.Core.List.{List, []}
use mathlib.Core.Logic.{◌⊎◌, inl, inr}
use native.Mathlib.Omega.{arith}
use lib.ListN.{length, take, drop, get_or, drop_of_length-le}
use lib.Dec.{eqb, ltb}
use borrow.Author.Tests.{eq-eqb, ne_eqb, lt-leb, le-leb, lt-ltb, ltb-false, le-ltb}
use Rattle.ids.specs.Answers.{bad_chain}
use Rattle.ids.proofs.Tests.{chosen, unchosen}
use Rattle.ids.proofs.Views.{view_next, view_done}
use Rattle.semantics.specs.Conflicts.{Conflict}
use Rattle.semantics.specs.Calls as calls
use Rattle.semantics.specs.Sheet.{max_records, record_bytes, max_sheet, words, Record, record_of, record_at, forms, form_of, call_in, call_of, carry_out}
use Rattle.semantics.specs.Sheet.{chain_broken, bad_length, conflict_line}
use Rattle.records.specs.View.{record_in, blank}
use Rattle.conflicts.specs.declared.TypeConflict.{TypeConflict}
use Rattle.conflicts.specs.View.{conflict_of, conflicts_of}
use Rattle.lines.specs.View.{conflicts_end}
use Rattle.structure.specs.declared.Answer.{Answer}
use Rattle.structure.specs.declared.Answer.TheVariants as variants
use Rattle.structure.specs.View.{machine_of, answer_of}
use Rattle.carrying.specs.declared.Carried.{Carried}
use Rattle.carrying.specs.View.{carried_step}
use Rattle.sheet.specs.declared.Stage.{Stage}
use Rattle.sheet.specs.declared.Stage.TheVariants as stages
use Rattle.sheet.specs.declared.Position.{Position}
use Rattle.sheet.specs.declared.Progress.{Progress}
use Rattle.sheet.specs.Pieces.{is_ended, ProgressM, PieceM, standing, piece, start_of, refusal_piece, follow_of, answer_piece, step_piece, done_before}
use Rattle.sheet.specs.Pieces.{visit_piece, one_printed, list_piece, piece_at, next_piece}
use Rattle.sheet.specs.View.{progress_of}

pub not_ended : (s : Stage) → (s ≡ stages.Ended → ⊥) → false ≡ is_ended s
unfolding is_ended
not_ended stages.Refusing h = refl
not_ended stages.Visiting h = refl
not_ended stages.Listing h = refl
not_ended stages.Ending h = refl
not_ended stages.Ended h = absurd (h refl)

-- a line and a progress
pub both : {l k : List ℕ} {p q : ProgressM} → l ≡ k → p ≡ q → piece l p ≡ piece k q
both e h i = piece (e i) (h i)

pub unlisted : (s : Stage) (m : calls.Machine) (n i k : ℕ) {cs : List Conflict} → cs ≡ []
    → ◌≡◌ {A = ProgressM} (record { stage = s; machine = m; count = n; index = i; done = k; conflicts = cs; printed = 0 }) (standing s m n i k)
unlisted s m n i k e = ap (λ (cs : List Conflict). record { stage = s; machine = m; count = n; index = i; done = k; conflicts = cs; printed = 0 }) e

-- The start.

module _ (n : ℕ) {m : calls.Machine} {q : ProgressM} (fresh : m ≡ calls.start) where
  starts_bad : bad_length n ≡ true → q ≡ standing stages.Refusing m 0 0 0 → q ≡ start_of n
  unfolding start_of
  starts_bad h e = e ∙ ap (λ (x : calls.Machine). standing stages.Refusing x 0 0 0) fresh ∙ chosen _ h

  pub starts_empty : n ≡ 0 → q ≡ standing stages.Refusing m 0 0 0 → q ≡ start_of n
  unfolding bad_length
  starts_empty h = starts_bad (rw (eq-eqb n 0 h))

  pub starts_uneven : (n ≡ 0 → ⊥) → (n % record_bytes ≡ 0 → ⊥) → q ≡ standing stages.Refusing m 0 0 0 → q ≡ start_of n
  unfolding bad_length
  starts_uneven h k = starts_bad (rw (ne_eqb n 0 h, ne_eqb _ 0 k))

  pub starts_long : (n ≡ 0 → ⊥) → n % record_bytes ≡ 0 → max_sheet < n → q ≡ standing stages.Refusing m 0 0 0 → q ≡ start_of n
  unfolding bad_length
  starts_long h k l = starts_bad (rw (ne_eqb n 0 h, eq-eqb _ 0 k, lt-ltb _ n l))

  pub starts : (n ≡ 0 → ⊥) → n % record_bytes ≡ 0 → n ≤ max_sheet → q ≡ standing stages.Visiting m (n / record_bytes) 0 0 → q ≡ start_of n
  unfolding bad_length start_of
  starts h k l e =
      let good : bad_length n ≡ false = rw (ne_eqb n 0 h, eq-eqb _ 0 k, le-ltb _ n l) in
      e ∙ ap (λ (x : calls.Machine). standing stages.Visiting x (n / record_bytes) 0 0) fresh ∙ unchosen _ good

-- After a record.

module _ (m : calls.Machine) (n next k : ℕ) {q : ProgressM} where
  pub follows_end : next ≡ 0 → q ≡ standing stages.Ending m n next k → q ≡ follow_of m n next k
  unfolding follow_of
  follows_end e h = h ∙ chosen _ (eq-eqb next 0 e)

  pub follows_on : (next ≡ 0 → ⊥) → q ≡ standing stages.Visiting m n next k → q ≡ follow_of m n next k
  unfolding follow_of
  follows_on e h = h ∙ unchosen _ (ne_eqb next 0 e)

-- by its answer
pub answered : (s : Carried) (i n next k : ℕ) {a : Answer} {q : PieceM} → s.answer ≡ a
    → q ≡ answer_piece (answer_of (conflicts_of s.conflicts) a) i (machine_of s.machine) n next k → q ≡ step_piece (carried_step s) i n next k
answered s i n next k e h =
    h ∙ ap (λ (a : Answer). answer_piece (answer_of (conflicts_of s.conflicts) a) i (machine_of s.machine) n next k) (sym e)

-- one that prints nothing
pub passes : (s : Carried) (i n next k : ℕ) {q : PieceM} → ((x : ℕ) × (s.answer ≡ variants.Number x)) ⊎ (((x : Bool) × (s.answer ≡ variants.Says x)) ⊎ (s.answer ≡ variants.Done))
    → q ≡ piece [] (follow_of (machine_of s.machine) n next k) → q ≡ step_piece (carried_step s) i n next k
unfolding answer_piece
passes s i n next k (inl (x, e)) = answered s i n next k e
passes s i n next k (inr (inl (x, e))) = answered s i n next k e
passes s i n next k (inr (inr e)) = answered s i n next k e

-- Visits.

-- whether a chain is broken, by the code's tests
module _ (n k next : ℕ) where
  pub broken_past : n ≤ next → true ≡ chain_broken n (eqb (n - 1 - k) 0) next
  unfolding chain_broken
  broken_past h = rw (le-leb n next h)

  pub broken_last : next < n → n - 1 ≤ k → not (eqb next 0) ≡ chain_broken n (eqb (n - 1 - k) 0) next
  unfolding chain_broken
  broken_last h l = let none : n - 1 - k ≡ 0 = omega arith in rw (lt-leb n next h, eq-eqb (n - 1 - k) 0 none)

  pub broken_not : next < n → k < n - 1 → false ≡ chain_broken n (eqb (n - 1 - k) 0) next
  unfolding chain_broken
  broken_not h l = let some : n - 1 - k ≡ 0 → ⊥ = omega arith in rw (lt-leb n next h, ne_eqb (n - 1 - k) 0 some)

module _ (r : Record) (p : ProgressM) {at : Position} (is : at ≡ record { count = p.count; index = p.index; done = done_before p.count p.done }) where
  broken_before : {b : Bool} → chain_broken at.count (eqb (at.count - 1 - at.done) 0) r.next ≡ b
      → chain_broken p.count (eqb (p.count - 1 - done_before p.count p.done) 0) r.next ≡ b
  broken_before h = ap (λ (x : Position). chain_broken x.count (eqb (x.count - 1 - x.done) 0) r.next) (sym is) ∙ h

  pub visited_broken : {q : PieceM} → chain_broken at.count (eqb (at.count - 1 - at.done) 0) r.next ≡ true → q ≡ refusal_piece bad_chain at.index p.machine
      → q ≡ visit_piece r p
  unfolding visit_piece
  visited_broken h e = e ∙ ap (λ (x : Position). refusal_piece bad_chain x.index p.machine) is ∙ chosen _ (broken_before h)

  pub visited_whole : {q : PieceM} {s : calls.Step} → chain_broken at.count (eqb (at.count - 1 - at.done) 0) r.next ≡ false → s ≡ carry_out (call_of r) p.machine
      → q ≡ step_piece s at.index at.count r.next (at.done + 1) → q ≡ visit_piece r p
  unfolding visit_piece
  visited_whole h f e = e ∙ (λ i. step_piece (f i) (is i).index (is i).count r.next ((is i).done + 1)) ∙ unchosen _ (broken_before h)

-- Conflicts listed.

module _ (p : Progress) {n : ℕ} (long : n ≡ length (conflicts_of p.conflicts)) {q : PieceM} where
  -- all are printed
  pub listed_all : n ≤ p.printed → q ≡ piece (conflicts_end n) (follow_of (machine_of p.machine) p.position.count p.position.index p.position.done)
      → q ≡ list_piece (drop p.printed (conflicts_of p.conflicts)) (progress_of p)
  unfolding list_piece
  listed_all h e =
      let none : drop p.printed (conflicts_of p.conflicts) ≡ [] =
      view_done conflict_of p.conflicts.len p.conflicts.items p.printed (omega (arith, long, h)) in
      e ∙ both (ap conflicts_end long) refl ∙ ap (λ (cs : List Conflict). list_piece cs (progress_of p)) (sym none)

  -- one more is printed
  pub listed_one : p.printed < n → (d : TypeConflict) → q ≡ piece (conflict_line (conflict_of (get_or p.conflicts.items p.printed d))) (one_printed (progress_of p))
      → q ≡ list_piece (drop p.printed (conflicts_of p.conflicts)) (progress_of p)
  unfolding list_piece
  listed_one h d e =
      e ∙ ap (λ (cs : List Conflict). list_piece cs (progress_of p))
      (sym (view_next conflict_of p.conflicts.len p.conflicts.items p.printed d (omega (arith, long, h))))

-- A piece, by the stage.
pub at_stage : (r : Record) (p : ProgressM) {s t : Stage} {q : PieceM} → s ≡ t → q ≡ piece_at t r p → q ≡ piece_at s r p
at_stage r p at h = h ∙ ap (λ (s : Stage). piece_at s r p) (sym at)

-- The record of an index in an array as long as the longest sheet; past the last both have no call, and end the chain.

-- a visit reads the next index and the call only
visit_reads : (r s : Record) (p : ProgressM) → r.next ≡ s.next → call_of r ≡ call_of s → visit_piece r p ≡ visit_piece s p
unfolding visit_piece
visit_reads r s p e f i =
    elim (chain_broken p.count (eqb (p.count - 1 - done_before p.count p.done) 0) (e i)) [
      | true ↦ refusal_piece bad_chain p.index p.machine
      | false ↦ step_piece (carry_out (f i) p.machine) p.index p.count (e i) (done_before p.count p.done + 1)
    ]

piece_reads : (t : Stage) (r s : Record) (p : ProgressM) → r.next ≡ s.next → call_of r ≡ call_of s → piece_at t r p ≡ piece_at t s p
unfolding piece_at
piece_reads stages.Refusing r s p e f = refl
piece_reads stages.Visiting r s p e f = visit_reads r s p e f
piece_reads stages.Listing r s p e f = refl
piece_reads stages.Ending r s p e f = refl
piece_reads stages.Ended r s p e f = refl

pub nothing_past : (bytes : List ℕ) (i : ℕ) → length bytes ≤ record_bytes * i → record_at bytes i ≡ record_of []
unfolding record_at words
nothing_past bytes i h = ap (λ (l : List ℕ). record_of (words (take record_bytes l))) (drop_of_length-le bytes {i = record_bytes * i} h)

-- a record of the first n; past them one without words, where there are no more bytes
pub reads_within : (bytes : List ℕ) (p : ProgressM) (n : ℕ) {given : Record} {q : PieceM} → length bytes ≤ record_bytes * n
    → given ≡ elim (ltb p.index n) [ true ↦ record_at bytes p.index | false ↦ blank ] → q ≡ piece_at p.stage given p → q ≡ next_piece bytes p
unfolding record_of call_of call_in form_of forms
reads_within bytes p n {given} {q} long e is = is ∙ go (ltb p.index n) refl where
  go : (t : Bool) → ltb p.index n ≡ t → piece_at p.stage given p ≡ next_piece bytes p
  go true h = ap (λ (r : Record). piece_at p.stage r p) (e ∙ sym (chosen blank h))
  go false h =
      let past : record_at bytes p.index ≡ record_of [] = nothing_past bytes p.index (omega (arith, long, ltb-false p.index n h)) in
      let empty : given ≡ blank = e ∙ sym (unchosen (record_at bytes p.index) h) in
      piece_reads p.stage _ _ p (ap (λ (r : Record). r.next) empty ∙ sym (ap (λ (r : Record). r.next) past)) (ap call_of empty ∙ sym (ap call_of past))

pub reads : (bytes : List ℕ) (p : ProgressM) {given : Record} {q : PieceM} → length bytes ≡ max_sheet → given ≡ record_in bytes p.index
    → q ≡ piece_at p.stage given p → q ≡ next_piece bytes p
unfolding record_in
reads bytes p long e is = reads_within bytes p max_records (omega (arith, long)) e is
