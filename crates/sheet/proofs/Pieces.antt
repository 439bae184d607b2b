-- A sheet's pieces, from the start to the end, are what the sheet prints, and there are not more than the limit: theorems
-- about the definitions, which the contracts of `start` and `advance` carry over to the code.
use Prim.Native.Nat.{ℕ, zero, suc, ◌+◌, ◌-◌, ◌*◌, ◌/◌, ◌%◌, ◌≤◌, ◌<◌}
use mathlib.Core.Path.{◌≡◌, refl, sym, ap, ◌∙◌}
use mathlib.Core.Bool.{Bool, true, false, not, ◌&&◌, ◌||◌, true≢false}
use mathlib.Core.List.{List, [], ◌∷◌, ◌++◌, append-nil, append_assoc}
use mathlib.Core.Option.{Option, none, some}
use native.Mathlib.Omega.{arith}
use lib.ListN.{length, take, drop}
use lib.Seq.{take_all, drop-drop}
use lib.Dec.{eqb, leb, ltb, eqb-suc-zero}
use borrow.Author.Tests.{eqb-true, eqb-false, leb-false, ltb-false}
use Rattle.ids.specs.Answers.{bad_sheet, bad_chain}
use Rattle.ids.proofs.Tests.{chosen}
use Rattle.semantics.specs.Conflicts.{Conflict, type_conflicts_of}
use Rattle.semantics.specs.Calls as calls
use Rattle.semantics.specs.Calls.{Call, Answer, number, says, done, closed, conflicting, summed, found, typed, els, refuse, Machine, Step}
use Rattle.semantics.specs.Calls.{rule, acceptance, step}
use Rattle.semantics.specs.Sheet.{record_bytes, max_sheet, Record, record_at, call_of, carry_out, Ran, prints, stops, chain_broken, visit}
use Rattle.semantics.specs.Sheet.{carried, print_answer, run_records, bad_length, run_sheet, conflict_line, conflict_lines}
use Rattle.semantics.specs.Sheet.{refused_line, end_line}
use Rattle.semantics.proofs.Judged.{step_by_lem}
use Rattle.validity.proofs.Calls.{ValidMachine, start_valid, step_valid}
use Rattle.records.proofs.Laws.{sheet_record}
use Rattle.conflicts.proofs.Laws.{below_length}
use Rattle.lines.specs.View.{conflicts_end}
use Rattle.lines.proofs.Whole.{conflicts_printed}
use Rattle.sheet.specs.declared.Stage.{Stage}
use Rattle.sheet.specs.declared.Stage.TheVariants as stages
use Rattle.sheet.specs.Pieces.{is_ended, ProgressM, PieceM, standing, piece, start_of, follow_of, answer_piece, done_before, visit_piece}
use Rattle.sheet.specs.Pieces.{one_printed, list_piece, piece_at, next_piece, pieces, visiting, following, rest_at, rest_of, answer_pieces}
use Rattle.sheet.specs.Pieces.{visit_pieces, record_pieces, pieces_visiting, pieces_following, pieces_at, pieces_of, pieces_of_one, max_pieces}
use Rattle.sheet.specs.Pieces.{Holds}

-- A chain that is not broken.
module _ (n : ℕ) (last : Bool) (next : ℕ) (whole : chain_broken n last next ≡ false) where
  pub next_in : next < n
  unfolding chain_broken
  next_in = go (leb n next) refl where
    go : (t : Bool) → leb n next ≡ t → next < n
    go true e = absurd (true≢false (sym (ap (λ (t : Bool). t || (last && not (eqb next 0))) e) ∙ whole))
    go false e = leb-false n next e

  last_zero : last ≡ true → eqb next 0 ≡ true
  unfolding chain_broken
  last_zero l = go (leb n next) (eqb next 0) refl refl where
    go : (t u : Bool) → leb n next ≡ t → eqb next 0 ≡ u → eqb next 0 ≡ true
    go true u e f = absurd (true≢false (sym (ap (λ (t : Bool). t || (last && not (eqb next 0))) e) ∙ whole))
    go false true e f = f
    go false false e f =
        absurd (true≢false (sym (ap (λ (t : Bool). t || (last && not (eqb next 0))) e ∙ ap (λ (t : Bool). t && not (eqb next 0)) l ∙ ap not f) ∙ whole))

-- A choice, where what is chosen by a false test matters only there.
pub choice_same : {R : Type 0} (b : Bool) (x y z : R) → (b ≡ false → y ≡ z) → ◌≡◌ {A = R} (elim b [ true ↦ x | false ↦ y ]) (elim b [ true ↦ x | false ↦ z ])
choice_same true x y z h = refl
choice_same false x y z h = h refl

-- what comes after a visit matters only where the chain is not broken
module _ (n : ℕ) (last : Bool) (r : Record) (m : Machine) where
  pub visit_same : (i : ℕ) (one two : Machine → Ran) → (chain_broken n last r.next ≡ false → (a : Machine) → one a ≡ two a)
      → visit n last r i m one ≡ visit n last r i m two
  unfolding visit carried
  visit_same i one two same =
      choice_same (chain_broken n last r.next) _ _ _ (λ whole. ap (print_answer (carry_out (call_of r) m).answer i (carry_out (call_of r) m).after) (same whole (carry_out (call_of r) m).after))

  count_same : (one two : Machine → ℕ) → (chain_broken n last r.next ≡ false → (a : Machine) → one a ≡ two a)
      → visit_pieces n last r m one ≡ visit_pieces n last r m two
  unfolding visit_pieces
  count_same one two same =
      choice_same (chain_broken n last r.next) _ _ _ (λ whole. ap (answer_pieces (carry_out (call_of r) m).answer) (same whole (carry_out (call_of r) m).after))

-- Records one after the other, as `run_records` runs them and as `record_pieces` counts their pieces: a record is seen, when so many may be visited after it
-- and so many are done, and what comes after it is the end of the chain or the rest of the run.
module _ {R : Type 0} (bytes : List ℕ) (n : ℕ) (ends : ℕ → Machine → R) (seen : ℕ → ℕ → Bool → ℕ → Machine → (Machine → R) → R)
    (run : ℕ → ℕ → ℕ → Machine → R)
    (same : (v k : ℕ) (b : Bool) (i : ℕ) (m : Machine) (one two : Machine → R)
    → (chain_broken n b (record_at bytes i).next ≡ false → (a : Machine) → one a ≡ two a) → seen v k b i m one ≡ seen v k b i m two)
    (final : (i k : ℕ) (m : Machine) → run zero i k m ≡ seen zero k true i m (ends (suc k)))
    (onward : (visits i k : ℕ) (m : Machine) → run (suc visits) i k m
    ≡ seen (suc visits) k false i m (λ a. elim (eqb (record_at bytes i).next 0) [ true ↦ ends (suc k) a | false ↦ run visits (record_at bytes i).next (suc k) a ]))
  where
    abbrev pub after : ℕ → ℕ → Machine → R
    after next k m = elim (eqb next 0) [ true ↦ ends k m | false ↦ run (n - 1 - done_before n k) next (done_before n k) m ]

    run_sees : (visits i k : ℕ) (m : Machine) → n - 1 - k ≡ visits → run visits i k m ≡ seen visits k (eqb visits 0) i m (after (record_at bytes i).next (suc k))
    run_sees zero i k m e =
        final i k m ∙ same zero k true i m (ends (suc k)) (after (record_at bytes i).next (suc k)) (λ whole a. chosen _ (last_zero n true _ whole refl))
    run_sees (suc visits) i k m e =
        let on : done_before n (suc k) ≡ suc k = omega arith in
        let fewer : n - 1 - suc k ≡ visits = omega arith in
        let same-run : (a : Machine) → run visits (record_at bytes i).next (suc k) a
        ≡ run (n - 1 - done_before n (suc k)) (record_at bytes i).next (done_before n (suc k)) a =
        λ a. ap (λ (f : ℕ). run f (record_at bytes i).next (suc k) a) (sym fewer) ∙ ap (λ (d : ℕ). run (n - 1 - d) (record_at bytes i).next d a) (sym on) in
        onward visits i k m
        ∙ same (suc visits) k false i m _ (after (record_at bytes i).next (suc k))
        (λ whole a. ap (λ (r : R). elim (eqb (record_at bytes i).next 0) [ true ↦ ends (suc k) a | false ↦ r ]) (same-run a))
        ∙ ap (λ (b : Bool). seen (suc visits) k b i m (after (record_at bytes i).next (suc k))) (sym (eqb-suc-zero visits))

    pub run_from : (i k : ℕ) (m : Machine) → run (n - 1 - k) i k m ≡ seen (n - 1 - k) k (eqb (n - 1 - k) 0) i m (after (record_at bytes i).next (k + 1))
    run_from i k m =
        let one : suc k ≡ k + 1 = omega arith in
        run_sees (n - 1 - k) i k m refl ∙ ap (λ (d : ℕ). seen (n - 1 - k) k (eqb (n - 1 - k) 0) i m (after (record_at bytes i).next d)) one

module _ (bytes : List ℕ) where
  -- what was to be printed, in so many pieces, is a piece and what comes after it
  record Onward (was : Ran) (count : ℕ) (r : PieceM) : Type 0 where
    pub rest : was ≡ prints r.line (rest_of bytes r.progress)
    pub one : count ≡ suc (pieces_of bytes r.progress)

  stopped : (line : List ℕ) (m : Machine) → Onward (stops line m) 1 (piece line (standing stages.Ended m 0 0 0))
  unfolding rest_at pieces_at
  stopped line m = record { rest = ap (λ (t : List ℕ). stops t m) (sym (append-nil line)); one = refl }

  choice_on : (t : Bool) (a b : Ran) (x y : ℕ) (q r : PieceM) → Onward a x q → Onward b y r
      → Onward (elim t [ true ↦ a | false ↦ b ]) (elim t [ true ↦ x | false ↦ y ]) (elim t [ true ↦ q | false ↦ r ])
  choice_on true a b x y q r h k = h
  choice_on false a b x y q r h k = k

  -- After a record.
  module _ (n next k : ℕ) (m : Machine) where
    follow_rest : following bytes n next k m ≡ rest_of bytes (follow_of m n next k)
    unfolding following follow_of rest_at
    follow_rest = go (eqb next 0) where
      go : (t : Bool) → ◌≡◌ {A = Ran} (elim t [ true ↦ stops (end_line k) m | false ↦ visiting bytes n next k m ])
          (rest_of bytes (elim t [ true ↦ standing stages.Ending m n next k | false ↦ standing stages.Visiting m n next k ]))
      go true = refl
      go false = refl

    follow_pieces : pieces_following bytes n next k m ≡ pieces_of bytes (follow_of m n next k)
    unfolding pieces_following follow_of pieces_at
    follow_pieces = go (eqb next 0) where
      go : (t : Bool) → ◌≡◌ {A = ℕ} (elim t [ true ↦ 1 | false ↦ pieces_visiting bytes n next k m ])
          (pieces_of bytes (elim t [ true ↦ standing stages.Ending m n next k | false ↦ standing stages.Visiting m n next k ]))
      go true = refl
      go false = refl

    -- with a line printed
    line_on : (line : List ℕ) → Onward (prints line (following bytes n next k m)) (suc (pieces_following bytes n next k m)) (piece line (follow_of m n next k))
    line_on line = record { rest = ap (prints line) follow_rest; one = ap suc follow_pieces }

    answer_on : (i : ℕ) (a : Answer)
        → Onward (print_answer a i m (following bytes n next k m)) (answer_pieces a (pieces_following bytes n next k m)) (answer_piece a i m n next k)
    unfolding print_answer answer_pieces answer_piece rest_at pieces_at
    answer_on i (refuse x) = stopped (refused_line x i) m
    answer_on i (number x) = line_on []
    answer_on i (says b) = line_on []
    answer_on i done = line_on []
    answer_on i (closed c) = line_on _
    answer_on i (conflicting cs f) =
        record { rest = ap (λ (t : List ℕ). prints t (following bytes n next k m)) (conflicts_printed cs); one = refl }
    answer_on i (summed t) = line_on _
    answer_on i (found f) = line_on []
    answer_on i (typed t) = line_on []
    answer_on i (els es) = line_on []

  -- The next piece, by the stage.
  module _ (p : ProgressM) where
    visit_on : (r : Record)
        → Onward (visit p.count (eqb (p.count - 1 - done_before p.count p.done) 0) r p.index p.machine (following bytes p.count r.next (done_before p.count p.done + 1)))
        (visit_pieces p.count (eqb (p.count - 1 - done_before p.count p.done) 0) r p.machine (pieces_following bytes p.count r.next (done_before p.count p.done + 1)))
        (visit_piece r p)
    unfolding visit visit_pieces visit_piece carried
    visit_on r =
        let s = carry_out (call_of r) p.machine in
        choice_on (chain_broken p.count (eqb (p.count - 1 - done_before p.count p.done) 0) r.next) _ _ _ _ _ _
        (stopped (refused_line bad_chain p.index) p.machine)
        (answer_on p.count r.next (done_before p.count p.done + 1) s.after p.index s.answer)

    visiting_on : Onward (rest_at stages.Visiting bytes p) (pieces_at stages.Visiting bytes p) (visit_piece (record_at bytes p.index) p)
    unfolding rest_at pieces_at visiting following run_records pieces_visiting pieces_following record_pieces
    visiting_on =
        let n = p.count in
        let on = visit_on (record_at bytes p.index) in
        record {
          rest =
              run_from bytes n (λ k m. stops (end_line k) m) (λ v k b i m rest. visit n b (record_at bytes i) i m rest) (run_records bytes n)
              (λ v k b i m one two. visit_same n b (record_at bytes i) m i one two) (λ i k m. refl) (λ visits i k m. refl) p.index (done_before n p.done) p.machine
              ∙ on.rest;
          one =
              run_from bytes n (λ k m. 1) (λ v k b i m rest. visit_pieces n b (record_at bytes i) m rest) (λ visits i k m. record_pieces bytes n visits i m)
              (λ v k b i m one two. count_same n b (record_at bytes i) m one two) (λ i k m. refl) (λ visits i k m. refl) p.index (done_before n p.done) p.machine
              ∙ on.one;
        }

    -- conflicts that are still to be printed
    listing_on : p.stage ≡ stages.Listing → (cs : List Conflict) → drop p.printed p.conflicts ≡ cs
        → Onward (rest_at stages.Listing bytes p) (pieces_at stages.Listing bytes p) (list_piece cs p)
    unfolding rest_at pieces_at list_piece conflict_lines
    listing_on at [] e =
        let on = line_on p.count p.index p.done p.machine (conflicts_end (length p.conflicts)) in
        record {
          rest =
              ap (λ (ds : List Conflict). prints (conflict_lines ds ++ conflicts_end (length p.conflicts)) (following bytes p.count p.index p.done p.machine)) e
              ∙ on.rest;
          one = let none : length (drop p.printed p.conflicts) ≡ 0 = ap (length {A = Conflict}) e in omega (arith, none, on.one);
        }
    listing_on at (c ∷ cs) e =
        let after = following bytes p.count p.index p.done p.machine in
        let rest_lines = conflict_lines cs ++ conflicts_end (length p.conflicts) in
        let after_one : drop (p.printed + 1) p.conflicts ≡ cs = sym (drop-drop 1 p.printed p.conflicts) ∙ ap (drop {A = Conflict} 1) e in
        let here : (x : Stage) → x ≡ stages.Listing → rest_at x bytes (one_printed p) ≡ prints rest_lines after =
        λ x h. ap (λ (s : Stage). rest_at s bytes (one_printed p)) h
        ∙ ap (λ (ds : List Conflict). prints (conflict_lines ds ++ conflicts_end (length p.conflicts)) after) after_one in
        record {
          rest =
              ap (λ (ds : List Conflict). prints (conflict_lines ds ++ conflicts_end (length p.conflicts)) after) e
              ∙ ap (λ (t : List ℕ). stops t after.machine)
              (ap (λ (t : List ℕ). t ++ after.printed) (append_assoc (conflict_line c) (conflict_lines cs) (conflicts_end (length p.conflicts)))
              ∙ append_assoc (conflict_line c) rest_lines after.printed)
              ∙ ap (prints (conflict_line c)) (sym (here p.stage at));
          one =
              let now : length (drop p.printed p.conflicts) ≡ suc (length cs) = ap (length {A = Conflict}) e in
              let then : length (drop (p.printed + 1) p.conflicts) ≡ length cs = ap (length {A = Conflict}) after_one in
              let same : pieces_of bytes (one_printed p) ≡ pieces_at stages.Listing bytes (one_printed p) = ap (λ (s : Stage). pieces_at s bytes (one_printed p)) at in
              omega (arith, now, then, same);
        }

    -- by the stage: what was to come is the next piece and what comes after it, in one piece less; none are to come only at the end
    record Next (s : Stage) : Type 0 where
      pub rest : rest_at s bytes p ≡ prints (piece_at s (record_at bytes p.index) p).line (rest_of bytes (piece_at s (record_at bytes p.index) p).progress)
      pub less : pieces_of bytes (piece_at s (record_at bytes p.index) p).progress ≡ pieces_at s bytes p - 1
      pub none : pieces_at s bytes p ≡ 0 → s ≡ stages.Ended

    goes_on : (s : Stage) → Onward (rest_at s bytes p) (pieces_at s bytes p) (piece_at s (record_at bytes p.index) p) → Next s
    goes_on s on = record { rest = on.rest; less = omega (arith, on.one); none = λ h. absurd (omega (arith, h, on.one)) }

    next : (s : Stage) → p.stage ≡ s → Next s
    unfolding piece_at rest_at pieces_at
    next stages.Refusing at = goes_on stages.Refusing (stopped (refused_line bad_sheet 0) p.machine)
    next stages.Visiting at = goes_on stages.Visiting visiting_on
    next stages.Listing at = goes_on stages.Listing (listing_on at (drop p.printed p.conflicts) refl)
    next stages.Ending at = goes_on stages.Ending (stopped (end_line p.done) p.machine)
    next stages.Ended at =
        record {
          rest = ap (λ (s : Stage). rest_at s bytes p) (sym at);
          less = ap (λ (s : Stage). pieces_at s bytes p) at;
          none = λ h. refl;
        }

    pub rest_next : rest_of bytes p ≡ prints (next_piece bytes p).line (rest_of bytes (next_piece bytes p).progress)
    rest_next = (next p.stage refl).rest

    pub pieces_next : pieces_of bytes (next_piece bytes p).progress ≡ pieces_of bytes p - 1
    pieces_next = (next p.stage refl).less

    none_to_come : pieces_of bytes p ≡ 0 → p.stage ≡ stages.Ended
    none_to_come = (next p.stage refl).none

    -- pieces are to come exactly before the end
    pub some_to_come : is_ended p.stage ≡ false → 0 < pieces_of bytes p
    unfolding is_ended
    some_to_come h =
        let some : pieces_of bytes p ≡ 0 → ⊥ = λ none. true≢false (sym (ap is_ended (none_to_come none)) ∙ h) in
        omega (arith, some)

    pub ended_none : is_ended p.stage ≡ true → pieces_of bytes p ≡ 0
    unfolding is_ended pieces_at
    ended_none = at p.stage where
      at : (s : Stage) → is_ended s ≡ true → pieces_at s bytes p ≡ 0
      at stages.Refusing h = absurd (true≢false (sym h))
      at stages.Visiting h = absurd (true≢false (sym h))
      at stages.Listing h = absurd (true≢false (sym h))
      at stages.Ending h = absurd (true≢false (sym h))
      at stages.Ended h = refl

  -- the next piece leaves fewer
  pub fewer : (p : ProgressM) {r : PieceM} → r ≡ next_piece bytes p → is_ended p.stage ≡ false → pieces_of bytes r.progress < pieces_of bytes p
  fewer p {r} e on =
      let less : pieces_of bytes r.progress ≡ pieces_of bytes p - 1 = ap (λ (x : PieceM). pieces_of bytes x.progress) e ∙ pieces_next p in
      omega (arith, less, some_to_come p on)

  -- Pieces one after the other.

  pub pieces_rest : (k : ℕ) (p : ProgressM) → rest_of bytes p ≡ prints (pieces bytes k p).line (rest_of bytes (pieces bytes k p).progress)
  unfolding pieces
  pieces_rest zero p = refl
  pieces_rest (suc k) p =
      let q = next_piece bytes p in
      let last = pieces bytes k q.progress in
      rest_next p
      ∙ ap (prints q.line) (pieces_rest k q.progress)
      ∙ ap (λ (t : List ℕ). stops t (rest_of bytes last.progress).machine) (sym (append_assoc q.line last.line (rest_of bytes last.progress).printed))

  pieces_fewer : (k : ℕ) (p : ProgressM) → pieces_of bytes (pieces bytes k p).progress ≡ pieces_of bytes p - k
  unfolding pieces
  pieces_fewer zero p = omega arith
  pieces_fewer (suc k) p = omega (arith, pieces_next p, pieces_fewer k (next_piece bytes p).progress)

-- The start.

-- a length that is not refused
pub good_length : (l : ℕ) → bad_length l ≡ false → (0 < l / record_bytes) × ((l ≤ max_sheet) × (l % record_bytes ≡ 0))
unfolding bad_length
good_length l h = go (eqb l 0) (eqb (l % record_bytes) 0) (ltb (max_sheet) l) refl refl refl where
  go : (a b c : Bool) → eqb l 0 ≡ a → eqb (l % record_bytes) 0 ≡ b → ltb (max_sheet) l ≡ c → (0 < l / record_bytes) × ((l ≤ max_sheet) × (l % record_bytes ≡ 0))
  go true b c e f k = absurd (true≢false (sym (ap (λ (t : Bool). t || (not (eqb (l % record_bytes) 0) || ltb (max_sheet) l)) e) ∙ h))
  go false false c e f k =
      absurd (true≢false (sym (ap (λ (t : Bool). t || (not (eqb (l % record_bytes) 0) || ltb (max_sheet) l)) e ∙ ap (λ (t : Bool). not t || ltb (max_sheet) l) f) ∙ h))
  go false true true e f k =
      absurd (true≢false (sym (ap (λ (t : Bool). t || (not (eqb (l % record_bytes) 0) || ltb (max_sheet) l)) e
      ∙ ap (λ (t : Bool). not t || ltb (max_sheet) l) f ∙ k) ∙ h))
  go false true false e f k =
      let some : l ≡ 0 → ⊥ = eqb-false l 0 e in
      let even : l % record_bytes ≡ 0 = eqb-true (l % record_bytes) 0 f in
      (omega (arith, some, even), (ltb-false (max_sheet) l k, even))

-- a sheet's records are those of the array that it is the first part of
module _ (bytes : List ℕ) (n : ℕ) where
  pub records_same : (visits i k : ℕ) (m : Machine) → i < n / record_bytes
      → run_records bytes (n / record_bytes) visits i k m ≡ run_records (take n bytes) (n / record_bytes) visits i k m
  unfolding run_records
  records_same zero i k m h =
      ap (λ (r : Record). visit (n / record_bytes) true r i m (λ (after : Machine). stops (end_line (suc k)) after)) (sym (sheet_record bytes n i h))
  records_same (suc visits) i k m h =
      visit_same (n / record_bytes) false (record_at bytes i) m i _ _
      (λ whole a. ap (λ (r : Ran). elim (eqb (record_at bytes i).next 0) [ true ↦ stops (end_line (suc k)) a | false ↦ r ])
      (records_same visits (record_at bytes i).next (suc k) a (next_in (n / record_bytes) false (record_at bytes i).next whole)))
      ∙ ap
      (λ (r : Record). visit (n / record_bytes) false r i m (λ (after : Machine).
      elim (eqb r.next 0) [ true ↦ stops (end_line (suc k)) after | false ↦ run_records (take n bytes) (n / record_bytes) visits r.next (suc k) after ]))
      (sym (sheet_record bytes n i h))

-- what is to be printed at the start is what the sheet prints
pub start_rest : (sheet bytes : List ℕ) → Holds bytes sheet → rest_of bytes (start_of (length sheet)) ≡ run_sheet sheet
unfolding start_of run_sheet rest_at visiting
start_rest sheet bytes holds = go (bad_length (length sheet)) refl where
  n : ℕ
  n = length sheet / record_bytes

  go : (t : Bool) → bad_length (length sheet) ≡ t
      → ◌≡◌ {A = Ran} (rest_of bytes (elim t [ true ↦ standing stages.Refusing calls.start 0 0 0 | false ↦ standing stages.Visiting calls.start n 0 0 ]))
      (elim t [ true ↦ stops (refused_line bad_sheet 0) calls.start | false ↦ run_records sheet n (n - 1) 0 0 calls.start ])
  go true h = refl
  go false h =
      let good = good_length (length sheet) h in
      let zeroth : done_before n 0 ≡ 0 = omega arith in
      let all : n - 1 - 0 ≡ n - 1 = omega arith in
      let whole : take (length sheet) bytes ≡ sheet = sym holds ∙ take_all (max_sheet) sheet good.1.0 in
      ap (λ (d : ℕ). run_records bytes n (n - 1 - d) 0 d calls.start) zeroth
      ∙ ap (λ (f : ℕ). run_records bytes n f 0 0 calls.start) all
      ∙ records_same bytes (length sheet) (n - 1) 0 0 calls.start good.0
      ∙ ap (λ (xs : List ℕ). run_records xs n (n - 1) 0 0 calls.start) whole

-- At most so many pieces: a valid machine has at most as many conflicts as elements.

module _ (k : ℕ) where
  -- an answer that lists no conflicts
  one : suc k ≤ pieces_of_one + k
  one = omega arith

  effect_pieces : (c : Call) (m : Machine) → ValidMachine m → answer_pieces (rule c m).answer k ≤ pieces_of_one + k
  unfolding rule calls.equality_rule calls.imposition_rule calls.application_rule calls.close_rule calls.settle_rule answer_pieces
  effect_pieces (calls.push_type t) m v = one
  effect_pieces (calls.push_pred p) m v = one
  effect_pieces (calls.push_func f) m v = one
  effect_pieces (calls.push_model x) m v = one
  effect_pieces (calls.push_mor_app x) m v = one
  effect_pieces (calls.push_el mark) m v = one
  effect_pieces (calls.equate_els a b) m v = one
  effect_pieces (calls.impose_type f) m v = one
  effect_pieces (calls.apply_func x) m v = one
  effect_pieces (calls.apply_pred x) m v = one
  effect_pieces (calls.bind_var x) m v = one
  effect_pieces (calls.bind_ambient a) m v = one
  effect_pieces calls.close m v = one
  effect_pieces calls.type_conflicts m v =
      let most : length (type_conflicts_of m.structure) ≤ length m.structure.links = unfold type_conflicts_of in below_length m.structure (length m.structure.links) in
      omega (arith, most, v.structure.els_most)
  effect_pieces calls.settle m v = one
  effect_pieces (calls.root e) m v = one
  effect_pieces (calls.root_const e) m v = one
  effect_pieces (calls.lookup_type t ps) m v = one
  effect_pieces (calls.ambient_parents ts) m v = one

  step_pieces : (c : Call) (m : Machine) → ValidMachine m → answer_pieces (step c m).answer k ≤ pieces_of_one + k
  unfolding answer_pieces acceptance
  step_pieces c m v =
      step_by_lem c m (λ (s : Step). answer_pieces s.answer k ≤ pieces_of_one + k) (λ n q. omega arith) (λ clear. effect_pieces c m v)

  carry_pieces : (c : Option Call) (m : Machine) → ValidMachine m → answer_pieces (carry_out c m).answer k ≤ pieces_of_one + k
  unfolding carry_out answer_pieces
  carry_pieces none m v = omega arith
  carry_pieces (some c) m v = step_pieces c m v

carry_valid : (c : Option Call) (m : Machine) → ValidMachine m → ValidMachine (carry_out c m).after
unfolding carry_out
carry_valid none m v = v
carry_valid (some c) m v = step_valid c m v

-- a record's pieces, and at most as many after it as after any valid machine
visit_most : (n : ℕ) (last : Bool) (r : Record) (m : Machine) (after : Machine → ℕ) (most : ℕ) → ValidMachine m → ((a : Machine) → ValidMachine a → after a ≤ most)
    → visit_pieces n last r m after ≤ pieces_of_one + most
unfolding visit_pieces
visit_most n last r m after most v h =
    let a = (carry_out (call_of r) m).after in
    choice_most (chain_broken n last r.next) _ (omega (arith, carry_pieces (after a) (call_of r) m v, h a (carry_valid (call_of r) m v)))
  where
    choice_most : (t : Bool) (x : ℕ) → x ≤ pieces_of_one + most → elim t [ true ↦ 1 | false ↦ x ] ≤ pieces_of_one + most
    choice_most true x e = omega arith
    choice_most false x e = e

records_most : (bytes : List ℕ) (n visits i : ℕ) (m : Machine) → ValidMachine m → record_pieces bytes n visits i m ≤ pieces_of_one * suc visits + 1
unfolding record_pieces
records_most bytes n zero i m v = omega (arith, visit_most n true (record_at bytes i) m (λ a. 1) 1 v (λ a w. omega arith))
records_most bytes n (suc visits) i m v =
    omega (
      arith,
      visit_most n false (record_at bytes i) m _ (pieces_of_one * suc visits + 1) v (λ a w. choice_most (eqb (record_at bytes i).next 0) _ (records_most bytes n visits (record_at bytes i).next a w)),
    )
  where
    choice_most : (t : Bool) (x : ℕ) → x ≤ pieces_of_one * suc visits + 1 → elim t [ true ↦ 1 | false ↦ x ] ≤ pieces_of_one * suc visits + 1
    choice_most true x e = omega arith
    choice_most false x e = e

pub pieces_most : (bytes : List ℕ) (l : ℕ) → pieces_of bytes (start_of l) ≤ max_pieces
unfolding start_of pieces_at pieces_visiting
pieces_most bytes l = go (bad_length l) refl where
  go : (t : Bool) → bad_length l ≡ t
      → pieces_of bytes (elim t [ true ↦ standing stages.Refusing calls.start 0 0 0 | false ↦ standing stages.Visiting calls.start (l / record_bytes) 0 0 ]) ≤ max_pieces
  go true h = omega arith
  go false h =
      let n = l / record_bytes in
      omega (arith, (good_length l h).0, (good_length l h).1.0, records_most bytes n (n - 1 - done_before n 0) 0 calls.start start_valid)

-- A sheet, an array that holds it, and so many pieces from its start.
module _ (sheet bytes : List ℕ) (holds : Holds bytes sheet) (k : ℕ) where
  abbrev last : PieceM
  last = pieces bytes k (start_of (length sheet))

  -- from the first to the last they are what the sheet prints, and the machine at the end is what its records made
  pub pieces_print : last.progress.stage ≡ stages.Ended → run_sheet sheet ≡ stops last.line last.progress.machine
  unfolding rest_at
  pieces_print h =
      sym (start_rest sheet bytes holds)
      ∙ pieces_rest bytes k (start_of (length sheet))
      ∙ ap (λ (s : Stage). prints last.line (rest_at s bytes last.progress)) h
      ∙ ap (λ (t : List ℕ). stops t last.progress.machine) (append-nil last.line)

  -- and after as many as the limit it has ended
  pub pieces_end : max_pieces ≤ k → last.progress.stage ≡ stages.Ended
  pieces_end h =
      none_to_come bytes last.progress (omega (arith, h, pieces_fewer bytes k (start_of (length sheet)), pieces_most bytes (length sheet)))
