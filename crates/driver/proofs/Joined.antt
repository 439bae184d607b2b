-- To run two lists that are joined at the end of a record is to run one after the other; so a list can be run a record at a time.
use Prim.Native.Nat.{ℕ, zero, suc, ◌+◌, ◌*◌, ◌≤◌, ◌<◌}
use mathlib.Core.Path.{◌≡◌, refl, sym, ap, ◌∙◌}
use mathlib.Core.List.{List, ◌++◌, append_assoc, append-nil}
use native.Mathlib.Omega.{arith}
use lib.ListN.{length, length-append, length-drop, take, drop}
use lib.Seq.{drop-append-le, drop-append-add, take-append-le}
use Rattle.semantics.specs.Calls.{Call, Machine, answers, after_calls}
use Rattle.semantics.specs.Sheet.{record_at, record_of, record_bytes, words, carry_out}
use Rattle.driver.specs.Calls.{list_call_of, whole_records, call_list, calls_before, last_answer, list_before, run_from}
use Rattle.driver.proofs.Laws.{after_append}

module _ (xs ys : List ℕ) where
  -- the records of the first part
  first_record : (i : ℕ) → i < whole_records xs → record_at (xs ++ ys) i ≡ record_at xs i
  unfolding record_at
  first_record i h =
      ap (λ (l : List ℕ). record_of (words (take record_bytes l))) (drop-append-le (record_bytes * i) xs ys (omega arith))
      ∙ ap (λ (l : List ℕ). record_of (words l)) (take-append-le record_bytes (drop (record_bytes * i) xs) ys (omega (arith, length-drop (record_bytes * i) xs)))

  first_calls : (n : ℕ) → n ≤ whole_records xs → calls_before (xs ++ ys) n ≡ calls_before xs n
  unfolding calls_before
  first_calls zero h = refl
  first_calls (suc n) h = λ i. first_calls n (omega arith) i ++ call_list (list_call_of (first_record n (omega arith) i))

  -- the records of the second part, where the first ends with a record
  module _ (n : ℕ) (whole : length xs ≡ record_bytes * n) where
    second_record : (i : ℕ) → record_at (xs ++ ys) (n + i) ≡ record_at ys i
    unfolding record_at
    second_record i =
        let at : record_bytes * (n + i) ≡ length xs + record_bytes * i = omega arith in
        ap (λ (l : List ℕ). record_of (words (take record_bytes l))) (ap (λ (k : ℕ). drop k (xs ++ ys)) at ∙ drop-append-add xs ys (record_bytes * i))

    second_calls : (i k : ℕ) → k ≡ n + i → calls_before (xs ++ ys) k ≡ calls_before xs n ++ calls_before ys i
    unfolding calls_before
    second_calls zero k e =
        let none : k ≡ n = omega arith in
        ap (calls_before (xs ++ ys)) none ∙ first_calls n (omega arith) ∙ sym (append-nil (calls_before xs n))
    second_calls (suc i) k e =
        let more : k ≡ suc (n + i) = omega arith in
        ap (calls_before (xs ++ ys)) more
        ∙ (λ j. second_calls i (n + i) refl j ++ call_list (list_call_of (second_record i j)))
        ∙ append_assoc (calls_before xs n) (calls_before ys i) (call_list (list_call_of (record_at ys i)))

    both_after : (m : Machine) (i k : ℕ) → k ≡ n + i → after_calls (calls_before (xs ++ ys) k) m ≡ after_calls (calls_before ys i) (after_calls (calls_before xs n) m)
    both_after m i k e = ap (λ (ks : List Call). after_calls ks m) (second_calls i k e) ∙ after_append (calls_before xs n) (calls_before ys i) m

    both_before : (m : Machine) (i : ℕ) → list_before m (xs ++ ys) (suc (n + i)) ≡ list_before (list_before m xs n).after ys (suc i)
    unfolding list_before last_answer
    both_before m i = λ j. answers (carry_out (list_call_of (second_record i j)) (both_after m i (n + i) refl j)).answer (both_after m (suc i) (suc (n + i)) (omega arith) j)

    -- a second part of one record or more: what it answers and leaves on what the first leaves
    pub run_joined : (m : Machine) → 0 < whole_records ys → run_from m (xs ++ ys) ≡ run_from (run_from m xs).after ys
    run_joined m some = go (whole_records ys) some refl where
      go : (k : ℕ) → 0 < k → whole_records ys ≡ k → run_from m (xs ++ ys) ≡ run_from (run_from m xs).after ys
      go zero h e = absurd (omega arith)
      go (suc i) h e =
          let first : n ≡ whole_records xs = omega arith in
          let second : suc i ≡ whole_records ys = sym e in
          let all : whole_records (xs ++ ys) ≡ suc (n + i) = omega (arith, length-append xs ys) in
          ap (list_before m (xs ++ ys)) all ∙ both_before m i ∙ (λ j. list_before (list_before m xs (first j)).after ys (second j))
