-- What is to be printed of the bytes that were read is what the sheet prints that the input has.
use Prim.Native.Nat.{ℕ, ◌/◌, ◌<◌}
use mathlib.Core.Path.{◌≡◌, refl, sym, ap, subst, ◌∙◌}
use mathlib.Core.Bool.{Bool, true, false, true≢false}
use mathlib.Core.List.{List, ◌++◌, append-nil}
use native.Mathlib.Omega.{arith}
use lib.ListN.{length, take, length-take}
use lib.Seq.{take_all}
use Rattle.std.specs.Prelude.{Option, Some, None, IfSome, unwrap_or, Result, Ok, Err, is_ok, MatchResult, OnOk, OnErr}
use Rattle.semantics.specs.Sheet.{record_bytes, max_sheet, Ran, bad_length, run_sheet}
use Rattle.semantics.specs.Calls.{start}
use Rattle.sheet.specs.declared.Stage.TheVariants as stages
use Rattle.sheet.specs.Pieces.{ProgressM, standing, start_of, rest_of, Holds}
use Rattle.sheet.proofs.Pieces.{start_rest, good_length}
use Rattle.reading.specs.Reading.{IsInput}

-- a sheet that is too long begins as any such sheet
too_long : (l : ℕ) → max_sheet < l → bad_length l ≡ true
too_long l more = go (bad_length l) refl where
  go : (b : Bool) → bad_length l ≡ b → bad_length l ≡ true
  go true h = h
  go false h = absurd (omega (arith, (good_length l h).1.0, more))

begins_same : (k l : ℕ) → bad_length k ≡ true → bad_length l ≡ true → start_of k ≡ start_of l
unfolding start_of
begins_same k l g h = ap (begins k) g ∙ sym (ap (begins l) h) where
  begins : ℕ → Bool → ProgressM
  begins n b = elim b [ true ↦ standing stages.Refusing start 0 0 0 | false ↦ standing stages.Visiting start (n / record_bytes) 0 0 ]

-- the whole sheet is in the bytes
pub whole : (known new : Option (List ℕ)) (bytes : List ℕ) (n : ℕ) → length bytes ≡ max_sheet → IsInput known new bytes (Ok (Some n))
    → IfSome known (λ (sheet : List ℕ). rest_of bytes (start_of n) ≡ run_sheet sheet)
whole None new bytes n room h = tt
whole (Some xs) None bytes n room h = absurd h.1
whole (Some xs) (Some ys) bytes n room h =
    let is : xs ≡ take n bytes = h.1 ∙ ap (λ (l : List ℕ). take n bytes ++ l) h.2 ∙ append-nil (take n bytes) in
    let size : length xs ≡ n = omega (arith, ap length is, length-take n bytes, h.0) in
    let holds : Holds bytes xs = take_all max_sheet xs (omega (arith, size, h.0, room)) ∙ is ∙ ap (λ (k : ℕ). take k bytes) (sym size) in
    ap (λ (k : ℕ). rest_of bytes (start_of k)) (sym size) ∙ start_rest xs bytes holds

-- the sheet is longer than the longest
pub longer : (known new : Option (List ℕ)) (bytes : List ℕ) (n : ℕ) → length bytes ≡ max_sheet → max_sheet < n → IsInput known new bytes (Ok None)
    → IfSome known (λ (sheet : List ℕ). rest_of bytes (start_of n) ≡ run_sheet sheet)
longer None new bytes n room over h = tt
longer (Some xs) new bytes n room over h =
    let more : max_sheet < length xs = omega (arith, h.1, room) in
    let holds : Holds bytes xs =
    ap (λ (k : ℕ). take k xs) (sym room) ∙ h.0 ∙ sym (take_all (length xs) bytes (omega (arith, more, room)))
    in
    ap (rest_of bytes) (begins_same n (length xs) (too_long n over) (too_long (length xs) more)) ∙ start_rest xs bytes holds

-- what is to be printed from the start of the sheet that was read, by its length
pub sheet_read : (known new : Option (List ℕ)) (bytes : List ℕ) (read : Option ℕ) (n : ℕ) (p : ProgressM) → length bytes ≡ max_sheet → IsInput known new bytes (Ok read)
    → n ≡ unwrap_or read 32769 → p ≡ start_of n → IfSome known (λ (sheet : List ℕ). rest_of bytes p ≡ run_sheet sheet)
sheet_read known new bytes read n p room h size begins =
    subst (λ (q : ProgressM). IfSome known (λ (sheet : List ℕ). rest_of bytes q ≡ run_sheet sheet)) (sym (begins ∙ ap start_of size)) (by_read read h)
  where
    by_read : (r : Option ℕ) → IsInput known new bytes (Ok r) → IfSome known (λ (sheet : List ℕ). rest_of bytes (start_of (unwrap_or r 32769)) ≡ run_sheet sheet)
    by_read (Some m) h = whole known new bytes m room h
    by_read None h = longer known new bytes 32769 room (omega arith) h

-- what holds of what is to be printed holds of what the sheet prints
pub told : (F : List ℕ → Type 0) (known : Option (List ℕ)) (ran : Ran) → IfSome known (λ (sheet : List ℕ). ran ≡ run_sheet sheet) → F ran.printed
    → IfSome known (λ (sheet : List ℕ). F (run_sheet sheet).printed)
told F None ran e h = tt
told F (Some xs) ran e h = subst (λ (r : Ran). F r.printed) e h

-- what was read, where its error was given another type
pub was_read : {E D : Type 0} (F : E → Type 0) (P : Result (Option ℕ) E → Type 0) (r : Result (Option ℕ) E) (s : Result (Option ℕ) D) (read : Option ℕ)
    → MatchResult r (λ y. s ≡ Ok y) F → is_ok s ≡ is_ok r → s ≡ Ok read → P r → P (Ok read)
was_read {D = D} F P (Ok y) s read same variant was h = subst (λ (x : Option ℕ). P (Ok x)) (ap value (sym same ∙ was)) h where
  value : Result (Option ℕ) D → Option ℕ
  value (Ok x) = x
  value (Err e) = None
was_read F P (Err e) s read same variant was h = absurd (true≢false (sym (ap is_ok was) ∙ variant))

-- what holds on success, or on an error, where the error is given another type
pub on_ok : {T E D P Q : Type 0} (r : Result T E) (s : Result T D) → is_ok s ≡ is_ok r → (P → Q) → OnOk r P → OnOk s Q
on_ok (Ok x) (Ok y) same f h = f h
on_ok (Err e) (Ok y) same f h = absurd (true≢false same)
on_ok r (Err d) same f h = tt

pub on_err : {T E D P Q : Type 0} (r : Result T E) (s : Result T D) → is_ok s ≡ is_ok r → (P → Q) → OnErr r P → OnErr s Q
on_err r (Ok y) same f h = tt
on_err (Ok x) (Err d) same f h = absurd (true≢false (sym same))
on_err (Err e) (Err d) same f h = f h
