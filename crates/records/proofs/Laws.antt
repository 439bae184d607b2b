-- Laws of words and records as they stand in an array of bytes, and of what the words of a kind may hold.
use mathlib.Core.Path.{◌≡◌, refl, sym, ap, ◌∙◌}
use mathlib.Core.Bool.{Bool, true, false, ◌&&◌}
use mathlib.Core.List.{List, [], ◌∷◌}
use mathlib.Core.Option.{Option, none, some}
use Prim.Native.Nat.{ℕ, zero, suc, ◌+◌, ◌-◌, ◌*◌, ◌/◌, ◌≤◌, ◌<◌}
use native.Mathlib.Nat.{zero-sub, add-zero}
use native.Mathlib.Numerals.{add-one}
use native.Mathlib.Omega.{arith}
use lib.ListN.{length, take, drop, get_or, length-drop, drop_of_length-le, get_or-eq_default}
use lib.Seq.{drop-cons, drop-drop, take-take, take-nil}
use lib.Dec.{eqb, leb, ltb, leb-zero, leb-suc-zero, eqb-suc-zero}
use borrow.Author.Tests.{lt-ltb, le-ltb, le-leb, eq-eqb, ne_eqb, leb-true, leb-false, eqb-true, eqb-false}
use Rattle.semantics.specs.Calls.{Call}
use Rattle.semantics.specs.Sheet as sheet
use Rattle.semantics.specs.Sheet.{words, record_of, record_at, max_records, record_bytes, all_zero, zero_only, unused, listed, exactly, count_fits}
use Rattle.semantics.specs.Sheet.{list_fits, Form, fits, forms, form_of}
use Rattle.semantics.specs.Sheet.{type_form, pred_form, func_form, model_form, mor_app_form, el_form, equality_form, imposition_form, func_app_form}
use Rattle.semantics.specs.Sheet.{pred_app_form, var_form, ambient_form, close_form, conflicts_form, settle_form}
use Rattle.records.specs.View.{blank, record_in, record_within, list_within, within, fits_form}

-- Words.

-- the first word of some bytes
abbrev pub first : List ℕ → ℕ
first xs = get_or (words xs) 0 0

pub word_here : (xs : List ℕ) (at : ℕ) → at + 1 < length xs → first (drop at xs) ≡ get_or xs at 0 + 256 * get_or xs (at + 1) 0
unfolding words
word_here xs at h =
    let one : at < length xs = omega arith in
    let two : suc at < length xs = omega arith in
    rw (add-one, drop-cons xs at 0 one, drop-cons xs (suc at) 0 two)

-- less than two bytes make no word
short : (xs : List ℕ) → length xs ≤ 1 → first xs ≡ 0
unfolding words
short [] h = refl
short (x ∷ []) h = refl
short (x ∷ y ∷ xs) h = absurd (omega arith)

pub word_past : (xs : List ℕ) (at : ℕ) → length xs ≤ at + 1 → first (drop at xs) ≡ 0
word_past xs at h = short (drop at xs) (omega (arith, length-drop at xs))

-- n words, whose bytes begin k past a place
unfoldable pub words_at : List ℕ → ℕ → ℕ → ℕ → List ℕ
words_at xs at k zero = []
words_at xs at k (suc n) = first (drop (at + k) xs) ∷ words_at xs at (k + 2) n

words_more : (xs : List ℕ) (m : ℕ) → 2 ≤ length xs → words (take (suc (suc m)) xs) ≡ first xs ∷ words (take m (drop 2 xs))
unfolding words
words_more [] m h = absurd (omega arith)
words_more (x ∷ []) m h = absurd (omega arith)
words_more (x ∷ y ∷ xs) m h = refl

words_at_lem : (xs : List ℕ) (at k n : ℕ) → at + k + 2 * n ≤ length xs → words (take (2 * n) (drop (at + k) xs)) ≡ words_at xs at k n
unfolding words words_at
words_at_lem xs at k zero h = refl
words_at_lem xs at k (suc n) h =
    let twice : 2 * suc n ≡ suc (suc (2 * n)) = omega arith in
    let on : at + k + 2 ≡ at + (k + 2) = omega arith in
    rw twice (words_more (drop (at + k) xs) (2 * n) (omega (arith, length-drop (at + k) xs))
    ∙ ap (λ (l : List ℕ). first (drop (at + k) xs) ∷ words (take (2 * n) l)) (drop-drop 2 (at + k) xs ∙ ap (λ (i : ℕ). drop i xs) on)
    ∙ ap (λ (l : List ℕ). first (drop (at + k) xs) ∷ l) (words_at_lem xs at (k + 2) n (omega arith)))

-- Records.

-- the record whose bytes begin at a place
abbrev pub record_from : List ℕ → ℕ → sheet.Record
record_from xs at = record {
  next = first (drop at xs);
  kind = first (drop (at + 2) xs);
  a = first (drop (at + 4) xs);
  b = first (drop (at + 6) xs);
  parent_count = first (drop (at + 8) xs);
  arg_count = first (drop (at + 10) xs);
  parents = first (drop (at + 12) xs) ∷ first (drop (at + 14) xs) ∷ first (drop (at + 16) xs) ∷ first (drop (at + 18) xs) ∷ [];
  args = first (drop (at + 20) xs) ∷ first (drop (at + 22) xs) ∷ first (drop (at + 24) xs) ∷ first (drop (at + 26) xs) ∷ [];
  rest = first (drop (at + 28) xs) ∷ first (drop (at + 30) xs) ∷ [];
}

record_of_words : (xs : List ℕ) (at : ℕ) → record_from xs at ≡ record_of (words_at xs at 0 16)
unfolding record_of words_at
record_of_words xs at = rw (add-zero at)

module _ (xs : List ℕ) (i : ℕ) where
  pub record_in_lem : i < max_records → record_in xs i ≡ record_at xs i
  unfolding record_in
  record_in_lem h = rw (lt-ltb i max_records h, record_in)

  pub record_within_lem : i < length xs / record_bytes → record_within xs i ≡ record_at xs i
  unfolding record_within
  record_within_lem h = rw (lt-ltb i (length xs / record_bytes) h, record_within)

  pub none_within_past : length xs / record_bytes ≤ i → blank ≡ record_within xs i
  unfolding record_within
  none_within_past h = rw (le-ltb i (length xs / record_bytes) h, record_within)

  pub record_read : {r : sheet.Record} → i < length xs / record_bytes → r ≡ record_from xs (i * record_bytes) → r ≡ record_within xs i
  unfolding record_at
  record_read h e =
      let here : i * record_bytes + 0 ≡ record_bytes * i = omega arith in
      e
      ∙ record_of_words xs (i * record_bytes)
      ∙ ap record_of (sym (words_at_lem xs (i * record_bytes) 0 16 (omega arith)) ∙ ap (λ (at : ℕ). words (take record_bytes (drop at xs))) here)
      ∙ sym (record_within_lem h)

  -- in an array as long as the longest sheet
  pub in_sheet : length xs ≡ record_bytes * max_records → record_within xs i ≡ record_in xs i
  unfolding record_in record_within
  in_sheet long =
      let many : length xs / record_bytes ≡ max_records = omega arith in
      ap (λ (n : ℕ). elim (ltb i n) [ true ↦ record_at xs i | false ↦ blank ]) many

drop_take : (m n : ℕ) (xs : List ℕ) → drop m (take n xs) ≡ take (n - m) (drop m xs)
drop_take zero n xs = let same : n ≡ n - 0 = omega arith in ap (λ (k : ℕ). take k xs) same
drop_take (suc m) zero xs = rw zero-sub
drop_take (suc m) (suc n) [] = sym (take-nil (suc n - suc m))
drop_take (suc m) (suc n) (x ∷ xs) =
    let same : n - m ≡ suc n - suc m = omega arith in
    drop_take m n xs ∙ ap (λ (k : ℕ). take k (drop m xs)) same

-- a sheet is the first n bytes of the array: its records are those of the array
module _ (xs : List ℕ) (n i : ℕ) (h : i < n / record_bytes) where
  room : record_bytes * i + record_bytes ≤ n
  room = omega arith

  pub sheet_record : record_at (take n xs) i ≡ record_at xs i
  unfolding record_at
  sheet_record =
      ap (λ (l : List ℕ). record_of (words l))
      (ap (take record_bytes) (drop_take (record_bytes * i) n xs)
      ∙ take-take record_bytes (n - record_bytes * i) (drop (record_bytes * i) xs) (omega (arith, room)))

-- Slots from an index on.

module _ {R : Bool} (xs : List ℕ) (i : ℕ) (so_far : all_zero (drop i xs) ≡ R) where
  pub clear_on : i < length xs → get_or xs i 0 ≡ 0 → all_zero (drop (i + 1) xs) ≡ R
  unfolding all_zero
  clear_on h e = rw add-one (rw (drop-cons xs i 0 h, all_zero, eq-eqb _ _ e) at so_far)

  pub clear_off : i < length xs → (get_or xs i 0 ≡ 0 → ⊥) → false ≡ R
  unfolding all_zero
  clear_off h e = rw (drop-cons xs i 0 h, all_zero, ne_eqb _ _ e) at so_far

  pub clear_end : length xs ≤ i → true ≡ R
  unfolding all_zero
  clear_end h = rw (drop_of_length-le xs {i = i} h) at so_far

-- Two words that are zero.

pub pair_tests : (a b : Bool) → (a && b) ≡ (a && (b && true))
pair_tests true true = refl
pair_tests true false = refl
pair_tests false b = refl

pub pair_clear : (xs : List ℕ) → length xs ≡ 2 → (eqb (get_or xs 0 0) 0 && (eqb (get_or xs 1 0) 0 && true)) ≡ all_zero xs
unfolding all_zero
pair_clear [] h = absurd (omega arith)
pair_clear (x ∷ []) h = absurd (omega arith)
pair_clear (x ∷ y ∷ []) h = refl
pair_clear (x ∷ y ∷ z ∷ xs) h = absurd (omega arith)

-- What the words of a kind may hold.

-- counts

pub just_within : (m n : ℕ) → (leb m n && leb n m) ≡ count_fits (exactly m) n
unfolding count_fits
just_within m n = go (leb m n) (leb n m) refl refl where
  go : (s t : Bool) → leb m n ≡ s → leb n m ≡ t → (leb m n && leb n m) ≡ eqb n m
  go true true p q = rw (p, q) (sym (eq-eqb n m (omega (arith, leb-true m n p, leb-true n m q))))
  go true false p q = rw (p, q) (sym (ne_eqb n m (λ (e : n ≡ m). omega (arith, leb-false n m q, e))))
  go false t p q = rw p (sym (ne_eqb n m (λ (e : n ≡ m). omega (arith, leb-false m n p, e))))

pub none_within : (n : ℕ) → (leb 0 n && leb n 0) ≡ count_fits unused n
unfolding count_fits
none_within n = just_within 0 n

pub four_within : (n : ℕ) → (leb 0 n && leb n 4) ≡ count_fits listed n
unfolding count_fits
four_within n = rw (leb-zero n)

pub zero_within : (n : ℕ) → leb n 0 ≡ eqb n 0
zero_within zero = refl
zero_within (suc n) = leb-suc-zero n ∙ sym (eqb-suc-zero n)

-- the largest number of a word
abbrev pub most_word : ℕ
most_word = 65535

pub any_within : {n : ℕ} → n ≤ most_word → leb n most_word ≡ true
any_within h = le-leb _ _ h

-- forms

-- a number that is not the least it can be
pub past : (m k : ℕ) → m ≤ k → (k ≡ m → ⊥) → suc m ≤ k
past m k h e = omega arith

-- kinds that have none
module _ (r : sheet.Record) where
  pub none_before : r.kind < 1 → false ≡ fits_form (form_of r.kind) r
  unfolding fits_form form_of forms
  none_before h = let zeroth : 0 ≡ r.kind = omega arith in ap (λ (k : ℕ). fits_form (form_of k) r) zeroth

  pub none_past : 16 ≤ r.kind → false ≡ fits_form (form_of r.kind) r
  unfolding fits_form form_of forms
  none_past h = ap (λ (o : Option Form). fits_form o r) (sym (get_or-eq_default forms none {n = r.kind} h))

-- the form of a kind that takes nothing
abbrev bare : (sheet.Record → Call) → Form
bare call = record { a = zero_only; b = λ a. zero_only; parents = unused; args = unused; call = call }

-- what a test of bounds tells of a record's form
abbrev Tells : Bool → sheet.Record → ℕ → ℕ → ℕ → ℕ → ℕ → Type 0
Tells t r a b parents least most = t ≡ within a b parents least most r → t ≡ fits_form (form_of r.kind) r

module _ {t : Bool} (r : sheet.Record) where
  -- a record of the kind k, whose form is f, by the parts of the form
  of_kind : (k : ℕ) (f : Form) → form_of k ≡ some f → r.kind ≡ k
      → (a b parents least most : ℕ)
      → leb r.a a ≡ f.a r.a
      → leb r.b b ≡ f.b r.a r.b
      → (leb 0 r.parent_count && leb r.parent_count parents) ≡ count_fits f.parents r.parent_count
      → (leb least r.arg_count && leb r.arg_count most) ≡ count_fits f.args r.arg_count
      → Tells t r a b parents least most
  unfolding within list_within fits list_fits fits_form
  of_kind k f is h a b parents least most ea eb ep eq e =
      e
      ∙ (λ i. (ea i && eb i)
      && (((ep i && all_zero (drop r.parent_count r.parents)) && (eq i && all_zero (drop r.arg_count r.args))) && all_zero r.rest))
      ∙ sym (ap (λ (o : Option Form). fits_form o r) (ap form_of h ∙ is))

  pub as_type : r.kind ≡ 1 → (r.a ≡ 3 → ⊥) → Tells t r 3 0 4 0 0
  unfolding type_form form_of forms
  as_type h e = of_kind 1 type_form refl h 3 0 4 0 0 refl (rw (ne_eqb _ _ e) (zero_within r.b)) (four_within _) (none_within _)

  pub as_pred : r.kind ≡ 2 → Tells t r 0 0 4 0 4
  unfolding pred_form form_of forms
  as_pred h = of_kind 2 pred_form refl h 0 0 4 0 4 (zero_within r.a) (zero_within r.b) (four_within _) (four_within _)

  pub as_el : r.kind ≡ 6 → Tells t r 1 0 0 0 0
  unfolding el_form form_of forms
  as_el h = of_kind 6 el_form refl h 1 0 0 0 0 refl (zero_within r.b) (none_within _) (none_within _)

  -- a kind that takes nothing, whatever its call
  as_bare : (k : ℕ) (call : sheet.Record → Call) → form_of k ≡ some (bare call) → r.kind ≡ k → Tells t r 0 0 0 0 0
  as_bare k call is h = of_kind k (bare call) is h 0 0 0 0 0 (zero_within r.a) (zero_within r.b) (none_within _) (none_within _)

  pub as_last : 13 ≤ r.kind → r.kind < 16 → Tells t r 0 0 0 0 0
  unfolding close_form conflicts_form settle_form form_of forms
  as_last h k = go (eqb r.kind 13) (eqb r.kind 14) refl refl where
    go : (u v : Bool) → eqb r.kind 13 ≡ u → eqb r.kind 14 ≡ v → Tells t r 0 0 0 0 0
    go true v e f = as_bare 13 close_form.call refl (eqb-true r.kind 13 e)
    go false true e f = as_bare 14 conflicts_form.call refl (eqb-true r.kind 14 f)
    go false false e f = as_bare 15 settle_form.call refl (omega (arith, eqb-false r.kind 13 e, eqb-false r.kind 14 f))

  -- where A or B may be any word
  module _ (la : r.a ≤ most_word) (lb : r.b ≤ most_word) where
    pub as_mor : r.kind ≡ 1 → r.a ≡ 3 → Tells t r 3 most_word 4 0 0
    unfolding type_form form_of forms
    as_mor h e = of_kind 1 type_form refl h 3 most_word 4 0 0 refl (rw (eq-eqb _ _ e) (any_within lb)) (four_within _) (none_within _)

    pub as_func : r.kind ≡ 3 → Tells t r 0 most_word 4 0 4
    unfolding func_form form_of forms
    as_func h = of_kind 3 func_form refl h 0 most_word 4 0 4 (zero_within r.a) (any_within lb) (four_within _) (four_within _)

    pub as_model : r.kind ≡ 4 → Tells t r most_word most_word 0 4 4
    unfolding model_form form_of forms
    as_model h = of_kind 4 model_form refl h most_word most_word 0 4 4 (any_within la) (any_within lb) (none_within _) (just_within 4 _)

    pub as_mor_app : r.kind ≡ 5 → Tells t r most_word 0 0 2 2
    unfolding mor_app_form form_of forms
    as_mor_app h = of_kind 5 mor_app_form refl h most_word 0 0 2 2 (any_within la) (zero_within r.b) (none_within _) (just_within 2 _)

    pub as_imposition : r.kind ≡ 8 → Tells t r most_word most_word 4 0 0
    unfolding imposition_form form_of forms
    as_imposition h = of_kind 8 imposition_form refl h most_word most_word 4 0 0 (any_within la) (any_within lb) (four_within _) (none_within _)

    pub as_func_app : r.kind ≡ 9 → Tells t r most_word most_word 4 0 4
    unfolding func_app_form form_of forms
    as_func_app h = of_kind 9 func_app_form refl h most_word most_word 4 0 4 (any_within la) (any_within lb) (four_within _) (four_within _)

    pub as_pred_app : r.kind ≡ 10 → Tells t r most_word 0 4 0 4
    unfolding pred_app_form form_of forms
    as_pred_app h = of_kind 10 pred_app_form refl h most_word 0 4 0 4 (any_within la) (zero_within r.b) (four_within _) (four_within _)

    -- the kinds that take A and B alone
    pub as_equality : r.kind ≡ 7 → Tells t r most_word most_word 0 0 0
    unfolding equality_form form_of forms
    as_equality h = of_kind 7 equality_form refl h most_word most_word 0 0 0 (any_within la) (any_within lb) (none_within _) (none_within _)

    as_var : r.kind ≡ 11 → Tells t r most_word most_word 0 0 0
    unfolding var_form form_of forms
    as_var h = of_kind 11 var_form refl h most_word most_word 0 0 0 (any_within la) (any_within lb) (none_within _) (none_within _)

    as_ambient : r.kind ≡ 12 → Tells t r most_word most_word 0 0 0
    unfolding ambient_form form_of forms
    as_ambient h = of_kind 12 ambient_form refl h most_word most_word 0 0 0 (any_within la) (any_within lb) (none_within _) (none_within _)

    pub as_bound : 11 ≤ r.kind → r.kind < 13 → Tells t r most_word most_word 0 0 0
    as_bound h k = go (eqb r.kind 11) refl where
      go : (u : Bool) → eqb r.kind 11 ≡ u → Tells t r most_word most_word 0 0 0
      go true e = as_var (eqb-true r.kind 11 e)
      go false e = as_ambient (omega (arith, eqb-false r.kind 11 e))
