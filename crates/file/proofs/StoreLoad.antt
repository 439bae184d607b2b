-- "the stored bytes of a structure are unique": a file that loads is `store` of what it loads to.
use mathlib.Core.Path.{◌≡◌, refl, sym, ap, ◌∙◌}
use mathlib.Core.Bool.{Bool, true, false, not, ◌&&◌, ◌||◌}
use mathlib.Core.List.{List, [], ◌∷◌, ◌++◌, map, reverse, reverse-reverse}
use Prim.Native.Nat.{ℕ, zero, suc, ◌*◌, ◌≤◌, ◌<◌}
use native.Mathlib.Omega.{arith}
use lib.ListN.{replicate, length, take, get_or, length-map, length-reverse}
use lib.Seq.{take_all, length-take-le}
use lib.Dec.{eqb, leb}
use borrow.Author.Tests.{leb-true, eqb-true, not-false}
use Rattle.ids.specs.Answers.{Answered, accepted, refused, first_of, decided}
use Rattle.ids.specs.Sorted.{All}
use Rattle.ids.proofs.Judging.{NoneApplies, decided_by}
use Rattle.ids.proofs.Sorted.{all_of, all_map, all_both, all_left, all_right}
use Rattle.unification.specs.Roots.{up_to}
use Rattle.validity.proofs.Demands.{all_entry}
use Rattle.signature.specs.Model.{Sig}
use Rattle.semantics.specs.Structure.{Pair, Structure, empty}
use Rattle.semantics.specs.Sheet.{words, bit}
use Rattle.semantics.proofs.Cases.{and_first, and_second, or_first, or_second}
use Rattle.file.specs.Layout.{byte, word_bytes, by_columns, rows_in, joined, parts_of, sum, same}
use Rattle.file.specs.Rows.{fact_columns, func_app_columns, pred_app_columns, imposition_columns, pair_columns, fact_row, fact_in, func_app_row, func_app_in}
use Rattle.file.specs.Rows.{pred_app_row, pred_app_in, imposition_row, imposition_in, var_row, var_in, ambient_row, ambient_in, pair_row, pair_in}
use Rattle.file.specs.Rows.{is_counted, is_clear, is_bit, bit_in}
use Rattle.file.specs.File.{nexts_from, Head, counts, head_from, head_bytes, head_of, head_in, nexts, firsts, parts, store, sizes, Content, content_from, content_in}
use Rattle.file.specs.File.{owner, facts_from, structure_in, has_length, any_over, limits, any, count_outside, bit_outside, flag_outside}
use Rattle.file.specs.File.{entry_calls, in_order, entry_refused, link_rises, fact_off_root, chain_broken, other_order, unused_byte, content_causes, load_causes, load}
use Rattle.file.proofs.LayoutLaws.{Bytes, entries, bytes_same, all_take, joined_parts, parts_length, part_length, parts_all, word_bytes_back}
use Rattle.file.proofs.LayoutLaws.{words_take, words_many, columns_back, rows_length, rows_long, same_true}
use Rattle.file.proofs.RowLaws.{fact_row_in, func_app_row_in, pred_app_row_in, imposition_row_in, var_row_in, ambient_row_in, pair_row_in}

-- What an accepted load tells.

-- nothing refuses a file that says the structure s
pub record Unrefused (g : Sig) (h : Head) (c : Content) (s : Structure) : Type 0 where
  pub over : any_over (counts h) limits ≡ false
  pub counted : count_outside c ≡ false
  pub bits : bit_outside c ≡ false
  pub flag : flag_outside h c ≡ false
  pub entered : entry_refused g s ≡ false
  pub linked : link_rises 0 s.links ≡ false
  pub rooted : fact_off_root s ≡ false
  pub chained : chain_broken c s ≡ false
  pub ordered : other_order s ≡ false
  pub clear : unused_byte c ≡ false

unrefused : (g : Sig) (h : Head) (c : Content) (s : Structure) → NoneApplies (content_causes g h c s) → Unrefused g h c s
unfolding content_causes
unrefused g h c s free =
    let past-over : (count_outside c || (bit_outside c || flag_outside h c)) ≡ false =
    or_second (any_over (counts h) limits) (count_outside c || (bit_outside c || flag_outside h c)) free.0 in
    let past-counts : (bit_outside c || flag_outside h c) ≡ false = or_second (count_outside c) (bit_outside c || flag_outside h c) past-over in
    record {
      over = or_first (any_over (counts h) limits) (count_outside c || (bit_outside c || flag_outside h c)) free.0;
      counted = or_first (count_outside c) (bit_outside c || flag_outside h c) past-over;
      bits = or_first (bit_outside c) (flag_outside h c) past-counts;
      flag = or_second (bit_outside c) (flag_outside h c) past-counts;
      entered = free.1.0;
      linked = free.1.1.0;
      rooted = free.1.1.1.0;
      chained = free.1.1.1.1.0;
      ordered = free.1.1.1.1.1.0;
      clear = free.1.1.1.1.1.1.0;
    }

-- the length is that of its counts, nothing refuses the file, and what is loaded is what it says
pub record Loaded (g : Sig) (bytes : List ℕ) (s : Structure) : Type 0 where
  pub long : has_length bytes ≡ true
  pub content : Unrefused g (head_in bytes) (content_in bytes) (structure_in (content_in bytes))
  pub is : structure_in (content_in bytes) ≡ s

pub loaded : (g : Sig) (bytes : List ℕ) (s : Structure) → load g bytes ≡ accepted s → Loaded g bytes s
unfolding load load_causes
loaded g bytes s =
    decided_by (λ (a : Answered Structure). a ≡ accepted s → Loaded g bytes s) (load_causes g bytes) refused (accepted (structure_in (content_in bytes)))
    (λ n m e. let z : ◌≡◌ {A = ℕ} 0 1 = cc in absurd (omega arith)) (λ free e. record {
      long = not-false (has_length bytes) free.0;
      content = unrefused g (head_in bytes) (content_in bytes) (structure_in (content_in bytes)) free.1;
      is = cc;
    })

pub any_none : {A : Type 0} (p : A → Bool) (l : List A) → any (λ (x : A). not (p x)) l ≡ false → All (λ (x : A). p x ≡ true) l
unfolding any
any_none p [] h = tt
any_none {A} p (x ∷ xs) h =
    (not-false (p x) (or_first (not (p x)) (any (λ (y : A). not (p y)) xs) h), any_none p xs (or_second (not (p x)) (any (λ (y : A). not (p y)) xs) h))

-- the lists of a row at one place, or at two, are as they must be
abbrev pub ListedAt : ℕ → List ℕ → Type 0
ListedAt j r = (is_counted j r ≡ true) × (is_clear j r ≡ true)

abbrev pub ListedTwice : List ℕ → Type 0
ListedTwice r = ((is_counted 1 r && is_counted 6 r) ≡ true) × ((is_clear 1 r && is_clear 6 r) ≡ true)

-- what is asked of the bytes themselves
pub record Sound (c : Content) (s : Structure) : Type 0 where
  pub facts : All (ListedAt 1) c.facts
  pub func_apps : All ListedTwice c.func_apps
  pub pred_apps : All ListedTwice c.pred_apps
  pub impositions : All (ListedAt 2) c.impositions
  pub marks : All (λ (b : ℕ). is_bit b ≡ true) c.marks
  pub settled : is_bit c.settled ≡ true
  pub started : is_bit c.started ≡ true
  pub nexts : c.nexts ≡ nexts s.facts
  pub firsts : c.firsts ≡ firsts (length s.links) s.facts

-- the rows of the four tables that hold lists pass their tests
record Passed (p q r : List ℕ → Bool) (c : Content) : Type 0 where
  pub facts : All (λ (x : List ℕ). p x ≡ true) c.facts
  pub func_apps : All (λ (x : List ℕ). q x ≡ true) c.func_apps
  pub pred_apps : All (λ (x : List ℕ). q x ≡ true) c.pred_apps
  pub impositions : All (λ (x : List ℕ). r x ≡ true) c.impositions

passed : (p q r : List ℕ → Bool) (c : Content)
    → (any (λ (x : List ℕ). not (p x)) c.facts || (any (λ (x : List ℕ). not (q x)) c.func_apps
    || (any (λ (x : List ℕ). not (q x)) c.pred_apps || any (λ (x : List ℕ). not (r x)) c.impositions))) ≡ false → Passed p q r c
passed p q r c h =
    let one : Bool = any (λ (x : List ℕ). not (p x)) c.facts in
    let two : Bool = any (λ (x : List ℕ). not (q x)) c.func_apps in
    let three : Bool = any (λ (x : List ℕ). not (q x)) c.pred_apps in
    let four : Bool = any (λ (x : List ℕ). not (r x)) c.impositions in
    let past_one : (two || (three || four)) ≡ false = or_second one (two || (three || four)) h in
    let past_two : (three || four) ≡ false = or_second two (three || four) past_one in
    record {
      facts = any_none p c.facts (or_first one (two || (three || four)) h);
      func_apps = any_none q c.func_apps (or_first two (three || four) past_one);
      pred_apps = any_none q c.pred_apps (or_first three four past_two);
      impositions = any_none r c.impositions (or_second three four past_two);
    }

pub sound : (g : Sig) (h : Head) (c : Content) (s : Structure) → Unrefused g h c s → Sound c s
unfolding count_outside bit_outside chain_broken unused_byte
sound g h c s u =
    let n = passed (is_counted 1) (λ (r : List ℕ). is_counted 1 r && is_counted 6 r) (is_counted 2) c u.counted in
    let z = passed (is_clear 1) (λ (r : List ℕ). is_clear 1 r && is_clear 6 r) (is_clear 2) c u.clear in
    let ends : List ℕ = c.settled ∷ c.started ∷ [] in
    let each : All (λ (b : ℕ). is_bit b ≡ true) (c.marks ++ ends) = any_none (λ (b : ℕ). is_bit b) (c.marks ++ ends) u.bits in
    let flags : All (λ (b : ℕ). is_bit b ≡ true) ends = all_right (λ (b : ℕ). is_bit b ≡ true) c.marks ends each in
    let one : Bool = same c.nexts (nexts s.facts) in
    let two : Bool = same c.firsts (firsts (length s.links) s.facts) in
    let both : (one && two) ≡ true = not-false (one && two) u.chained in
    record {
      facts = all_both (λ (r : List ℕ). is_counted 1 r ≡ true) (λ (r : List ℕ). is_clear 1 r ≡ true) c.facts n.facts z.facts;
      func_apps =
          all_both (λ (r : List ℕ). (is_counted 1 r && is_counted 6 r) ≡ true) (λ (r : List ℕ). (is_clear 1 r && is_clear 6 r) ≡ true) c.func_apps
          n.func_apps z.func_apps;
      pred_apps =
          all_both (λ (r : List ℕ). (is_counted 1 r && is_counted 6 r) ≡ true) (λ (r : List ℕ). (is_clear 1 r && is_clear 6 r) ≡ true) c.pred_apps
          n.pred_apps z.pred_apps;
      impositions = all_both (λ (r : List ℕ). is_counted 2 r ≡ true) (λ (r : List ℕ). is_clear 2 r ≡ true) c.impositions n.impositions z.impositions;
      marks = all_left (λ (b : ℕ). is_bit b ≡ true) c.marks ends each;
      settled = flags.0;
      started = flags.1.0;
      nexts = same_true c.nexts (nexts s.facts) (and_first one two both);
      firsts = same_true c.firsts (firsts (length s.links) s.facts) (and_second one two both);
    }

-- The parts of a file that loads.

-- a file cut into parts as its head says
pub record Split (h : Head) (ps : List (List ℕ)) : Type 0 where
  pub many : length ps ≡ 13
  pub small : All Bytes ps
  pub long : (i : ℕ) → i < 13 → length (get_or ps i []) ≡ get_or (sizes h) i 0
  pub head : word_bytes (counts h) ≡ get_or ps 0 []

-- the head is written as it was read
head_back : (bytes : List ℕ) → Bytes bytes → head_bytes ≤ length bytes → word_bytes (counts (head_in bytes)) ≡ take head_bytes bytes
unfolding counts head_in head_from up_to
head_back bytes small h =
    ap word_bytes (entries 0 8 (words bytes) (words_many 8 bytes h) ∙ sym (words_take 8 bytes))
    ∙ word_bytes_back 8 (take head_bytes bytes) (all_take (λ (b : ℕ). b < 256) head_bytes bytes small) (length-take-le head_bytes bytes h)

pub has_length_lem : (bytes : List ℕ) → has_length bytes ≡ true → (head_bytes ≤ length bytes) × (length bytes ≡ sum (sizes (head_in bytes)))
unfolding has_length
has_length_lem bytes h =
    let begun : Bool = leb head_bytes (length bytes) in
    let fits : Bool = eqb (length bytes) (sum (sizes (head_in bytes))) in
    (leb-true head_bytes (length bytes) (and_first begun fits h), eqb-true (length bytes) (sum (sizes (head_in bytes))) (and_second begun fits h))

pub split : (bytes : List ℕ) → Bytes bytes → has_length bytes ≡ true → Split (head_in bytes) (parts_of (sizes (head_in bytes)) bytes)
unfolding sizes parts_of
split bytes small h = record {
  many = parts_length (sizes (head_in bytes)) bytes;
  small = parts_all (λ (b : ℕ). b < 256) (sizes (head_in bytes)) bytes small;
  long = λ i g. part_length (sizes (head_in bytes)) bytes i (omega (arith, (has_length_lem bytes h).1)) g;
  head = head_back bytes small (has_length_lem bytes h).0;
}

-- Rows and bits are written as they were read.

module _ {A : Type 0} (row : A → List ℕ) (entry : List ℕ → A) where
  map_back : (rows : List (List ℕ)) → All (λ (r : List ℕ). row (entry r) ≡ r) rows → map row (map entry rows) ≡ rows
  map_back [] h = refl
  map_back (r ∷ rs) h = λ i. h.0 i ∷ map_back rs h.1 i

  -- a table, by a law for each of its rows
  table_back : (P : List ℕ → Type 0) (k n : ℕ) (bytes : List ℕ) → Bytes bytes → length bytes ≡ k * n
      → ((r : List ℕ) → length r ≡ k → P r → row (entry r) ≡ r) → All P (rows_in k n bytes) → by_columns k (map row (map entry (rows_in k n bytes))) ≡ bytes
  table_back P k n bytes small long law each =
      let rows : List (List ℕ) = rows_in k n bytes in
      ap (by_columns k)
      (map_back rows (all_map (λ r q. law r q.0 q.1) rows (all_both (λ (r : List ℕ). length r ≡ k) P rows (rows_long k n bytes) each)))
      ∙ columns_back k n bytes long small

facts_back : (i : ℕ) (fs : List ℕ) (rows : List (List ℕ)) → All (λ (r : List ℕ). (e : ℕ) → fact_row (fact_in e r) ≡ r) rows
    → map fact_row (facts_from i fs rows) ≡ rows
unfolding facts_from
facts_back i fs [] h = refl
facts_back i fs (r ∷ rs) h = λ j. h.0 (owner i fs) j ∷ facts_back (suc i) fs rs h.1 j

pub facts_length : (i : ℕ) (fs : List ℕ) (rows : List (List ℕ)) → length (facts_from i fs rows) ≡ length rows
unfolding facts_from
facts_length i fs [] = refl
facts_length i fs (r ∷ rs) = ap suc (facts_length (suc i) fs rs)

bit_back : (n : ℕ) → is_bit n ≡ true → bit (bit_in n) ≡ n
unfolding bit
bit_back zero h = refl
bit_back (suc zero) h = refl
bit_back (suc (suc n)) h = absurd (omega (arith, leb-true (suc (suc n)) 1 h))

bits_back : (l : List ℕ) → All (λ (b : ℕ). is_bit b ≡ true) l → map bit (map bit_in l) ≡ l
bits_back [] h = refl
bits_back (b ∷ bs) h = λ i. bit_back b h.0 i ∷ bits_back bs h.1 i

-- the structure that some parts say
abbrev pub said : Head → List (List ℕ) → Structure
said h ps = structure_in (content_from h ps)

module _ (h : Head) (ps : List (List ℕ)) (w : Split h ps) where
  small_part : (i : ℕ) → i < 13 → Bytes (get_or ps i [])
  small_part i g = all_entry Bytes ps i [] w.small (omega (arith, w.many))

  -- it has as many of each as the head says
  pub head_same : head_of (said h ps) ≡ h
  unfolding head_of structure_in content_from sizes
  head_same = λ i. record {
    els = w.long 1 (omega arith) i;
    facts =
        (facts_length 1 (words (get_or ps 11 [])) (rows_in fact_columns h.facts (get_or ps 2 [])) ∙ rows_length fact_columns h.facts (get_or ps 2 [])) i;
    func_apps =
        (length-map (rows_in func_app_columns h.func_apps (get_or ps 4 [])) func_app_in ∙ rows_length func_app_columns h.func_apps (get_or ps 4 [])) i;
    pred_apps =
        (length-map (rows_in pred_app_columns h.pred_apps (get_or ps 5 [])) pred_app_in ∙ rows_length pred_app_columns h.pred_apps (get_or ps 5 [])) i;
    impositions =
        (length-map (rows_in imposition_columns h.impositions (get_or ps 6 [])) imposition_in ∙ rows_length imposition_columns h.impositions (get_or ps 6 [])) i;
    vars = (length-map (rows_in pair_columns h.vars (get_or ps 7 [])) var_in ∙ rows_length pair_columns h.vars (get_or ps 7 [])) i;
    ambients = (length-map (rows_in pair_columns h.ambients (get_or ps 8 [])) ambient_in ∙ rows_length pair_columns h.ambients (get_or ps 8 [])) i;
    pairs =
        (length-reverse (map pair_in (rows_in pair_columns h.pairs (get_or ps 10 [])))
        ∙ length-map (rows_in pair_columns h.pairs (get_or ps 10 [])) pair_in
        ∙ rows_length pair_columns h.pairs (get_or ps 10 [])) i;
  }

  module _ (ok : Sound (content_from h ps) (said h ps)) where
    facts_part : by_columns fact_columns (map fact_row (said h ps).facts) ≡ get_or ps 2 []
    unfolding structure_in content_from sizes
    facts_part =
        let rows : List (List ℕ) = rows_in fact_columns h.facts (get_or ps 2 []) in
        ap (by_columns fact_columns)
        (facts_back 1 (words (get_or ps 11 [])) rows
        (all_map (λ r q e. fact_row_in e r q.0 q.1.0 q.1.1) rows
        (all_both (λ (r : List ℕ). length r ≡ fact_columns) (ListedAt 1) rows (rows_long fact_columns h.facts (get_or ps 2 [])) ok.facts)))
        ∙ columns_back fact_columns h.facts (get_or ps 2 []) (w.long 2 (omega arith)) (small_part 2 (omega arith))

    flags_part : bit (said h ps).settled ∷ bit (said h ps).started ∷ [] ≡ get_or ps 12 []
    unfolding structure_in content_from sizes up_to
    flags_part =
        (λ i. bit_back (get_or (get_or ps 12 []) 0 0) ok.settled i ∷ bit_back (get_or (get_or ps 12 []) 1 0) ok.started i ∷ [])
        ∙ entries 0 2 (get_or ps 12 []) (omega (arith, w.long 12 (omega arith)))
        ∙ take_all 2 (get_or ps 12 []) (omega (arith, w.long 12 (omega arith)))

    parts_back : parts (said h ps) ≡ ps
    unfolding parts structure_in content_from sizes up_to
    parts_back =
        let pairs : List Pair = map pair_in (rows_in pair_columns h.pairs (get_or ps 10 [])) in
        let e0 : word_bytes (counts (head_of (said h ps))) ≡ get_or ps 0 [] = ap (λ (x : Head). word_bytes (counts x)) head_same ∙ w.head in
        let e1 : map byte (said h ps).links ≡ get_or ps 1 [] = bytes_same (get_or ps 1 []) (small_part 1 (omega arith)) in
        let e3 : word_bytes (nexts (said h ps).facts) ≡ get_or ps 3 [] =
        ap word_bytes (sym ok.nexts) ∙ word_bytes_back h.facts (get_or ps 3 []) (small_part 3 (omega arith)) (w.long 3 (omega arith)) in
        let e4 : by_columns func_app_columns (map func_app_row (said h ps).func_apps) ≡ get_or ps 4 [] =
        table_back func_app_row func_app_in ListedTwice func_app_columns h.func_apps (get_or ps 4 []) (small_part 4 (omega arith)) (w.long 4 (omega arith))
        (λ r l q. func_app_row_in r l q.0 q.1) ok.func_apps in
        let e5 : by_columns pred_app_columns (map pred_app_row (said h ps).pred_apps) ≡ get_or ps 5 [] =
        table_back pred_app_row pred_app_in ListedTwice pred_app_columns h.pred_apps (get_or ps 5 []) (small_part 5 (omega arith)) (w.long 5 (omega arith))
        (λ r l q. pred_app_row_in r l q.0 q.1) ok.pred_apps in
        let e6 : by_columns imposition_columns (map imposition_row (said h ps).impositions) ≡ get_or ps 6 [] =
        table_back imposition_row imposition_in (ListedAt 2) imposition_columns h.impositions (get_or ps 6 []) (small_part 6 (omega arith))
        (w.long 6 (omega arith)) (λ r l q. imposition_row_in r l q.0 q.1) ok.impositions in
        let e7 : by_columns pair_columns (map var_row (said h ps).vars) ≡ get_or ps 7 [] =
        table_back var_row var_in (λ r. Unit {0}) pair_columns h.vars (get_or ps 7 []) (small_part 7 (omega arith)) (w.long 7 (omega arith))
        (λ r l q. var_row_in r l) (all_of (λ r. tt) (rows_in pair_columns h.vars (get_or ps 7 []))) in
        let e8 : by_columns pair_columns (map ambient_row (said h ps).ambients) ≡ get_or ps 8 [] =
        table_back ambient_row ambient_in (λ r. Unit {0}) pair_columns h.ambients (get_or ps 8 []) (small_part 8 (omega arith)) (w.long 8 (omega arith))
        (λ r l q. ambient_row_in r l) (all_of (λ r. tt) (rows_in pair_columns h.ambients (get_or ps 8 []))) in
        let e9 : map bit (said h ps).marks ≡ get_or ps 9 [] = bits_back (get_or ps 9 []) ok.marks in
        let e10 : by_columns pair_columns (map pair_row (reverse (said h ps).pairs)) ≡ get_or ps 10 [] =
        ap (λ (l : List Pair). by_columns pair_columns (map pair_row l)) (reverse-reverse pairs)
        ∙ table_back pair_row pair_in (λ r. Unit {0}) pair_columns h.pairs (get_or ps 10 []) (small_part 10 (omega arith)) (w.long 10 (omega arith))
        (λ r l q. pair_row_in r l) (all_of (λ r. tt) (rows_in pair_columns h.pairs (get_or ps 10 []))) in
        let e11 : word_bytes (firsts (length (said h ps).links) (said h ps).facts) ≡ get_or ps 11 [] =
        ap word_bytes (sym ok.firsts) ∙ word_bytes_back h.els (get_or ps 11 []) (small_part 11 (omega arith)) (w.long 11 (omega arith)) in
        (λ i. e0 i ∷ e1 i ∷ facts_part i ∷ e3 i ∷ e4 i ∷ e5 i ∷ e6 i ∷ e7 i ∷ e8 i ∷ e9 i ∷ e10 i ∷ e11 i ∷ flags_part i ∷ [])
        ∙ entries [] 13 ps (omega (arith, w.many))
        ∙ take_all 13 ps (omega (arith, w.many))

-- the bytes are those of the structure that they say
pub store_load : (g : Sig) (bytes : List ℕ) (s : Structure) → All (λ (b : ℕ). b < 256) bytes → load g bytes ≡ accepted s → store s ≡ bytes
unfolding store content_in
store_load g bytes s small e =
    let l : Loaded g bytes s = loaded g bytes s e in
    let h : Head = head_in bytes in
    let ps : List (List ℕ) = parts_of (sizes h) bytes in
    let w : Split h ps = split bytes small l.long in
    ap store (sym l.is)
    ∙ ap joined (parts_back h ps w (sound g h (content_from h ps) (said h ps) l.content))
    ∙ joined_parts (sizes h) bytes (sym (has_length_lem bytes l.long).1)

-- there are such files: that of the empty structure
pub empty_loads : (g : Sig) → load g (replicate 18 0) ≡ accepted empty
unfolding load load_causes content_causes has_length head_in head_from sizes sum words counts content_in content_from parts_of rows_in up_to structure_in facts_from
    any_over count_outside bit_outside flag_outside any entry_refused entry_calls link_rises fact_off_root chain_broken other_order in_order unused_byte same
    first_of decided empty nexts_from
empty_loads g = refl
