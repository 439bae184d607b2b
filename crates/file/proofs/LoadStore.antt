-- "restores a stored structure in full": what is stored is loaded again.
use mathlib.Core.Path.{◌≡◌, refl, sym, ap, ap₂, subst, ◌∙◌}
use mathlib.Core.Bool.{Bool, true, false, not, ◌&&◌, ◌||◌}
use mathlib.Core.List.{List, [], ◌∷◌, ◌++◌, map, reverse, reverse_aux, reverse-reverse}
use Prim.Native.Nat.{ℕ, suc, ◌+◌, ◌*◌, ◌≤◌, ◌<◌}
use native.Mathlib.Omega.{arith}
use lib.ListN.{length, length-map, length-reverse}
use lib.Dec.{eqb, ltb}
use borrow.Author.Tests.{le-leb, ltb-false, eq-eqb}
use Rattle.ids.specs.Answers.{Answered, accepted, refused}
use Rattle.ids.proofs.Answers.{not_true, or_neither}
use Rattle.ids.proofs.Judging.{NoneApplies, decided_accepts}
use Rattle.ids.proofs.Sorted.{All, all_of, all_map, all_join, all_image}
use Rattle.unification.specs.Roots.{up_to}
use Rattle.unification.proofs.Arrays.{up_to_length}
use Rattle.signature.specs.Model.{Sig}
use Rattle.semantics.specs.Structure.{Fact, FuncApp, PredApp, Pair, Var, Ambient, Structure, structure}
use Rattle.semantics.specs.Sheet.{bit}
use Rattle.semantics.specs.Valid.{Below, Listed, counts_of, FactValid, PredAppValid, VarValid, PairValid, Valid}
use Rattle.semantics.proofs.Cases.{or_first, or_second}
use Rattle.validity.proofs.Operating.{Admitted}
use Rattle.file.specs.Layout.{byte, word_bytes, by_columns, rows_in, joined, parts_of, sum}
use Rattle.file.specs.Rows.{fact_columns, func_app_columns, pred_app_columns, imposition_columns, pair_columns, fact_row, func_app_row, func_app_in}
use Rattle.file.specs.Rows.{pred_app_row, pred_app_in, imposition_row, imposition_in, var_row, var_in, ambient_row, ambient_in, pair_row, pair_in}
use Rattle.file.specs.Rows.{is_counted, is_clear, is_bit, bit_in}
use Rattle.file.specs.File.{Head, counts, head_from, head_bytes, head_of, first_fact, next_fact, nexts_from, nexts, firsts, parts, store, sizes, head_in, Content}
use Rattle.file.specs.File.{content_from, content_in, structure_in, has_length, any, count_outside, bit_outside, flag_outside}
use Rattle.file.specs.File.{link_rises, chain_broken, unused_byte, content_causes, load_causes, load}
use Rattle.file.proofs.LayoutLaws.{Bytes, bytes_same, parts_joined, joined_length, words_joined, words_back, word_bytes_length, columns_length, rows_back, same_refl}
use Rattle.file.proofs.RowLaws as rows
use Rattle.file.proofs.RowLaws.{two_tests}
use Rattle.file.proofs.Chains.{facts_in_rows}
use Rattle.file.proofs.Storable.{Storable, Entries, AmbientAdmitted, entries_entered, WithinLimits, limits_tell, order_tells, none_any, first_none, valid_storable}

-- The content of a file that a structure is stored in.
unfoldable pub content_of : Structure → Content
content_of s = record {
  links = s.links;
  facts = map fact_row s.facts;
  nexts = nexts s.facts;
  func_apps = map func_app_row s.func_apps;
  pred_apps = map pred_app_row s.pred_apps;
  impositions = map imposition_row s.impositions;
  vars = map var_row s.vars;
  ambients = map ambient_row s.ambients;
  marks = map bit s.marks;
  pairs = map pair_row (reverse s.pairs);
  firsts = firsts (length s.links) s.facts;
  settled = bit s.settled;
  started = bit s.started;
}

-- The chains: how many indices there are, and that they fit a word.

nexts_length : (i : ℕ) (fs : List Fact) → length (nexts_from i fs) ≡ length fs
unfolding nexts_from
nexts_length i [] = refl
nexts_length i (f ∷ fs) = ap suc (nexts_length (suc i) fs)

next_below : (i e : ℕ) (fs : List Fact) → next_fact i e fs ≤ i
unfolding next_fact
next_below i e [] = omega arith
next_below i e (f ∷ fs) = go (eqb f.el e)
  where
    go : (b : Bool) → ◌≤◌ (elim b [ true ↦ i | false ↦ 0 ]) i
    go true = omega arith
    go false = omega arith

nexts_below : (m i : ℕ) (fs : List Fact) → i + length fs ≤ m → All (λ (n : ℕ). n < m) (nexts_from i fs)
unfolding nexts_from
nexts_below m i [] h = tt
nexts_below m i (f ∷ fs) h = (omega (arith, next_below i f.el fs), nexts_below m (suc i) fs (omega arith))

first_below : (i e : ℕ) (fs : List Fact) → first_fact i e fs ≤ i + length fs
unfolding first_fact
first_below i e [] = omega arith
first_below i e (f ∷ fs) = go (eqb f.el e) (first_below (suc i) e fs)
  where
    go : (b : Bool) → first_fact (suc i) e fs ≤ suc i + length fs → ◌≤◌ (elim b [ true ↦ i | false ↦ first_fact (suc i) e fs ]) (i + suc (length fs))
    go true h = omega arith
    go false h = omega arith

firsts_length : (n : ℕ) (fs : List Fact) → length (firsts n fs) ≡ n
firsts_length n fs = length-map (up_to n) (λ (e : ℕ). first_fact 1 e fs) ∙ up_to_length n

firsts_below : (n : ℕ) (fs : List Fact) → length fs ≤ 1024 → All (λ (k : ℕ). k < 65536) (firsts n fs)
firsts_below n fs h =
    all_image (λ (k : ℕ). k < 65536) (λ (e : ℕ). first_fact 1 e fs) (up_to n) (all_of (λ e. omega (arith, first_below 1 e fs)) (up_to n))

-- Bits.

bit_in_lem : (b : Bool) → bit_in (bit b) ≡ b
unfolding bit
bit_in_lem true = refl
bit_in_lem false = refl

bits_in : (l : List Bool) → map bit_in (map bit l) ≡ l
bits_in [] = refl
bits_in (b ∷ l) = ap₂ ◌∷◌ (bit_in_lem b) (bits_in l)

is_bit_lem : (b : Bool) → is_bit (bit b) ≡ true
unfolding bit
is_bit_lem true = refl
is_bit_lem false = refl

-- The parts have the sizes that the counts say.

pub part_sizes : (s : Structure) → length s.marks ≡ length s.links → map length (parts s) ≡ sizes (head_of s)
unfolding parts sizes head_of counts word_bytes
part_sizes s m =
    let e1 : length (map byte s.links) ≡ length s.links = length-map s.links byte in
    let e2 = table fact_row fact_columns s.facts in
    let e3 = word_bytes_length (nexts s.facts) ∙ ap (λ (n : ℕ). 2 * n) (nexts_length 2 s.facts) in
    let e4 = table func_app_row func_app_columns s.func_apps in
    let e5 = table pred_app_row pred_app_columns s.pred_apps in
    let e6 = table imposition_row imposition_columns s.impositions in
    let e7 = table var_row pair_columns s.vars in
    let e8 = table ambient_row pair_columns s.ambients in
    let e9 = length-map s.marks bit ∙ m in
    let e10 = table pair_row pair_columns (reverse s.pairs) ∙ ap (λ (n : ℕ). pair_columns * n) (length-reverse s.pairs) in
    let e11 = word_bytes_length (firsts (length s.links) s.facts) ∙ ap (λ (n : ℕ). 2 * n) (firsts_length (length s.links) s.facts) in
    λ i. 16 ∷ e1 i ∷ e2 i ∷ e3 i ∷ e4 i ∷ e5 i ∷ e6 i ∷ e7 i ∷ e8 i ∷ e9 i ∷ e10 i ∷ e11 i ∷ 2 ∷ []
  where
    table : {A : Type 0} (row : A → List ℕ) (k : ℕ) (l : List A) → length (by_columns k (map row l)) ≡ k * length l
    table row k l = columns_length k (map row l) ∙ ap (λ (n : ℕ). k * n) (length-map l row)

-- The numbers of an entry fit a byte.

all_reverse : {A : Type 0} (P : A → Type 0) (l : List A) → All P l → All P (reverse l)
all_reverse {A} P l h = go l [] h tt
  where
    go : (l r : List A) → All P l → All P r → All P (reverse_aux l r)
    go [] r h k = k
    go (x ∷ l) r h k = go l (x ∷ r) h.1 (h.0, k)

-- links that do not rise are below the number of the elements
links_below : (m k : ℕ) (ls : List ℕ) → link_rises k ls ≡ false → k + length ls ≤ m → Below m ls
unfolding link_rises
links_below m k [] h b = tt
links_below m k (l ∷ ls) h b =
    (omega (arith, ltb-false k l (or_first (ltb k l) (link_rises (suc k) ls) h)), links_below m (suc k) ls (or_second (ltb k l) (link_rises (suc k) ls) h) (omega arith))

module _ (g : Sig) (s : Structure) (t : Storable g s) where
  abbrev entered : Entries g s
  entered = entries_entered g s t.unrefused

  abbrev within : WithinLimits s
  within = limits_tell s t.most

  listed_bytes : (l : List ℕ) → Listed (length s.links) l → Bytes l
  listed_bytes l h = all_map (λ (e : ℕ) (k : e < length s.links). omega (arith, within.els)) l h.below

  fact_bytes : (f : Fact) → FactValid (counts_of g s) f → Bytes (fact_row f)
  fact_bytes f v = rows.fact_row_below f v.parents.short (omega (arith, v.typ, t.types)) (listed_bytes f.parents v.parents)

  imposition_bytes : (f : Fact) → FactValid (counts_of g s) f → Bytes (imposition_row f)
  imposition_bytes f v =
      rows.imposition_row_below f v.parents.short (omega (arith, v.el, within.els)) (omega (arith, v.typ, t.types)) (listed_bytes f.parents v.parents)

  func_app_bytes : (x : FuncApp) → Admitted g (counts_of g s) x → Bytes (func_app_row x)
  func_app_bytes x a =
      let v = a.valid in
      rows.func_app_row_below x v.parents.short v.args.short (omega (arith, v.func, t.funcs)) (listed_bytes x.parents v.parents)
      (listed_bytes x.args v.args) (omega (arith, v.result, within.els))

  pred_app_bytes : (x : PredApp) → PredAppValid (counts_of g s) x → Bytes (pred_app_row x)
  pred_app_bytes x v =
      rows.pred_app_row_below x v.parents.short v.args.short (omega (arith, v.pred, t.preds)) (listed_bytes x.parents v.parents)
      (listed_bytes x.args v.args)

  var_bytes : (v : Var) → VarValid (counts_of g s) v → Bytes (var_row v)
  var_bytes x v = rows.var_row_below x (omega (arith, v.key)) (omega (arith, v.el, within.els))

  ambient_bytes : (a : Ambient) → AmbientAdmitted g s a → Bytes (ambient_row a)
  ambient_bytes x a = rows.ambient_row_below x (omega (arith, a.valid.typ, t.types)) (omega (arith, a.valid.el, within.els))

  pair_bytes : (p : Pair) → PairValid (counts_of g s) p → Bytes (pair_row p)
  pair_bytes p v = rows.pair_row_below p (omega (arith, v.lhs, within.els)) (omega (arith, v.rhs, within.els))

  link_bytes : Bytes s.links
  link_bytes = links_below 256 0 s.links t.falls (omega (arith, within.els))

  -- What a file of the structure says.

  head_stored : head_in (store s) ≡ head_of s
  unfolding head_in head_from store parts joined counts head_of
  head_stored =
      let w = within in
      ap head_from (words_joined (counts (head_of s)) _ (
        omega (arith, w.els),
        (
          omega (arith, w.facts),
          (
            omega (arith, w.func_apps),
            (
              omega (arith, w.pred_apps),
              (omega (arith, w.impositions), (omega (arith, w.vars), (omega (arith, w.ambients), (omega (arith, w.pairs), tt)))),
            ),
          ),
        ),
      ))

  parts_stored : parts_of (sizes (head_of s)) (store s) ≡ parts s
  unfolding store
  parts_stored = ap (λ (ns : List ℕ). parts_of ns (joined (parts s))) (sym (part_sizes s t.marks)) ∙ parts_joined (parts s)

  table : {A : Type 0} {P : A → Type 0} (row : A → List ℕ) (k n : ℕ) (l : List A) → n ≡ length l → ((x : A) → length (row x) ≡ k) → ((x : A) → P x → Bytes (row x))
      → All P l → rows_in k n (by_columns k (map row l)) ≡ map row l
  table row k n l many long small h =
      rows_back k n (map row l) (many ∙ sym (length-map l row)) (all_image (λ (r : List ℕ). length r ≡ k) row l (all_of long l))
      (all_image Bytes row l (all_map small l h))

  parts_say : content_from (head_of s) (parts s) ≡ content_of s
  unfolding content_from head_of parts content_of
  parts_say =
      let e = entered in
      let links = bytes_same s.links link_bytes in
      let facts = table fact_row fact_columns (length s.facts) s.facts refl rows.fact_row_length fact_bytes e.facts in
      let nexts = words_back (nexts s.facts) (nexts_below 65536 2 s.facts (omega (arith, within.facts))) in
      let func_apps = table func_app_row func_app_columns (length s.func_apps) s.func_apps refl rows.func_app_row_length func_app_bytes e.func_apps in
      let pred_apps = table pred_app_row pred_app_columns (length s.pred_apps) s.pred_apps refl rows.pred_app_row_length pred_app_bytes e.pred_apps in
      let impositions = table imposition_row imposition_columns (length s.impositions) s.impositions refl rows.imposition_row_length imposition_bytes e.impositions in
      let vars = table var_row pair_columns (length s.vars) s.vars refl rows.var_row_length var_bytes e.vars in
      let ambients = table ambient_row pair_columns (length s.ambients) s.ambients refl rows.ambient_row_length ambient_bytes e.ambients in
      let pairs = table pair_row pair_columns (length s.pairs) (reverse s.pairs) (sym (length-reverse s.pairs)) rows.pair_row_length pair_bytes
      (all_reverse (PairValid (counts_of g s)) s.pairs e.pairs) in
      let firsts = words_back (firsts (length s.links) s.facts) (firsts_below (length s.links) s.facts within.facts) in
      λ i. record {
        links = links i;
        facts = facts i;
        nexts = nexts i;
        func_apps = func_apps i;
        pred_apps = pred_apps i;
        impositions = impositions i;
        vars = vars i;
        ambients = ambients i;
        marks = map bit s.marks;
        pairs = pairs i;
        firsts = firsts i;
        settled = bit s.settled;
        started = bit s.started;
      }

  content_stored : content_in (store s) ≡ content_of s
  unfolding content_in
  content_stored =
      ap (λ (h : Head). content_from h (parts_of (sizes h) (store s))) head_stored ∙ ap (content_from (head_of s)) parts_stored ∙ parts_say

  -- it says the structure

  read : {A : Type 0} {P : A → Type 0} (row : A → List ℕ) (entry : List ℕ → A) → ((x : A) → P x → entry (row x) ≡ x) → (l : List A) → All P l → map entry (map row l) ≡ l
  read row entry f [] h = refl
  read row entry f (x ∷ l) h = ap₂ ◌∷◌ (f x h.0) (read row entry f l h.1)

  structure_said : structure_in (content_of s) ≡ s
  unfolding structure_in content_of
  structure_said =
      let e = entered in
      let o = order_tells s t.ordered in
      let facts = facts_in_rows (length s.links) s.facts o.facts (all_map (λ f v. v.el) s.facts e.facts) (all_map (λ f v. v.parents.short) s.facts e.facts) in
      let func_apps = read func_app_row func_app_in (λ x a. rows.func_app_in_row x a.valid.parents.short a.valid.args.short) s.func_apps e.func_apps in
      let pred_apps = read pred_app_row pred_app_in (λ x v. rows.pred_app_in_row x v.parents.short v.args.short) s.pred_apps e.pred_apps in
      let vars = read var_row var_in (λ x v. rows.var_in_row x) s.vars e.vars in
      let ambients = read ambient_row ambient_in (λ x v. rows.ambient_in_row x) s.ambients e.ambients in
      let queue = all_reverse (PairValid (counts_of g s)) s.pairs e.pairs in
      let pairs = ap reverse (read pair_row pair_in (λ x v. rows.pair_in_row x) (reverse s.pairs) queue) ∙ reverse-reverse s.pairs in
      let impositions = read imposition_row imposition_in (λ f v. rows.imposition_in_row f v.parents.short) s.impositions e.impositions in
      λ i. structure s.links (bits_in s.marks i) (facts i) (func_apps i) (pred_apps i) (vars i) (ambients i) (pairs i) (impositions i)
      (bit_in_lem s.started i) (bit_in_lem s.settled i)

  -- Nothing refuses it.

  length_stored : length (store s) ≡ sum (sizes (head_of s))
  unfolding store
  length_stored = joined_length (parts s) ∙ ap sum (part_sizes s t.marks)

  has_length_lem : has_length (store s) ≡ true
  unfolding has_length
  has_length_lem =
      two_tests (le-leb head_bytes (length (store s)) (omega (arith, length_stored, begun)))
      (eq-eqb (length (store s)) (sum (sizes (head_in (store s)))) (length_stored ∙ ap (λ (h : Head). sum (sizes h)) (sym head_stored)))
    where
      begun : head_bytes ≤ sum (sizes (head_of s))
      begun = unfold sum sizes in omega arith

  -- rows that pass a test
  passes : {A : Type 0} {P : A → Type 0} (row : A → List ℕ) (p : List ℕ → Bool) → ((x : A) → P x → p (row x) ≡ true) → (l : List A) → All P l
      → any (λ (r : List ℕ). not (p r)) (map row l) ≡ false
  passes row p f l h =
      none_any (λ (r : List ℕ). not (p r)) (map row l) (all_image (λ (r : List ℕ). not (p r) ≡ false) row l (all_map (λ x k. not_true (f x k)) l h))

  counts_inside : count_outside (content_of s) ≡ false
  unfolding count_outside content_of
  counts_inside =
      let e = entered in
      or_neither (passes fact_row (is_counted 1) (λ f v. rows.fact_row_counted f v.parents.short) s.facts e.facts)
      (or_neither (passes func_app_row (λ (r : List ℕ). is_counted 1 r && is_counted 6 r)
      (λ x a. rows.func_app_row_counted x a.valid.parents.short a.valid.args.short) s.func_apps e.func_apps)
      (or_neither (passes pred_app_row (λ (r : List ℕ). is_counted 1 r && is_counted 6 r)
      (λ x v. rows.pred_app_row_counted x v.parents.short v.args.short) s.pred_apps e.pred_apps)
      (passes imposition_row (is_counted 2) (λ f v. rows.imposition_row_counted f v.parents.short) s.impositions e.impositions)))

  unused_zero : unused_byte (content_of s) ≡ false
  unfolding unused_byte content_of
  unused_zero =
      let e = entered in
      or_neither (passes fact_row (is_clear 1) (λ f v. rows.fact_row_clear f v.parents.short) s.facts e.facts)
      (or_neither (passes func_app_row (λ (r : List ℕ). is_clear 1 r && is_clear 6 r)
      (λ x a. rows.func_app_row_clear x a.valid.parents.short a.valid.args.short) s.func_apps e.func_apps)
      (or_neither (passes pred_app_row (λ (r : List ℕ). is_clear 1 r && is_clear 6 r)
      (λ x v. rows.pred_app_row_clear x v.parents.short v.args.short) s.pred_apps e.pred_apps)
      (passes imposition_row (is_clear 2) (λ f v. rows.imposition_row_clear f v.parents.short) s.impositions e.impositions)))

  bits_inside : bit_outside (content_of s) ≡ false
  unfolding bit_outside content_of
  bits_inside =
      let ends : List ℕ = bit s.settled ∷ bit s.started ∷ [] in
      none_any (λ (b : ℕ). not (is_bit b)) (map bit s.marks ++ ends)
      (all_join (λ (b : ℕ). not (is_bit b) ≡ false) (map bit s.marks) ends
      (all_image (λ (b : ℕ). not (is_bit b) ≡ false) bit s.marks (all_of (λ b. not_true (is_bit_lem b)) s.marks))
      (not_true (is_bit_lem s.settled), (not_true (is_bit_lem s.started), tt)))

  flag_inside : flag_outside (head_of s) (content_of s) ≡ false
  unfolding flag_outside content_of bit
  flag_inside = go s.started s.settled (sum (counts (head_of s))) t.flagged
    where
      go : (a b : Bool) (n : ℕ) → (a ≡ false → (n ≡ 0) × (b ≡ false)) → (eqb (bit a) 0 && (ltb 0 n || eqb (bit b) 1)) ≡ false
      go true b n h = refl
      go false b n h = let k = h refl in rw (k.0, k.1)

  chains_whole : chain_broken (content_of s) s ≡ false
  unfolding chain_broken content_of
  chains_whole = not_true (two_tests (same_refl (nexts s.facts)) (same_refl (firsts (length s.links) s.facts)))

  none_refuses : NoneApplies (content_causes g (head_of s) (content_of s) s)
  unfolding content_causes
  none_refuses = (
    or_neither t.most (or_neither counts_inside (or_neither bits_inside flag_inside)),
    (
      t.unrefused,
      (
        t.falls,
        (
          t.rooted,
          (
            chains_whole,
            (t.ordered, (unused_zero, tt)),
          ),
        ),
      ),
    ),
  )

  said : structure_in (content_in (store s)) ≡ s
  said = ap structure_in content_stored ∙ structure_said

  load_accepts : NoneApplies (load_causes g (store s))
  unfolding load_causes
  load_accepts = (
    not_true has_length_lem,
    subst (λ (x : Head × Content × Structure). NoneApplies (content_causes g x.0 x.1 x.2))
        (sym (λ i. (head_stored i, content_stored i, said i))) none_refuses,
  )

  pub load_storable : load g (store s) ≡ accepted s
  unfolding load
  load_storable =
      decided_accepts refused (accepted (structure_in (content_in (store s)))) (first_none (load_causes g (store s)) load_accepts) ∙ ap accepted said

accepted_one : {A : Type 0} {x y : A} → accepted x ≡ accepted y → x ≡ y
accepted_one {A} {x} e = ap (λ (a : Answered A). elim a as (λ _. A) [ accepted z ↦ z | refused n ↦ x ]) e

-- "restores a stored structure in full"
pub load_store : (g : Sig) (s : Structure) → Valid g s → load g (store s) ≡ accepted s
load_store g s v = load_storable g s (valid_storable g s v)

-- two valid structures that are stored as one file are one
pub stored_once : (g : Sig) (s t : Structure) → Valid g s → Valid g t → store s ≡ store t → s ≡ t
stored_once g s t v w e = accepted_one (sym (load_store g s v) ∙ ap (load g) e ∙ load_store g t w)
