-- The parts of a file that are written together: how long they are, that they make the file, and the arrays that hold them.
use mathlib.Core.Path.{◌≡◌, refl, sym, ap, ◌∙◌}
use mathlib.Core.List.{List, [], ◌∷◌, ◌++◌, map, append_assoc}
use Prim.Native.Nat.{ℕ, ◌+◌, ◌*◌, ◌≤◌, ◌<◌}
use native.Mathlib.Omega.{arith}
use lib.ListN.{length, take, drop, length-map}
use lib.Seq.{get_or-take, ext_get_or, length-take-le}
use borrow.Author.Tests.{lt-ltb, le-ltb}
use Rattle.ids.specs.Answers.{first_of, decided, outcome, refusing, accepting, no_room}
use Rattle.unification.specs.Roots.{up_to}
use Rattle.unification.proofs.Arrays.{up_to_length, up_to_at}
use Rattle.semantics.specs.Structure.{Fact, Structure}
use Rattle.file.specs.Layout.{byte, by_columns, joined, sum}
use Rattle.file.specs.Rows.{fact_columns, func_app_columns, pred_app_columns, imposition_columns, pair_columns, fact_row, func_app_row, pred_app_row}
use Rattle.file.specs.Rows.{imposition_row, var_row, ambient_row}
use Rattle.file.specs.File.{counts, head_of, nexts, firsts, first_fact, parts, store, store_causes, store_into}
use Rattle.file.proofs.LayoutLaws.{map_at, joined_length, word_bytes_length, columns_length, columns_take}
use Rattle.storing.specs.View.{Rows, Firsts, fact_parts, app_parts, rest_parts}
use Rattle.storing.proofs.Chains.{nexts_length}

-- Arrays.

-- rows that hold those of some entries
module _ {k : ℕ} {entries : List (List ℕ)} {limit : ℕ} {rows : List (List ℕ)} {r : ℕ} (held : Rows k entries limit rows r) where
  pub rows_columns : by_columns k (take r rows) ≡ by_columns k entries
  rows_columns = sym (columns_take k (take r rows)) ∙ ap (by_columns k) held.is

  pub rows_many : length entries ≡ r
  rows_many =
      ap length (sym held.is) ∙ length-map (take r rows) (take k) ∙ length-take-le r rows (omega (arith, held.most, held.long))

-- where the chains begin
pub firsts_taken : {limit : ℕ} {facts : List Fact} {heads : List ℕ} (n : ℕ) → Firsts limit facts heads → n ≤ limit → take n heads ≡ firsts n facts
firsts_taken {limit} {facts} {heads} n f h =
    let first : ℕ → ℕ = λ e. first_fact 1 e facts in
    let many : length (take n heads) ≡ n = length-take-le n heads (omega (arith, f.long)) in
    ext_get_or 0 (take n heads) (firsts n facts) (many ∙ sym (length-map (up_to n) first ∙ up_to_length n)) (λ e below.
    let there : e < n = omega (arith, many) in
    get_or-take n heads e 0 there
    ∙ f.each e (omega arith)
    ∙ sym (map_at first (up_to n) e 0 0 (omega (arith, up_to_length n)) ∙ ap first (up_to_at n e there)))

-- Lengths.

pub table_length : {A : Type 0} (row : A → List ℕ) (k : ℕ) (l : List A) → length (by_columns k (map row l)) ≡ k * length l
table_length row k l = columns_length k (map row l) ∙ ap (λ (n : ℕ). k * n) (length-map l row)

pub fact_parts_length : (ns : List ℕ) (s : Structure) → length (joined (fact_parts ns s)) ≡ 2 * length ns + length s.links + 8 * length s.facts
unfolding sum
fact_parts_length ns s =
    omega (
      arith,
      joined_length (fact_parts ns s),
      word_bytes_length ns,
      length-map s.links byte,
      table_length fact_row fact_columns s.facts,
      word_bytes_length (nexts s.facts),
      nexts_length 2 s.facts,
    )

pub app_parts_length : (s : Structure) →
    length (joined (app_parts s)) ≡ 12 * length s.func_apps + 11 * length s.pred_apps + 7 * length s.impositions
unfolding sum
app_parts_length s =
    omega (
      arith,
      joined_length (app_parts s),
      table_length func_app_row func_app_columns s.func_apps,
      table_length pred_app_row pred_app_columns s.pred_apps,
      table_length imposition_row imposition_columns s.impositions,
    )

-- The file.

joined_append : (ps qs : List (List ℕ)) → joined (ps ++ qs) ≡ joined ps ++ joined qs
unfolding joined
joined_append [] qs = refl
joined_append (p ∷ ps) qs = ap (λ (l : List ℕ). p ++ l) (joined_append ps qs) ∙ sym (append_assoc p (joined ps) (joined qs))

pub store_parts : (s : Structure) →
    joined (fact_parts (counts (head_of s)) s)
    ++ (joined (app_parts s) ++ (by_columns pair_columns (map var_row s.vars) ++ (by_columns pair_columns (map ambient_row s.ambients) ++ joined (rest_parts s))))
    ≡ store s
unfolding store parts joined
store_parts s =
    let bindings = by_columns pair_columns (map var_row s.vars) ∷ by_columns pair_columns (map ambient_row s.ambients) ∷ rest_parts s in
    sym (joined_append (fact_parts (counts (head_of s)) s) (app_parts s ++ bindings)
    ∙ ap (λ (l : List ℕ). joined (fact_parts (counts (head_of s)) s) ++ l) (joined_append (app_parts s) bindings))

-- What storing answers.

module _ (s : Structure) (buffer : List ℕ) where
  -- there is no room
  pub stored_none : {n : ℕ} → n ≡ length (store s) → length buffer < n → refusing buffer no_room ≡ store_into s buffer
  unfolding store_into store_causes outcome first_of decided
  stored_none {n} e h = rw (lt-ltb (length buffer) (length (store s)) (omega (arith, e))) refl

  -- the file stands first, and the rest is as it was
  pub stored_all : {front : List ℕ} {n : ℕ} → front ≡ store s → n ≡ length (store s) → n ≤ length buffer → accepting n (front ++ drop n buffer) ≡ store_into s buffer
  unfolding store_into store_causes outcome first_of decided
  stored_all is many h =
      rw (le-ltb (length buffer) (length (store s)) (omega (arith, many))) (λ i. accepting (many i) (is i ++ drop (many i) buffer))
