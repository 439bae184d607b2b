-- What is written into a buffer, as the definitions speak of it.
use Rattle.std.specs.Prelude.{ℕ, ◌+◌, ◌*◌, ◌≤◌, ◌≡◌, false, List, [], ◌∷◌, ◌++◌, map, reverse, length, take, drop, get_or}
use Rattle.std.specs.declared.result.Result.{Result}
use Rattle.std.specs.declared.result.Result.TheVariants.{Ok, Err}
use Rattle.ids.specs.Answers.{Answered, accepted, refused, Outcome}
use Rattle.unification.specs.Roots.{max_els}
use Rattle.signature.specs.Model.{max_types}
use Rattle.semantics.specs.Structure.{Fact, Structure, max_facts, max_func_apps, max_pred_apps, max_vars, max_pairs, max_impositions}
use Rattle.semantics.specs.Sheet.{bit}
use Rattle.bindings.specs.declared.Slot.{Slot}
use Rattle.bindings.specs.View.{slots_from}
use Rattle.file.specs.Layout.{byte, word_bytes, by_columns}
use Rattle.file.specs.Rows.{fact_columns, func_app_columns, pred_app_columns, imposition_columns, pair_columns, fact_row, func_app_row, pred_app_row}
use Rattle.file.specs.Rows.{imposition_row, pair_row}
use Rattle.file.specs.File.{counts, head_of, nexts, firsts, first_fact, any_over, limits}

-- bytes were written from an index on: they end before r, and what is past them is as it was
pub record Written (before : List ℕ) (at : ℕ) (bytes after : List ℕ) (r : ℕ) : Type 0 where
  pub is : take r after ≡ take at before ++ bytes
  pub rest : drop r after ≡ drop r before
  pub end : r ≡ at + length bytes
  pub long : length after ≡ length before

-- what every structure that the code can hold has: no table over its limit, and a mark for each element
pub record Held (s : Structure) : Type 0 where
  pub most : any_over (counts (head_of s)) limits ≡ false
  pub marks : length s.marks ≡ length s.links

-- the first r rows hold, in their first k places, the rows of some entries, of which there are at most so many
pub record Rows (k : ℕ) (entries : List (List ℕ)) (limit : ℕ) (rows : List (List ℕ)) (r : ℕ) : Type 0 where
  pub is : map (take k) (take r rows) ≡ entries
  pub most : r ≤ limit
  pub long : length rows ≡ limit

-- the slots that are given, as rows: the key and the element of each
abbrev pub slot_rows : List Slot → List (List ℕ)
slot_rows ss = slots_from (λ (key el : ℕ). key ∷ el ∷ []) 0 ss

-- where the chain of each of so many elements begins, by these facts
pub record Firsts (limit : ℕ) (facts : List Fact) (heads : List ℕ) : Type 0 where
  pub each : (e : ℕ) → e + 1 ≤ limit → get_or heads e 0 ≡ first_fact 1 e facts
  pub long : length heads ≡ limit

-- what storing answers, and the buffer that it leaves
abbrev pub stored_answer : Result ℕ ℕ → Answered ℕ
stored_answer (Ok n) = accepted n
stored_answer (Err n) = refused n

abbrev pub stored_of : Result ℕ ℕ → List ℕ → Outcome ℕ (List ℕ)
stored_of r buffer = record { answer = stored_answer r; after = buffer }

-- The most bytes of a file, and of its parts that are written together.

abbrev pub fact_bytes : ℕ
fact_bytes = 16 + max_els + 8 * max_facts

abbrev pub rest_bytes : ℕ
rest_bytes = 3 * max_els + 2 * max_pairs + 2

abbrev pub max_bytes : ℕ
max_bytes = fact_bytes + 12 * max_func_apps + 11 * max_pred_apps + 7 * max_impositions + 2 * max_vars + 2 * max_types + rest_bytes

-- the counts, the links, and the facts with their chains
abbrev pub fact_parts : List ℕ → Structure → List (List ℕ)
fact_parts counts s =
    word_bytes counts ∷ map byte s.links ∷ by_columns fact_columns (map fact_row s.facts) ∷ word_bytes (nexts s.facts) ∷ []

-- the applications and the impositions
abbrev pub app_parts : Structure → List (List ℕ)
app_parts s =
    by_columns func_app_columns (map func_app_row s.func_apps)
    ∷ by_columns pred_app_columns (map pred_app_row s.pred_apps)
    ∷ by_columns imposition_columns (map imposition_row s.impositions)
    ∷ []

-- the marks, the pairs, where the chains begin, and the flags
abbrev pub rest_parts : Structure → List (List ℕ)
rest_parts s =
    map bit s.marks
    ∷ by_columns pair_columns (map pair_row (reverse s.pairs))
    ∷ word_bytes (firsts (length s.links) s.facts)
    ∷ (bit s.settled ∷ bit s.started ∷ [])
    ∷ []
