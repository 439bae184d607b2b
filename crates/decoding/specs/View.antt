-- What is read out of a file, as the definitions speak of it.
use Rattle.std.specs.Prelude.{ℕ, suc, ◌+◌, ◌*◌, ◌≤◌, ◌<◌, ◌≡◌, true, false, List, map, length, get_or}
use Rattle.ids.specs.Sorted.{All}
use Rattle.unification.specs.Roots.{up_to}
use Rattle.signature.specs.Model.{max_types}
use Rattle.semantics.specs.Structure.{Structure, Fact, Var, Ambient, max_vars, max_facts, compare_var, compare_ambient}
use Rattle.file.specs.Layout.{row_in, sum}
use Rattle.file.specs.Rows.{fact_in, fact_columns, func_app_columns, pred_app_columns, imposition_columns, pair_columns}
use Rattle.file.specs.File as file
use Rattle.file.specs.File.{owner, in_order, any_over, counts, limits, head_bytes, sizes, head_in}
use Rattle.decoding.specs.declared.Head.{Head}
use Rattle.decoding.specs.declared.Places.{Places}

-- the counts of a file's head
abbrev pub head_view : Head → file.Head
head_view h = record {
  els = h.els;
  facts = h.facts;
  func_apps = h.func_apps;
  pred_apps = h.pred_apps;
  impositions = h.impositions;
  vars = h.vars;
  ambients = h.ambients;
  pairs = h.pairs;
}

-- where each part begins, by the counts, and where the last ends
pub record PlacesOf (h : file.Head) (p : Places) : Type 0 where
  pub links : p.links ≡ head_bytes
  pub facts : p.facts ≡ p.links + h.els
  pub func_apps : p.func_apps ≡ p.facts + 8 * h.facts
  pub pred_apps : p.pred_apps ≡ p.func_apps + func_app_columns * h.func_apps
  pub impositions : p.impositions ≡ p.pred_apps + pred_app_columns * h.pred_apps
  pub vars : p.vars ≡ p.impositions + imposition_columns * h.impositions
  pub ambients : p.ambients ≡ p.vars + pair_columns * h.vars
  pub marks : p.marks ≡ p.ambients + pair_columns * h.ambients
  pub pairs : p.pairs ≡ p.marks + h.els
  pub firsts : p.firsts ≡ p.pairs + pair_columns * h.pairs
  pub flags : p.flags ≡ p.firsts + 2 * h.els
  pub end : p.end ≡ p.flags + 2

-- the head of a file whose length fits it, with no count over its limit
pub record Fits (h : file.Head) (bytes : List ℕ) : Type 0 where
  pub is : h ≡ head_in bytes
  pub long : length bytes ≡ sum (sizes h)
  pub most : any_over (counts h) limits ≡ false

-- the first i of n entries are those that the rows in k columns say
pub record Said {A : Type 0} (Says : A → List ℕ → Type 0) (k n : ℕ) (columns : List ℕ) (entries : List A) (i : ℕ) : Type 0 where
  pub each : (d : A) (j : ℕ) → j < i → Says (get_or entries j d) (row_in k n columns j)
  pub long : length entries ≡ n

-- some entries of an array were set to one number: those from an index up to n
pub record SetFrom (from n x : ℕ) (before after : List ℕ) : Type 0 where
  pub below : (i : ℕ) → i < from → get_or after i 0 ≡ get_or before i 0
  pub set : (i : ℕ) → from ≤ i → i < n → get_or after i 0 ≡ x
  pub long : length after ≡ length before

-- the element of each of n facts, by where the chains begin
pub record Owners (firsts : List ℕ) (n : ℕ) (owners : List ℕ) : Type 0 where
  pub each : (i : ℕ) → i < n → get_or owners i 0 ≡ owner (suc i) firsts
  pub long : length owners ≡ max_facts

-- the facts of n rows, whose elements are these
abbrev pub facts_owned : List ℕ → ℕ → List ℕ → List Fact
facts_owned owners n bytes = map (λ (i : ℕ). fact_in (get_or owners i 0) (row_in fact_columns n bytes i)) (up_to n)

-- variables, or ambients, as the code can hold them: in order, with keys below the limit
pub record Keyed (s : Structure) : Type 0 where
  pub vars_ordered : in_order compare_var s.vars ≡ true
  pub vars_below : All (λ (v : Var). v.key < max_vars) s.vars
  pub ambients_ordered : in_order compare_ambient s.ambients ≡ true
  pub ambients_below : All (λ (a : Ambient). a.typ < max_types) s.ambients
