-- The elements of a close as the definitions speak of them.
use Rattle.std.specs.Prelude.{ℕ, ◌≤◌, ◌≡◌, Bool, List, map, length, take}
use Rattle.unification.specs.Roots.{root_of, short_of, merged_of}
use Rattle.semantics.specs.Structure.{Fact, max_facts}
use Rattle.semantics.specs.Types.{any_marked, merged_marks, concrete_types_of}
use Rattle.facts.specs.declared.Fact as code
use Rattle.rows.specs.View.{facts_in}
use Rattle.el_rows.specs.declared.El.{El}

abbrev pub link_in : El → ℕ
link_in e = e.link

abbrev pub mark_in : El → Bool
mark_in e = e.marked

abbrev pub links_in : List El → List ℕ
links_in els = map link_in els

abbrev pub marks_in : List El → List Bool
marks_in els = map mark_in els

-- a path shortened, from e to its root
pub record Shortened (e : ℕ) (before after : List El) (root : ℕ) : Type 0 where
  pub is : root ≡ root_of (links_in before) e
  pub links : links_in after ≡ short_of (links_in before) e
  pub marks : marks_in after ≡ marks_in before
  pub long : length after ≡ length before

-- two roots merged, with their marks
pub record Merged (keep drop : ℕ) (before after : List El) : Type 0 where
  pub links : links_in after ≡ merged_of (links_in before) keep drop
  pub marks : marks_in after ≡ merged_marks (marks_in before) keep drop
  pub long : length after ≡ length before

-- the elements hold the first of some links and marks
pub record ElsInRows (links : List ℕ) (marks : List Bool) (before after : List El) (some-marked : Bool) : Type 0 where
  pub links_are : links_in after ≡ take (length before) links
  pub marks_are : marks_in after ≡ take (length before) marks
  pub some_is : some-marked ≡ any_marked (take (length before) marks)
  pub long : length after ≡ length before

-- the first r rows are the types of an element
pub record TypesOf (ls : List ℕ) (fs : List Fact) (e : ℕ) (types : List code.Fact) (r : ℕ) : Type 0 where
  pub is : facts_in r types ≡ concrete_types_of ls fs e
  pub most : r ≤ max_facts
  pub long : length types ≡ max_facts
