-- What a close lends to its passes, as the definitions speak of it.
use Rattle.std.specs.Prelude.{ℕ, ◌+◌, ◌≤◌, ◌≡◌, Bool, true, false, List, map, reverse, length, take, eqb}
use Rattle.std.specs.declared.option.Option as code
use Rattle.std.specs.declared.option.Option.TheVariants.{None, Some}
use Rattle.std.proofs.Math.Option.{Option, none, some}
use Rattle.ids.specs.Sorted.{Sorted}
use Rattle.semantics.specs.Structure as model
use Rattle.semantics.specs.Structure.{fact_at, compare_fact, max_facts, max_pairs}
use Rattle.semantics.specs.Types as types
use Rattle.semantics.specs.Types.{core, any_marked}
use Rattle.facts.specs.declared.Fact.{Fact}
use Rattle.equalities.specs.declared.Pair.{Pair}
use Rattle.equalities.specs.View.{pair_of}
use Rattle.el_rows.specs.declared.El.{El}
use Rattle.el_rows.specs.View.{links_in, marks_in}
use Rattle.merging.specs.declared.Tally.{Tally}
use Rattle.rows.specs.View.{facts_in}

-- the pairs of the first n rows: that which was queued last stands first
abbrev pub pairs_in : ℕ → List Pair → List model.Pair
pairs_in n rows = reverse (map pair_of (take n rows))

-- the number first met
abbrev pub met_of : code.Option ℕ → Option ℕ
met_of None = none
met_of (Some n) = some n

-- The one place that builds the counts: the fields in their order.
abbrev pub tally : ℕ → ℕ → ℕ → Bool → Bool → code.Option ℕ → ℕ → ℕ → Tally
tally facts funcs pairs is-sorted is-marked met merges added = record {
  facts = facts;
  func_apps = funcs;
  pairs = pairs;
  is_sorted = is-sorted;
  is_marked = is-marked;
  met = met;
  merges = merges;
  added = added;
}

-- Counts replaced, the others as they were.

abbrev pub with_pairs_count : ℕ → Tally → Tally
with_pairs_count n c =
    tally c.facts c.func_apps n c.is_sorted c.is_marked c.met c.merges c.added

-- function applications and pairs
abbrev pub with_apps_and_pairs_count : ℕ → ℕ → Tally → Tally
with_apps_and_pairs_count apps ps c =
    tally c.facts apps ps c.is_sorted c.is_marked c.met c.merges c.added

-- what a merge alters: the facts, by one merge more
abbrev pub with_merge_counted : ℕ → Tally → Tally
with_merge_counted n c =
    tally n c.func_apps c.pairs c.is_sorted c.is_marked c.met (c.merges + 1) c.added

-- what an insertion alters: the facts, the additions, and the number met
abbrev pub with_insertion_counted : ℕ → ℕ → code.Option ℕ → Tally → Tally
with_insertion_counted n a m c =
    tally n c.func_apps c.pairs c.is_sorted c.is_marked m c.merges a

-- the tables that the passes alter, and the counts
pub record Lent : Type 0 where
  pub els : List El
  pub facts : List Fact
  pub pairs : List Pair
  pub counts : Tally

abbrev pub lent : List El → List Fact → List Pair → Tally → Lent
lent els facts pairs c = record { els = els; facts = facts; pairs = pairs; counts = c }

abbrev pub core_of : Lent → types.Core
core_of t =
    core (links_in t.els) (marks_in t.els) (facts_in t.counts.facts t.facts)
    (pairs_in t.counts.pairs t.pairs) t.counts.merges t.counts.added (met_of t.counts.met)

-- The tables have room for as many entries as 01 allows, as many are in use as the counts say, the facts are in order where that is said,
-- and no element is marked where none is said to be.

pub record ElsHeld (els : List El) (c : Tally) : Type 0 where
  pub unmarked : c.is_marked ≡ false → any_marked (marks_in els) ≡ false

pub record FactsHeld (facts : List Fact) (c : Tally) : Type 0 where
  pub long : length facts ≡ max_facts
  pub few : c.facts ≤ max_facts
  pub sorted : c.is_sorted ≡ true → Sorted compare_fact (facts_in c.facts facts)

pub record PairsHeld (pairs : List Pair) (c : Tally) : Type 0 where
  pub long : length pairs ≡ max_pairs
  pub few : c.pairs ≤ max_pairs

pub record LentHeld (t : Lent) : Type 0 where
  pub els_held : ElsHeld t.els t.counts
  pub facts_held : FactsHeld t.facts t.counts
  pub pairs_held : PairsHeld t.pairs t.counts

-- merges and additions counted
abbrev pub work_of : Tally → ℕ
work_of c = c.merges + c.added

-- the greatest number of a `u64`, in which merges and additions are counted
abbrev pub max_count : ℕ
max_count = 18446744073709551615

-- so many more can be counted
abbrev pub RoomToCount : ℕ → Tally → Type 0
RoomToCount most c = most + work_of c ≤ max_count

-- what no pass to which only these tables are lent alters
abbrev pub frame : Tally → ℕ
frame c = c.func_apps

-- A pass in progress, begun at `before`: it is at `now` and has counted at most `most` more; what remains to do there, `rest`, gives what
-- the whole does.
pub record Toward (before now : Lent) (most : ℕ) (rest whole : types.Core → types.Core) : Type 0 where
  pub is : rest (core_of now) ≡ whole (core_of before)
  pub holds : LentHeld now
  pub kept : frame now.counts ≡ frame before.counts
  pub count_most : work_of now.counts ≤ most + work_of before.counts

-- a pass that is done, and did what f says
abbrev pub Passes : Lent → Lent → ℕ → (types.Core → types.Core) → Type 0
Passes before after most f = Toward before after most (λ w. w) f

-- a pass to which the queue is not lent: it does what f says whatever is queued
abbrev pub PassesAnyQueue : List El → List Fact → Tally → List El → List Fact → Tally → ℕ → (types.Core → types.Core) → Type 0
PassesAnyQueue els facts c els' facts' r most f =
    (pairs : List Pair) → PairsHeld pairs c → Passes (lent els facts pairs c) (lent els' facts' pairs r) most f

-- a fact when those of `drop` go to `keep`
unfoldable pub moved_fact : ℕ → ℕ → model.Fact → model.Fact
moved_fact keep drop f = elim (eqb f.el drop) [ true ↦ fact_at keep f | false ↦ f ]
