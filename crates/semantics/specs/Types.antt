-- Merges, and facts imposed (01, "Element types").
use Rattle.std.specs.Prelude.{ℕ, suc, ◌+◌, ◌-◌, min, max, Bool, true, false, not, ◌&&◌, ◌||◌, List, [], ◌∷◌, length, get_or, set, eqb, ltb}
use Rattle.std.proofs.Math.Option.{Option, none, some}
use Rattle.ids.specs.Answers.{too_many_facts}
use Rattle.ids.specs.Table.{present, placed, rewrite_into}
use Rattle.unification.specs.Roots.{root_of, merged_of}
use Rattle.semantics.specs.Structure.{Fact, Pair, pair, compare_fact, fact_at, canonical_fact, max_facts}

-- The part of the structure that merges, imposed facts and the laws of maps alter, with what a close counts in it.
pub record Core : Type 0 where
  pub links : List ℕ
  pub marks : List Bool
  pub facts : List Fact
  pub pairs : List Pair
  -- "merges (queued pairs whose roots differed when drained)"
  pub merges : ℕ
  -- "facts added" (02, M-106): the insertions made by imposing that enlarged a set
  pub added : ℕ
  -- the number first met, which refuses the close
  pub met : Option ℕ

-- The one place that builds a core: the fields in their order.
abbrev pub core : List ℕ → List Bool → List Fact → List Pair → ℕ → ℕ → Option ℕ → Core
core ls ms fs ps m a n = record { links = ls; marks = ms; facts = fs; pairs = ps; merges = m; added = a; met = n }

-- Fields replaced, the others as they were.

abbrev pub with_links : List ℕ → Core → Core
with_links x w = core x w.marks w.facts w.pairs w.merges w.added w.met

abbrev pub with_marks : List Bool → Core → Core
with_marks x w = core w.links x w.facts w.pairs w.merges w.added w.met

abbrev pub with_pairs : List Pair → Core → Core
with_pairs x w = core w.links w.marks w.facts x w.merges w.added w.met

-- another link table, other marks and other facts, by one merge more
abbrev pub with_merge : List ℕ → List Bool → List Fact → Core → Core
with_merge ls ms fs w = core ls ms fs w.pairs (suc w.merges) w.added w.met

-- other facts, by one insertion more
abbrev pub with_added : List Fact → Core → Core
with_added fs w = core w.links w.marks fs w.pairs w.merges (suc w.added) w.met

-- the number first met stays
abbrev pub first_met : ℕ → Option ℕ → Option ℕ
first_met n o = elim o [ none ↦ some n | some m ↦ some m ]

-- a number is met
abbrev pub with_met : ℕ → Core → Core
with_met n w = core w.links w.marks w.facts w.pairs w.merges w.added (first_met n w.met)

abbrev pub marked : List Bool → ℕ → Bool
marked ms e = get_or ms e false

-- some element is marked
unfoldable pub any_marked : List Bool → Bool
any_marked [] = false
any_marked (m ∷ ms) = m || any_marked ms

-- "After a merge the mark remains only if both roots had it."
unfoldable pub merged_marks : List Bool → ℕ → ℕ → List Bool
merged_marks ms keep drop = set (set ms keep (marked ms keep && marked ms drop)) drop false

-- the facts of the element `drop` go to `keep`
unfoldable pub moved_facts : ℕ → ℕ → List Fact → List Fact
moved_facts keep drop fs = rewrite_into compare_fact (λ f. elim (eqb f.el drop) [ true ↦ fact_at keep f | false ↦ f ]) fs []

-- "A merge links the larger root to the smaller": `drop` to `keep`
unfoldable pub merge : ℕ → ℕ → Core → Core
merge keep drop w = with_merge (merged_of w.links keep drop) (merged_marks w.marks keep drop) (moved_facts keep drop w.facts) w

-- a pair drained: where its two roots differ they are merged
unfoldable pub join_roots : ℕ → ℕ → Core → Core
join_roots a b w = elim (eqb a b) [ true ↦ w | false ↦ merge (min a b) (max a b) w ]

unfoldable pub join : Pair → Core → Core
join p w = join_roots (root_of w.links p.lhs) (root_of w.links p.rhs) w

-- "drain (last pair first)"
unfoldable pub drain_pairs : List Pair → Core → Core
drain_pairs [] w = w
drain_pairs (p ∷ ps) w = drain_pairs ps (join p w)

unfoldable pub drain : Core → Core
drain w = drain_pairs w.pairs (with_pairs [] w)

-- the facts that are stored at an element
unfoldable pub facts_at : ℕ → List Fact → List Fact
facts_at e [] = []
facts_at e (f ∷ fs) = elim (eqb f.el e) [ true ↦ f ∷ facts_at e fs | false ↦ facts_at e fs ]

-- "`concrete_types_of` gives them with parents as roots, duplicates dropped."
unfoldable pub concrete_types_of : List ℕ → List Fact → ℕ → List Fact
concrete_types_of ls fs e = rewrite_into compare_fact (canonical_fact ls) (facts_at (root_of ls e) fs) []

-- To impose a fact.

-- "Where two roots differ and either is marked, `equate` them and drain the whole queue at once." Both are roots, so that `equate` shortens
-- no path and queues the pair (`equate_roots`, proofs/Equating).
unfoldable pub refine_roots : ℕ → ℕ → Core → Core
refine_roots a b w =
    elim (not (eqb a b) && (marked w.marks a || marked w.marks b)) [
      | true ↦ drain (with_pairs (pair a b ∷ w.pairs) w)
      | false ↦ w
    ]

unfoldable pub refine : ℕ → ℕ → Core → Core
refine a b w = refine_roots (root_of w.links a) (root_of w.links b) w

-- "pair parents up to the shorter length"
unfoldable pub refine_parents : List ℕ → List ℕ → Core → Core
refine_parents [] qs w = w
refine_parents (p ∷ ps) [] w = w
refine_parents (p ∷ ps) (q ∷ qs) w = refine_parents ps qs (refine p q w)

-- "For each of the same type"
unfoldable pub refine_all : List Fact → Fact → Core → Core
refine_all [] f w = w
refine_all (g ∷ gs) f w =
    refine_all gs f (elim (eqb g.typ f.typ) [ true ↦ refine_parents g.parents f.parents w | false ↦ w ])

-- "Then insert the fact": number 11 is judged here, after the merges
unfoldable pub insert_fact : Fact → Core → Core
insert_fact f w =
    elim (present compare_fact f w.facts) [
      | true ↦ w
      | false ↦ elim (ltb (length w.facts) max_facts) [ true ↦ with_added (placed compare_fact f w.facts) w | false ↦ with_met too_many_facts w ]
    ]

-- "parents as roots, at the root"
unfoldable pub insert_canonical : Fact → Core → Core
insert_canonical f w = insert_fact (canonical_fact w.links f) w

-- "To impose a fact: take `concrete_types_of` once. .."
unfoldable pub impose : Fact → Core → Core
impose f w = insert_canonical f (refine_all (concrete_types_of w.links w.facts f.el) f w)

-- "Imposing a fact answers two counts, merges made and facts added, in place of yes or no." (02, M-106) A core counts both on, so that the answer of
-- what was imposed between two cores is by how much they grew.
pub record Growth : Type 0 where
  pub merges : ℕ
  pub added : ℕ

abbrev pub grown : ℕ → ℕ → Growth
grown merges added = record { merges = merges; added = added }

unfoldable pub growth : Core → Core → Growth
growth before after = grown (after.merges - before.merges) (after.added - before.added)

-- the Rust's yes, "if a merge happened or the set grew": one of the two is not zero (`grew_growth`, history/proofs/Imposing)
unfoldable pub grew : Core → Core → Bool
grew before after = ltb (before.merges + before.added) (after.merges + after.added)

unfoldable pub impose_all : List Fact → Core → Core
impose_all [] w = w
impose_all (f ∷ fs) w = impose_all fs (impose f w)
