-- Conflicts as the definitions speak of them.
use Rattle.std.specs.Prelude.{ℕ, ◌≤◌, ◌<◌, ◌≡◌, List, [], map, length, take, drop, get_or}
use Rattle.ids.specs.Limits.{max_list}
use Rattle.ids.specs.Ids.{padded, Handed}
use Rattle.signature.specs.Model.{Sig}
use Rattle.semantics.specs.Structure.{Fact, fact, empty, with_links, with_facts}
use Rattle.semantics.specs.Types.{facts_at}
use Rattle.semantics.specs.Conflicts.{Conflict, conflict, type_conflicts_of, conflict_finds}
use Rattle.semantics.specs.Calls.{conflicting, Step, answers, machine}
use Rattle.unification.specs.Roots.{max_els, root_of}
use Rattle.facts.specs.declared.Fact as code
use Rattle.facts.specs.View.{fact_of, given_fact}
use Rattle.structure.specs.View.{structure_of}
use Rattle.conflicts.specs.declared.FactRange.{FactRange}
use Rattle.conflicts.specs.declared.TypeConflict.{TypeConflict}
use Rattle.conflicts.specs.declared.TypeConflicts.{TypeConflicts}
use Rattle.conflicts.specs.declared.Conflicting.{Conflicting}
use Rattle.rows.specs.View.{facts_in}

abbrev pub conflict_of : TypeConflict → Conflict
conflict_of c = conflict c.el.0 (fact_of c.a) (fact_of c.b)

abbrev pub conflicts_of : TypeConflicts → List Conflict
conflicts_of t = map conflict_of (take t.len t.items)

-- the same with the lengths that the lists say
abbrev pub given_conflict : TypeConflict → Conflict
given_conflict c = conflict c.el.0 (given_fact c.a) (given_fact c.b)

-- what stands for a conflict past the end of the array
abbrev pub no_conflict : Conflict
no_conflict = conflict 0 (fact 0 0 []) (fact 0 0 [])

abbrev pub given_conflicts : TypeConflicts → List Conflict
given_conflicts t = padded no_conflict t.len (map given_conflict t.items)

abbrev pub handed_fact : code.Fact → Handed Fact
handed_fact f = record { given = given_fact f; held = fact_of f }

abbrev pub handed_conflict : TypeConflict → Handed Conflict
handed_conflict c = record { given = given_conflict c; held = conflict_of c }

abbrev pub handed_conflicts : TypeConflicts → Handed (List Conflict)
handed_conflicts t = record { given = given_conflicts t; held = conflicts_of t }

-- the conflicts and the finds read links and facts only
unfoldable pub conflicts_in : List ℕ → List Fact → List Conflict
conflicts_in ls fs = type_conflicts_of (with_links ls (with_facts fs empty))

unfoldable pub finds_in : List ℕ → List Fact → ℕ
finds_in ls fs = conflict_finds (with_links ls (with_facts fs empty))

-- the roots of the parents of a fact, a find for each
pub record ParentsFound (ls : List ℕ) (f : Fact) (roots : List ℕ) (finds : ℕ) : Type 0 where
  pub are : roots ≡ map (root_of ls) f.parents
  pub each : finds ≡ length f.parents
  pub few : finds ≤ max_list

-- where the facts of an element stand among the first m of some facts: none before the first number, none from the second on (`from` is
-- what the next turn of the loop needs, which replaces the second); the third says how many there are
pub record Span (facts : List code.Fact) (m el : ℕ) (span : FactRange) : Type 0 where
  pub first_within : span.first ≤ m
  pub last_within : span.end ≤ m
  pub ordered : span.first ≤ span.end
  pub from : facts_at el (drop span.first (facts_in m facts)) ≡ facts_at el (facts_in m facts)
  pub between : facts_at el (drop span.first (facts_in span.end facts)) ≡ facts_at el (facts_in m facts)
  pub count : span.count ≡ length (facts_at el (facts_in m facts))

-- what stands for a span past the last element
abbrev pub no_span : FactRange
no_span = record { first = 0; end = 0; count = 0 }

pub record Spans (facts : List code.Fact) (m : ℕ) (spans : List FactRange) : Type 0 where
  pub long : length spans ≡ max_els
  pub each : (el : ℕ) → el < max_els → Span facts m el (get_or spans el no_span)

-- the step of a machine whose signature is g, with the conflicts as they are given
abbrev pub given_conflicting : Sig → Conflicting → Step
given_conflicting g r = answers (conflicting (given_conflicts r.conflicts) r.finds) (machine g (structure_of r.structure))

-- as they are held
abbrev pub held_conflicting : Sig → Conflicting → Step
held_conflicting g r = answers (conflicting (conflicts_of r.conflicts) r.finds) (machine g (structure_of r.structure))

-- both
abbrev pub handed_conflicting : Sig → Conflicting → Handed Step
handed_conflicting g r = record { given = given_conflicting g r; held = held_conflicting g r }
