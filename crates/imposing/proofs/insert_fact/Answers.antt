-- `insert_fact` meets its contract.
use mathlib.Core.Path.{◌≡◌, refl, sym, ap, ◌∙◌}
use native.Mathlib.Omega.{arith}
use Rattle.ids.specs.Table.{position_from}
use Rattle.ids.specs.declared.Place.TheVariants.{Before}
use Rattle.semantics.specs.Structure.{compare_fact}
use Rattle.facts.specs.View.{fact_of}
use Rattle.merging.specs.View.{met_of}
use Rattle.ids.specs.Answers.{too_many_facts}
use Rattle.merging.proofs.Laws.{met_first}
use Rattle.imposing.proofs.Laws.{known, place_most, no_room_lem, has_room}
use Rattle.imposing.proofs.insert_fact.Goals as goal
use Rattle.imposing.proofs.insert_fact.Goals.{In-Before}
use Rattle.rows.specs.View.{facts_in}

-- where the fact goes, when it is not there
place : (c : In-Before) →
    let a = c.args in
    position_from compare_fact (fact_of a.fact) 0 (facts_in a.counts.facts a.facts.now) ≡ Before c.in-Before.at
place c = sym c.search.ensures ∙ c.in-Before.is

pub slice_bounds-search-end : goal.slice_bounds-search-end
slice_bounds-search-end c = let held = c.requires.0 in omega (arith, held.few, held.long)

pub search-requires : goal.search-requires
search-requires c = c.requires.0.sorted

pub returns-in_default : goal.returns-in_default
returns-in_default c =
    known _ _ _ c.requires.0 _ (sym c.search.ensures ∙ c.in_default.is)

pub returns-then-n-ge-MAX_LEN : goal.returns-then-n-ge-MAX_LEN
returns-then-n-ge-MAX_LEN c =
    no_room_lem _ _ _ c.requires.0 _ (place (goal.at.returns-then-n-ge-MAX_LEN c).In-Before) _ c.if-n-ge-MAX_LEN.true
    (ap met_of c.or-next.ensures ∙ met_first too_many_facts c.args.counts.met)

pub place-requires : goal.place-requires
place-requires c =
    let held = c.requires.0 in
    (place_most _ _ _ held _ (place (goal.at.place-requires c).In-Before), omega (arith, c.if-n-ge-MAX_LEN.false, held.long))

pub returns : goal.returns
returns c =
    has_room _ _ _ c.requires.0 _ (place (goal.at.returns c).In-Before) _ _ c.if-n-ge-MAX_LEN.false refl c.place.ensures
