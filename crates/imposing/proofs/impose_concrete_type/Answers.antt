-- `impose_concrete_type` meets its contract: the types are refined, then the fact is inserted as roots.
use mathlib.Core.Path.{ap}
use native.Mathlib.Omega.{arith}
use Rattle.semantics.specs.Types.{insert_canonical, impose, growth}
use Rattle.facts.specs.View.{fact_of}
use Rattle.merging.specs.View.{lent, core_of}
use Rattle.merging.proofs.Laws.{room_left, does, follows}
use Rattle.imposing.specs.Bounds.{one_imposed}
use Rattle.imposing.proofs.Laws.{inserted_canonical, imposed}
use Rattle.imposing.proofs.impose_concrete_type.Goals as goal

pub refine_types-refined-requires : goal.refine_types-refined-requires
refine_types-refined-requires c =
    (c.requires.0, omega (arith, c.requires.1))

pub insert_fact-requires : goal.insert_fact-requires
insert_fact-requires c =
    (c.refine_types-refined.ensures.holds.facts_held, room_left c.refine_types-refined.ensures 1 c.requires.1 (omega arith))

pub returns : goal.returns
unfolding growth
returns c =
    let f = fact_of c.args.fact in
    let now = lent c.refine_types-refined.new.els c.refine_types-refined.new.facts c.args.pairs.now c.refine_types-refined.result in
    let h = c.refine_types-refined.ensures.holds in
    let insertion =
    does {limit = 1} {f = insert_canonical f} (c.insert_fact.ensures _ _ h.els_held h.pairs_held) (omega arith)
    (inserted_canonical f (core_of now) c.canonical_fact-entry.ensures) in
    let before = lent c.args.els.now c.args.facts.now c.args.pairs.now c.args.counts in
    let passes = does {limit = one_imposed} {f = impose f} (follows c.refine_types-refined.ensures insertion) (omega arith) (imposed f (core_of before)) in
    record { passes = passes; answers = ap (growth (core_of before)) passes.is }
