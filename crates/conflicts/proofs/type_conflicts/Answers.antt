-- `type_conflicts` meets its contract: links and facts are read into rows, and searched there.
use mathlib.Core.Path.{◌≡◌, sym, ap, ◌∙◌}
use mathlib.Core.List.{List, map}
use native.Mathlib.Omega.{arith}
use lib.ListN.{length, take, length-take}
use lib.Seq.{length-take-le}
use Rattle.ids.specs.Answers.{first_of, decided}
use Rattle.ids.specs.Ids.{whole}
use Rattle.ids.proofs.Views.{take_same, view_clamped}
use Rattle.unification.specs.Roots.{links_of}
use Rattle.semantics.specs.Conflicts.{Conflict}
use Rattle.semantics.specs.Calls.{conflicting, Step, answers, rule, settled_by, leaves, acceptance, step_by, step}
use Rattle.facts.specs.View.{fact_of, facts_of}
use Rattle.el_rows.specs.View.{links_in}
use Rattle.structure.specs.declared.Structure as code
use Rattle.structure.specs.View.{structure_of}
use Rattle.conflicts.specs.View.{conflicts_in, finds_in}
use Rattle.conflicts.proofs.Laws.{conflicts_bare, finds_bare}
use borrow.Author.Rules.{rules}
use Rattle.conflicts.proofs.type_conflicts.Goals as goal
use Rattle.conflicts.proofs.type_conflicts.Goals.{After-find_conflicts-searched}

pub find_conflicts-searched-requires : goal.find_conflicts-searched-requires
find_conflicts-searched-requires c =
    let m = c.size-m in
    let many = c.fill_els.ensures.long ∙ length-take-le c.size-n.result _ (search (rules, c.size-n.ensures.most)) in
    (omega (arith, many, c.size-n.ensures.most), omega (arith, length-take m.result c.args.structure.els.items, m.ensures.most))

-- what is read
module _ (c : After-find_conflicts-searched) where
  abbrev given : code.Structure
  given = c.args.structure

  many : length c.fill_els.new.els ≡ c.size-n.result
  many = c.fill_els.ensures.long ∙ length-take-le c.size-n.result _ (search (rules, c.size-n.ensures.most))

  links_are : links_in c.fill_els.new.els ≡ links_of given.unification
  links_are =
      let u = given.unification in
      c.fill_els.ensures.links_are
      ∙ take_same _ u.len u.links (omega (arith, sym c.fill_els.ensures.long ∙ many, c.size-n.ensures.is, length-take u.len u.links))

  facts_are : map fact_of (take c.size-m.result given.els.items) ≡ facts_of given.els
  facts_are = view_clamped fact_of given.els.len c.size-m.result given.els.items c.size-m.ensures.is

pub returns : goal.returns
unfolding step step_by rule acceptance leaves settled_by first_of decided
returns c = λ g.
    let s = structure_of c.args.structure in
    let found = c.find_conflicts-searched.ensures in
    let searched = (goal.at.returns c).After-find_conflicts-searched in
    let all = found.0 ∙ (λ k. whole (conflicts_in (links_are searched k) (facts_are searched k))) ∙ ap (λ (l : List Conflict). whole l) (conflicts_bare s) in
    let count = found.1 ∙ (λ k. finds_in (links_are searched k) (facts_are searched k)) ∙ finds_bare s in
    let after = ap (λ (x : Step). x.after) (c.accept-stepped.ensures g) in
    λ k. record { given = answers (conflicting (all k).given (count k)) (after k); held = answers (conflicting (all k).held (count k)) (after k) }
