-- `Structure::root_const` meets its contract.
use mathlib.Core.Path.{refl, ap, ◌∙◌}
use mathlib.Core.List.{List}
use Prim.Native.Nat.{ℕ}
use Rattle.ids.specs.Answers.{Outcome}
use Rattle.unification.specs.Roots.{FindM, root_const}
use Rattle.semantics.specs.Structure.{with_links}
use Rattle.semantics.specs.Calls.{answers, machine, rule}
use Rattle.structure.specs.View.{structure_of}
use Rattle.structure.proofs.Laws.{finding, find_steps}
use Rattle.structure.proofs.Structure.root_const.Goals as goal

pub returns : goal.returns
unfolding rule root_const
returns c =
    let a = c.args in
    let found = c.root_const.ensures in
    let answer = finding c.root_const.result (ap (λ (o : Outcome FindM (List ℕ)). o.answer) found) in
    λ g. (λ i. answers (answer i) (machine g (with_links (found i).after (structure_of a.self)))) ∙ find_steps g _ a.el.0 _ _ refl
