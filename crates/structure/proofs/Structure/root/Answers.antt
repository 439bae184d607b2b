-- `Structure::root` meets its contract.
use mathlib.Core.Path.{◌≡◌, refl, ap, ◌∙◌}
use mathlib.Core.List.{List}
use Prim.Native.Nat.{ℕ}
use lib.ListN.{length}
use Rattle.ids.specs.Answers.{Outcome}
use Rattle.unification.specs.Roots as roots
use Rattle.unification.specs.Roots.{max_els, links_of, FindM}
use Rattle.unification.proofs.Beside.{kept}
use Rattle.semantics.specs.Structure.{with_links, with_marks}
use Rattle.semantics.specs.Calls.{answers, machine, rule}
use Rattle.structure.specs.View.{structure_of}
use Rattle.structure.proofs.Laws.{finding, find_steps, root_length}
use Rattle.structure.proofs.Structure.root.Goals as goal
use Rattle.structure.proofs.Structure.root.Goals.{Start}

-- the arrays of marks and links have an entry for each element that there can be
many_marks : (c : Start) → length c.args.self.inferred_parent_els ≡ max_els
many_marks c = c.well_formed.0.1.1.1.1.1.1.1.1.1.1.0.1.0.1

many_links : (c : Start) → length c.args.self.unification.links ≡ max_els
many_links c = c.well_formed.0.1.1.1.1.1.1.1.0.1.1.0.1.0.1

pub returns : goal.returns
unfolding rule roots.root
returns c =
    let s = c.args.self in
    let found = c.root-rooted.ensures in
    let v = c.root-rooted.result.unification in
    let after = c.root-rooted.type_inv.1.1.1.0.1.1.0.1.0.1 in
    let many : length (links_of v) ≡ length (links_of s.unification) =
    ap (λ (o : Outcome FindM (List ℕ)). length o.after) found ∙ root_length _ _ in
    let marked = kept s.unification v _ (many_marks (goal.at.returns c).Start) (many_links (goal.at.returns c).Start) after many in
    let answer = finding c.root-rooted.result.find (ap (λ (o : Outcome FindM (List ℕ)). o.answer) found) in
    λ g. (λ i. answers (answer i) (machine g (with_links (found i).after (with_marks (marked i) (structure_of s))))) ∙ find_steps g (structure_of s) c.args.el.0 _ _ refl
