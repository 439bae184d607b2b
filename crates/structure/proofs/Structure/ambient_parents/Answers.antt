-- `Structure::ambient_parents` meets its contract.
use mathlib.Core.Path.{◌≡◌, sym, ap, ◌∙◌}
use mathlib.Core.Bool.{not}
use mathlib.Core.List.{List, [], ◌∷◌}
use Prim.Native.Nat.{ℕ}
use lib.ListN.{length}
use borrow.Author.Tests.{not-false}
use Rattle.ids.specs.Answers.{◌if◌, malformed, undeclared, no_ambient}
use Rattle.ids.specs.Limits.{max_list}
use Rattle.ids.specs.Ids.{types_of, given_types}
use Rattle.ids.specs.Judge.{verdict_of}
use Rattle.ids.proofs.Judging.{SoFar, begin, judge, as_given}
use Rattle.ids.proofs.Lists.{held_types}
use Rattle.signature.specs.Model.{sig_of}
use Rattle.signature.specs.Calls.{are_types}
use Rattle.semantics.specs.Calls as calls
use Rattle.semantics.specs.Calls.{have_ambients, ambient_els, ambient_parents_causes, answers, machine, refusal, rule, acceptance, leaves, settled_by}
use Rattle.semantics.proofs.Judged.{step_refuses, step_accepts}
use Rattle.structure.specs.View.{structure_of, beside, looking}
use Rattle.structure.proofs.Laws.{none_given}
use Rattle.structure.proofs.Structure.ambient_parents.Goals as goal
use Rattle.structure.proofs.Structure.ambient_parents.Goals.{After-refuse_if-verdict-3, Start}

long_types : (c : Start) → length c.args.types.ids ≡ max_list
long_types c = c.well_formed.1.1.0.1.1.0.1.0.1

-- the verdict, as the causes decide it: the list is judged as it is held, which is as it was given unless it is too long
so_far : (c : After-refuse_if-verdict-3) → let a = c.args in
    SoFar (verdict_of c.refuse_if-verdict-3.result) (ambient_parents_causes (sig_of a.signature) (structure_of a.self) (given_types a.types))
unfolding ambient_parents_causes
so_far c =
    let a = c.args in
    let s1 = judge malformed begin c.refuse_if-verdict.ensures c.is_too_long.ensures in
    let s2 = judge undeclared s1 c.refuse_if-verdict-2.ensures (ap not c.are_types.ensures) in
    let s3 = judge no_ambient s2 c.refuse_if-verdict-3.ensures (ap not c.ambient_els-found.ensures.all) in
    record {
      is = s3.is ∙ as_given malformed (given_types a.types) (types_of a.types) (λ ts.
          undeclared if not (are_types (sig_of a.signature) ts) ∷ no_ambient if not (have_ambients ts (structure_of a.self).ambients) ∷ [])
          (held_types a.types (long_types c.before.before.before.before.before.before.before.before));
    }

pub returns-in-Refused : goal.returns-in-Refused
unfolding rule
returns-in-Refused c =
    let a = c.args in
    let m = machine (sig_of a.signature) (structure_of a.self) in
    let none = none_given c.new.result (c.new.type_inv.1.1.0.1.0.1) c.new.ensures in
    ap (beside (refusal m _)) none ∙ ap looking (step_refuses _ m (so_far (goal.at.returns-in-Refused c).After-refuse_if-verdict-3) _ (ap verdict_of c.in-Refused.is))

pub returns : goal.returns
unfolding rule ambient_parents_causes acceptance leaves settled_by
returns c =
    let a = c.args in
    let l = (structure_of a.self).ambients in
    let found = c.ambient_els-found.ensures in
    ap looking (step_accepts _ _ (so_far (goal.at.returns c).After-refuse_if-verdict-3) (ap verdict_of c.in_default.is) (λ none.
    let held = sym (held_types a.types (long_types (goal.at.returns c).Start) none.0) in
    let all = found.all ∙ ap (λ (ts : List ℕ). have_ambients ts l) held ∙ not-false _ none.1.1.0 in
    let els = found.els all ∙ ap (λ (ts : List ℕ). ambient_els ts l) held in
    λ i. answers (calls.els (els i)) (machine (sig_of a.signature) (structure_of a.self))))
