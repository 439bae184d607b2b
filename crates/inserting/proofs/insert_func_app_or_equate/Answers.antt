-- `insert_func_app_or_equate` meets its contract.
use mathlib.Core.Path.{◌≡◌, ap, ◌∙◌}
use mathlib.Core.Bool.{false, not, ◌||◌}
use mathlib.Core.List.{List, [], ◌∷◌}
use lib.ListN.{length}
use Rattle.ids.specs.Answers.{Cause, ◌if◌, malformed, undeclared, reserved, wrong_arg_count, no_room}
use Rattle.ids.specs.Limits.{max_list}
use Rattle.ids.specs.Ids.{too_long, given_els}
use Rattle.ids.specs.Judge.{verdict_of}
use Rattle.ids.proofs.Judging.{SoFar, begin, judge, behind}
use Rattle.unification.specs.Roots.{max_els}
use Rattle.signature.specs.Model.{Sig, sig_of}
use Rattle.semantics.specs.Structure as model
use Rattle.semantics.specs.Structure.{func_app}
use Rattle.semantics.specs.Calls.{is_reserved, is_misapplied, applied_to, application_causes, apply_func, application_rule, rule, acceptance}
use Rattle.semantics.proofs.Judged.{step_refuses}
use Rattle.apps.specs.View.{func_app_of}
use Rattle.structure.specs.View.{structure_of}
use Rattle.inserting.specs.View.{given_func_app, app_declared}
use Rattle.inserting.proofs.Laws.{both_held, held_accepts, met_full, applies}
use Rattle.inserting.proofs.insert_func_app_or_equate.Goals as goal
use Rattle.inserting.proofs.insert_func_app_or_equate.Goals.{After-refuse_if-verdict-5, Start}

-- the arrays of marks and links have an entry for each element that there can be
many_marks : (c : Start) → length c.args.structure.inferred_parent_els ≡ max_els
many_marks c = c.well_formed.0.1.1.1.1.1.1.1.1.1.1.0.1.0.1

many_links : (c : Start) → length c.args.structure.unification.links ≡ max_els
many_links c = c.well_formed.0.1.1.1.1.1.1.1.0.1.1.0.1.0.1

long_parents : (c : Start) → length c.args.app.parents.ids ≡ max_list
long_parents c = c.well_formed.1.1.0.1.1.1.0.1.1.0.1.0.1

long_args : (c : Start) → length c.args.app.args.ids ≡ max_list
long_args c = c.well_formed.1.1.0.1.1.1.1.0.1.1.0.1.0.1

-- both lists are held as they were given unless one is too long
given : (c : Start) → let x = c.args.app in (too_long (given_els x.parents) || too_long (given_els x.args)) ≡ false → given_func_app x ≡ func_app_of x
given c =
    let x = c.args.app in
    both_held (λ ps xs. func_app x.func.0 ps xs x.result.0) x.parents x.args (long_parents c) (long_args c)

-- the causes behind the first
abbrev later : Sig → model.Structure → model.FuncApp → List Cause
later g s x =
    undeclared if not (app_declared g s x)
    ∷ reserved if is_reserved g x.func
    ∷ wrong_arg_count if is_misapplied x g.models
    ∷ no_room if (applied_to s x).full
    ∷ []

-- the verdict, as the causes decide it
so_far : (c : After-refuse_if-verdict-5) → let a = c.args in
    SoFar (verdict_of c.refuse_if-verdict-5.result) (application_causes (sig_of a.signature) (structure_of a.structure) (given_func_app a.app))
unfolding application_causes
so_far c =
    let a = c.args in
    let long-list = c.or-long.ensures ∙ (λ i. c.is_too_long.ensures i || c.is_too_long-2.ensures i) in
    let s1 = judge malformed begin c.refuse_if-verdict.ensures long-list in
    let s2 = judge undeclared s1 c.refuse_if-verdict-2.ensures (ap not c.app_is_declared-declared.ensures) in
    let s3 = judge reserved s2 c.refuse_if-verdict-3.ensures c.is_reserved.ensures in
    let s4 = judge wrong_arg_count s3 c.refuse_if-verdict-4.ensures c.is_misapplied.ensures in
    let met = c.insert_func_app_or_equate-applied in
    let s5 = judge no_room s4 c.refuse_if-verdict-5.ensures (met_full a.structure met.result _ met.ensures) in
    record {
      is = s5.is ∙ behind malformed _ (given_func_app a.app) (func_app_of a.app) (later (sig_of a.signature) (structure_of a.structure)) (given c.before.before.before.before.before.before.before.before.before.before.before.before.before.before.before.before.before.before.before);
    }

pub returns-in-Refused : goal.returns-in-Refused
unfolding rule application_rule
returns-in-Refused c = c.refuse.ensures _ ∙ step_refuses _ _ (so_far (goal.at.returns-in-Refused c).After-refuse_if-verdict-5) _ (ap verdict_of c.in-Refused.is)

pub returns : goal.returns
unfolding rule application_rule application_causes acceptance
returns c =
    let s = c.args.structure in
    let r = c.insert_func_app_or_equate-applied.result in
    let after = c.insert_func_app_or_equate-applied.type_inv.1.1.0.1.1.0.1.0.1 in
    held_accepts apply_func _ (so_far (goal.at.returns c).After-refuse_if-verdict-5) (ap verdict_of c.in_default.is) (λ none. given (goal.at.returns c).Start none.0) (λ none.
    applies s r _ c.insert_func_app_or_equate-applied.ensures (many_marks (goal.at.returns c).Start) (many_links (goal.at.returns c).Start) after none.1.1.1.1.0 _
    (c.accept.ensures _))
