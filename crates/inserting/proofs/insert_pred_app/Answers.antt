-- `insert_pred_app` meets its contract.
use mathlib.Core.Path.{◌≡◌, ap, ◌∙◌}
use mathlib.Core.Bool.{false, not, ◌&&◌, ◌||◌}
use mathlib.Core.List.{List, [], ◌∷◌}
use lib.ListN.{length}
use lib.Dec.{leb}
use Rattle.ids.specs.Answers.{Cause, ◌if◌, malformed, undeclared, no_room}
use Rattle.ids.specs.Limits.{max_list}
use Rattle.ids.specs.Ids.{too_long, given_els}
use Rattle.ids.specs.Judge.{verdict_of}
use Rattle.ids.specs.Table.{Insertion, present}
use Rattle.ids.proofs.Judging.{SoFar, begin, judge, behind}
use Rattle.ids.proofs.Tables.{insert_needs, insert_made}
use Rattle.signature.specs.Model.{Sig, sig_of}
use Rattle.semantics.specs.Structure as model
use Rattle.semantics.specs.Structure.{pred_app, compare_pred_app, max_pred_apps, with_pred_apps}
use Rattle.semantics.specs.Calls.{predication_causes, with_pred_app, apply_pred, says, rule, acceptance}
use Rattle.semantics.proofs.Judged.{step_refuses}
use Rattle.apps.specs.View.{pred_app_of}
use Rattle.structure.specs.View.{structure_of}
use Rattle.structure.proofs.Laws.{accepts}
use Rattle.inserting.specs.View.{given_pred_app, pred_app_declared}
use Rattle.inserting.proofs.Laws.{both_held, held_accepts}
use Rattle.inserting.proofs.insert_pred_app.Goals as goal
use Rattle.inserting.proofs.insert_pred_app.Goals.{After-refuse_if-verdict-3, Start}

long_parents : (c : Start) → length c.args.app.parents.ids ≡ max_list
long_parents c = c.well_formed.1.1.0.1.1.1.0.1.1.0.1.0.1

long_args : (c : Start) → length c.args.app.args.ids ≡ max_list
long_args c = c.well_formed.1.1.0.1.1.1.1.0.1.1.0.1.0.1

-- both lists are held as they were given unless one is too long
given : (c : Start) → let x = c.args.app in (too_long (given_els x.parents) || too_long (given_els x.args)) ≡ false → given_pred_app x ≡ pred_app_of x
given c = let x = c.args.app in both_held (pred_app x.pred.0) x.parents x.args (long_parents c) (long_args c)

-- the causes behind the first
abbrev later : Sig → model.Structure → model.PredApp → List Cause
later g s x =
    undeclared if not (pred_app_declared g s x)
    ∷ no_room if (not (present compare_pred_app x s.pred_apps) && leb max_pred_apps (length s.pred_apps))
    ∷ []

-- the verdict, as the causes decide it
so_far : (c : After-refuse_if-verdict-3) → let a = c.args in
    SoFar (verdict_of c.refuse_if-verdict-3.result) (predication_causes (sig_of a.signature) (structure_of a.structure) (given_pred_app a.app))
unfolding predication_causes
so_far c =
    let a = c.args in
    let long-list = c.or-long.ensures ∙ (λ i. c.is_too_long.ensures i || c.is_too_long-2.ensures i) in
    let full = ap (λ (r : Insertion model.PredApp). r.full) c.insert-inserted.ensures.0 ∙ insert_needs _ _ _ _ in
    let s1 = judge malformed begin c.refuse_if-verdict.ensures long-list in
    let s2 = judge undeclared s1 c.refuse_if-verdict-2.ensures (ap not c.pred_app_is_declared-declared.ensures) in
    let s3 = judge no_room s2 c.refuse_if-verdict-3.ensures full in
    record {
      is = s3.is ∙ behind malformed _ (given_pred_app a.app) (pred_app_of a.app) (later (sig_of a.signature) (structure_of a.structure)) (given c.before.before.before.before.before.before.before.before.before.before.before);
    }

pub returns-in-Refused : goal.returns-in-Refused
unfolding rule
returns-in-Refused c = c.refuse.ensures _ ∙ step_refuses _ _ (so_far (goal.at.returns-in-Refused c).After-refuse_if-verdict-3) _ (ap verdict_of c.in-Refused.is)

pub returns : goal.returns
unfolding rule predication_causes acceptance with_pred_app
returns c =
    let s = c.args.structure in
    held_accepts apply_pred _ (so_far (goal.at.returns c).After-refuse_if-verdict-3) (ap verdict_of c.in_default.is) (λ none. given (goal.at.returns c).Start none.0) (λ none.
    let grown = c.insert-inserted.ensures.0 ∙ insert_made compare_pred_app _ max_pred_apps _ (insert_needs _ _ _ _ ∙ none.1.1.0) in
    accepts _ (c.accept.ensures _) (λ i. says (grown i).grew) (λ i. with_pred_apps (grown i).items (structure_of s)))
