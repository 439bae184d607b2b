-- `push_func` meets its contract.
use mathlib.Core.Path.{◌≡◌, refl, sym, ap, ◌∙◌}
use mathlib.Core.Bool.{false, not, ◌&&◌, ◌||◌}
use lib.ListN.{length, drop}
use lib.Dec.{leb}
use Rattle.ids.specs.Limits.{max_list}
use Rattle.ids.specs.Answers.{refusing, outcome, malformed, too_late, undeclared, no_room}
use Rattle.ids.specs.Ids.{given_types, too_long}
use Rattle.ids.specs.Judge.{verdict_of}
use Rattle.ids.proofs.Answers.{neither}
use Rattle.ids.proofs.Judging.{SoFar, begin, judge, behind, refused_by}
use Rattle.ids.proofs.Views.{long}
use Rattle.ids.proofs.Lists.{held_types}
use Rattle.signature.specs.Model.{max_funcs, func_entry, sig_of, func_of, given_func, with_funcs}
use Rattle.signature.specs.Calls.{func_causes, with_func, push_func}
use Rattle.declarations.proofs.Laws.{appends}
use borrow.Author.Rules.{rules}
use Rattle.declarations.proofs.push_func.Goals as goal
use Rattle.declarations.proofs.push_func.Goals.{After-refuse_if-verdict-4, Start}

-- the function is held as it was given
held : (c : Start) → let f = c.args.f in
    (too_long (given_types f.parents) || too_long (given_types f.domain)) ≡ false → given_func f ≡ func_of f
held c short =
    let f = c.args.f in
    let parents-long : length f.parents.ids ≡ max_list = search (rules, long) in
    let domain-long : length f.domain.ids ≡ max_list = search (rules, long) in
    let both = neither _ _ short in
    λ k. func_entry (held_types f.parents parents-long both.0 k) (held_types f.domain domain-long both.1 k) f.codomain.0

-- the verdict, as the causes decide it
so_far : (c : After-refuse_if-verdict-4) → let a = c.args in
    SoFar (verdict_of c.refuse_if-verdict-4.result) (func_causes a.started (sig_of a.signature) (given_func a.f))
unfolding func_causes
so_far c =
    let others-known = c.and-known.ensures ∙ (λ i. c.are_types.ensures i && c.is_type.ensures i) in
    let known = c.and-known-2.ensures ∙ (λ i. c.are_types-2.ensures i && others-known i) in
    let too_long = c.or-long.ensures ∙ (λ i. c.is_too_long.ensures i || c.is_too_long-2.ensures i) in
    let a = c.args in
    let s1 = judge malformed begin c.refuse_if-verdict.ensures too_long in
    let s2 = judge too_late s1 c.refuse_if-verdict-2.ensures refl in
    let s3 = judge undeclared s2 c.refuse_if-verdict-3.ensures (ap not known) in
    let s4 = judge no_room s3 c.refuse_if-verdict-4.ensures (ap (leb max_funcs) c.size-n.ensures.is) in
    record { is = s4.is ∙ behind malformed _ _ _ (λ x. drop 1 (func_causes a.started (sig_of a.signature) x)) (held c.before.before.before.before.before.before.before.before.before.before.before.before.before.before.before.before.before) }

pub returns-in-Refused : goal.returns-in-Refused
unfolding push_func outcome
returns-in-Refused c = refused_by (refusing _) _ (so_far (goal.at.returns-in-Refused c).After-refuse_if-verdict-4) _ (ap verdict_of c.in-Refused.is)

pub returns : goal.returns
unfolding push_func with_func with_funcs func_causes
returns c =
    let a = c.args in
    let g = sig_of a.signature in
    appends max_funcs g.funcs (given_func a.f) (with_funcs g) g (so_far (goal.at.returns c).After-refuse_if-verdict-4) (ap verdict_of c.in_default.is)
    c.size-n.ensures.is c.push-next.ensures.0 (λ none. (none.1.1.1.0, sym (held (goal.at.returns c).Start none.0)))
