-- `push_type` meets its contract.
use mathlib.Core.Path.{◌≡◌, refl, sym, ap, ◌∙◌}
use mathlib.Core.Bool.{false, not, ◌&&◌}
use lib.ListN.{length, drop}
use lib.Dec.{leb}
use Rattle.ids.specs.Limits.{max_list}
use Rattle.ids.specs.Answers.{refusing, outcome, malformed, too_late, undeclared, wrong_kind, no_room}
use Rattle.ids.specs.Ids.{given_types, too_long}
use Rattle.ids.specs.Judge.{verdict_of}
use Rattle.ids.proofs.Judging.{SoFar, begin, judge, behind, refused_by}
use Rattle.ids.proofs.Views.{long}
use Rattle.ids.proofs.Lists.{held_types}
use Rattle.signature.specs.Model.{max_types, kind_of, type_entry, sig_of, type_of, given_type, with_types}
use Rattle.signature.specs.Calls.{type_causes, with_type, push_type}
use Rattle.declarations.proofs.Laws.{appends}
use borrow.Author.Rules.{rules}
use Rattle.declarations.proofs.push_type.Goals as goal
use Rattle.declarations.proofs.push_type.Goals.{After-refuse_if-verdict-5, Start}

-- the type is held as it was given
held : (c : Start) → let t = c.args.t in too_long (given_types t.parents) ≡ false → given_type t ≡ type_of t
held c short =
    let t = c.args.t in
    let parents-long : length t.parents.ids ≡ max_list = search (rules, long) in
    λ k. type_entry (kind_of t.kind) (held_types t.parents parents-long short k)

-- the verdict, as the causes decide it
so_far : (c : After-refuse_if-verdict-5) → let a = c.args in
    SoFar (verdict_of c.refuse_if-verdict-5.result) (type_causes a.started (sig_of a.signature) (given_type a.t))
unfolding type_causes
so_far c =
    let a = c.args in
    let known = c.and-named.ensures ∙ (λ i. c.are_types.ensures i && c.model_is_declared.ensures i) in
    let s1 = judge malformed begin c.refuse_if-verdict.ensures c.is_too_long.ensures in
    let s2 = judge too_late s1 c.refuse_if-verdict-2.ensures refl in
    let s3 = judge undeclared s2 c.refuse_if-verdict-3.ensures (ap not known) in
    let s4 = judge wrong_kind s3 c.refuse_if-verdict-4.ensures (ap not c.model_is_model.ensures) in
    let s5 = judge no_room s4 c.refuse_if-verdict-5.ensures (ap (leb max_types) c.size-n.ensures.is) in
    record { is = s5.is ∙ behind malformed _ _ _ (λ x. drop 1 (type_causes a.started (sig_of a.signature) x)) (held c.before.before.before.before.before.before.before.before.before.before.before.before.before) }

pub returns-in-Refused : goal.returns-in-Refused
unfolding push_type outcome
returns-in-Refused c = refused_by (refusing _) _ (so_far (goal.at.returns-in-Refused c).After-refuse_if-verdict-5) _ (ap verdict_of c.in-Refused.is)

pub returns : goal.returns
unfolding push_type with_type with_types type_causes
returns c =
    let a = c.args in
    let g = sig_of a.signature in
    appends max_types g.types (given_type a.t) (with_types g) g (so_far (goal.at.returns c).After-refuse_if-verdict-5) (ap verdict_of c.in_default.is)
    c.size-n.ensures.is c.push-next.ensures.0 (λ none. (none.1.1.1.1.0, sym (held (goal.at.returns c).Start none.0)))
