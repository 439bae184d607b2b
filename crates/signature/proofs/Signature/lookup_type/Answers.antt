-- `Signature::lookup_type` meets its contract.
use mathlib.Core.Path.{◌≡◌, sym, ap, ◌∙◌}
use mathlib.Core.Bool.{not}
use Rattle.ids.specs.Answers.{accepted, malformed, undeclared}
use Rattle.ids.specs.Judge.{verdict_of}
use Rattle.ids.specs.Ids.{given_els}
use lib.ListN.{length}
use Rattle.ids.proofs.Judging.{SoFar, begin, judge, refused_by, accepted_by}
use Rattle.ids.proofs.Lists.{given_length}
use Rattle.signature.specs.Model.{view_types, sig_of}
use Rattle.signature.specs.Calls.{concrete_type_at, lookup_type_causes, lookup_type_of}
use Rattle.signature.proofs.Signature.lookup_type.Goals as goal
use Rattle.signature.proofs.Signature.lookup_type.Goals.{After-refuse_if-verdict-2}

-- the verdict, as the causes decide it
so_far : (c : After-refuse_if-verdict-2) → let a = c.args in
    SoFar (verdict_of c.refuse_if-verdict-2.result) (lookup_type_causes (sig_of a.self) a.typ.0 (given_els a.parents))
unfolding lookup_type_causes
so_far c =
    let s1 = judge malformed begin c.refuse_if-verdict.ensures c.is_too_long.ensures in
    judge undeclared s1 c.refuse_if-verdict-2.ensures (ap not c.is_type.ensures)

pub returns-in-Refused : goal.returns-in-Refused
unfolding lookup_type_of
returns-in-Refused c = refused_by _ _ (so_far (goal.at.returns-in-Refused c).After-refuse_if-verdict-2) _ (ap verdict_of c.in-Refused.is)

pub returns : goal.returns
unfolding lookup_type_of
returns c =
    let a = c.args in
    let at = concrete_type_at (view_types a.self.types) a.typ.0 in
    let given : at a.parents.len ≡ at (length (given_els a.parents)) = ap at (sym (given_length _ _)) in
    accepted_by _ _ (so_far (goal.at.returns c).After-refuse_if-verdict-2) (ap verdict_of c.in_default.is) (λ none. ap accepted (c.concrete_type_at.ensures ∙ given))
