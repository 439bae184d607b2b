-- `Structure::settled_by` meets its contract.
use mathlib.Core.Path.{◌≡◌, refl, sym, ap, ◌∙◌}
use mathlib.Core.Bool.{Bool}
use mathlib.Core.List.{[]}
use Rattle.semantics.specs.Calls.{settled_by}
use Rattle.structure.specs.declared.Answer.{Answer}
use Rattle.structure.specs.declared.Closed.{Closed}
use Rattle.structure.specs.declared.Answer.TheVariants as variants
use Rattle.structure.specs.View.{answer_of}
use Rattle.structure.proofs.Structure.settled_by.Goals as goal

pub returns-in-Closed : goal.returns-in-Closed
unfolding settled_by
returns-in-Closed c =
    let a = c.args in
    sym (ap (λ (x : Answer). settled_by (answer_of [] x) a.self.settled) c.in-Closed.is)

pub returns-in-Says : goal.returns-in-Says
unfolding settled_by
returns-in-Says c =
    let a = c.args in
    c.and.ensures ∙ sym (ap (λ (x : Answer). settled_by (answer_of [] x) a.self.settled) c.in-Says.is)

-- an answer that is neither a close's nor yes or no
other : (a : Answer) {was : Bool} → ((x : Closed) → a ≡ variants.Closed x → ⊥) → ((x : Bool) → a ≡ variants.Says x → ⊥)
    → was ≡ settled_by (answer_of [] a) was
unfolding settled_by
other (variants.Number n) c s = refl
other (variants.Says b) c s = absurd (s b refl)
other variants.Done c s = refl
other (variants.Closed x) c s = absurd (c x refl)
other (variants.Conflicting n) c s = refl
other (variants.Summed t) c s = refl
other (variants.Refused n) c s = refl

pub returns-in_default : goal.returns-in_default
returns-in_default c = other c.args.answer c.in_default.not-Closed c.in_default.not-Says
