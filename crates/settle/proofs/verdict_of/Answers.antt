-- `verdict_of` meets its contract.
use mathlib.Core.Path.{◌≡◌, refl, sym, ap}
use mathlib.Core.Option.{none}
use Prim.Native.Nat.{ℕ}
use Rattle.structure.specs.declared.Answer.{Answer}
use Rattle.structure.specs.declared.Answer.TheVariants as variants
use Rattle.settle.specs.View.{refused_by}
use Rattle.settle.proofs.verdict_of.Goals as goal

pub returns-in-Refused : goal.returns-in-Refused
returns-in-Refused c = sym (ap refused_by c.in-Refused.is)

-- an answer that is no refusal
other : (a : Answer) → ((n : ℕ) → a ≡ variants.Refused n → ⊥) → none ≡ refused_by a
other (variants.Number n) k = refl
other (variants.Says b) k = refl
other variants.Done k = refl
other (variants.Closed c) k = refl
other (variants.Conflicting n) k = refl
other (variants.Summed t) k = refl
other (variants.Refused n) k = absurd (k n refl)

pub returns-in_default : goal.returns-in_default
returns-in_default c = other c.args.answer c.in_default.not-Refused
