-- `model_ids_are_declared` meets its contract.
use mathlib.Core.Path.{◌≡◌, refl, ◌∙◌}
use mathlib.Core.Bool.{Bool, true, false, ◌&&◌}
use Rattle.ids.specs.Ids.{all_below}
use Rattle.ids.proofs.Tests.{last}
use Rattle.signature.specs.Calls.{model_ids_declared}
use Rattle.declarations.proofs.model_ids_are_declared.Goals as goal

-- one more function below the count
below : {r a b x y : Bool} → r ≡ (a && b) → a ≡ x → b ≡ y → r ≡ elim x [ true ↦ y | false ↦ false ]
below {r} {a} {b} {x} {y} e h k = e ∙ (λ i. h i && k i) ∙ same x
  where
    same : (x : Bool) → ◌≡◌ {A = Bool} (x && y) (elim x [ true ↦ y | false ↦ false ])
    same true = refl
    same false = refl

pub returns : goal.returns
unfolding model_ids_declared all_below
returns c =
    let e2 = below c.and-known.ensures c.is_func.ensures (last c.is_func-2.ensures) in
    let e3 = below c.and-known-2.ensures c.is_func-3.ensures e2 in
    let e4 = below c.and-known-3.ensures c.is_func-4.ensures e3 in
    let e5 = c.and-known-4.ensures ∙ (λ i. c.is_type.ensures i && e4 i) in
    c.and.ensures ∙ (λ i. c.is_type-2.ensures i && e5 i)
