-- Lists all of whose entries are alike, and lists in strict order, over any type of entries and any order.
use Rattle.std.specs.Prelude.{◌≡◌, List, [], ◌∷◌}
use Rattle.ids.specs.declared.Ordering.{Ordering}
use Rattle.ids.specs.declared.Ordering.TheVariants.{Less}

-- P holds of each entry
abbrev pub All : {A : Type 0} → (A → Type 0) → List A → Type 0
All P [] = Unit {0}
All P (x ∷ xs) = P x × All P xs

-- each entry is smaller than all later ones
abbrev pub Sorted : {A : Type 0} → (A → A → Ordering) → List A → Type 0
Sorted cmp [] = Unit {0}
Sorted cmp (x ∷ xs) = All (λ y. cmp x y ≡ Less) xs × Sorted cmp xs
