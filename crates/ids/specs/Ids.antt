-- The lists of at most four numbers, as the contracts speak of them.
use Rattle.std.specs.Prelude.{ℕ, zero, suc, Bool, true, false, List, [], ◌∷◌, map, take, length, ltb}
use Rattle.ids.specs.declared.ElId.{ElId}
use Rattle.ids.specs.declared.TypeId.{TypeId}
use Rattle.ids.specs.declared.ElIds.{ElIds}
use Rattle.ids.specs.declared.TypeIds.{TypeIds}
use Rattle.ids.specs.Limits.{max_list}

abbrev pub el_of : ElId → ℕ
el_of e = e.0

abbrev pub type_of : TypeId → ℕ
type_of t = t.0

-- the numbers that a list holds: its first `len`, at most four
abbrev pub els_of : ElIds → List ℕ
els_of l = map el_of (take l.len l.ids)

abbrev pub types_of : TypeIds → List ℕ
types_of l = map type_of (take l.len l.ids)

-- the first n of some entries, d where there are fewer
unfoldable pub padded : {A : Type 0} → A → ℕ → List A → List A
padded d zero xs = []
padded d (suc n) [] = d ∷ padded d n []
padded d (suc n) (x ∷ xs) = x ∷ padded d n xs

-- a list that is handed over with the length n
abbrev pub given_of : ℕ → List ℕ → List ℕ
given_of n xs = padded 0 n xs

-- a list as it is given: of as many numbers as its length says, also where that is over four
abbrev pub given_els : ElIds → List ℕ
given_els l = given_of l.len (map el_of l.ids)

abbrev pub given_types : TypeIds → List ℕ
given_types l = given_of l.len (map type_of l.ids)

-- What is handed back: as it is given by the lengths that it says, and as it is held. Of a list inside an array the logic does not
-- know how many entries there is room for, so that neither view follows from the other.
pub record Handed (A : Type 0) : Type 0 where
  pub given : A
  pub held : A

-- it says the lengths that it has
abbrev pub whole : {A : Type 0} → A → Handed A
whole x = record { given = x; held = x }

abbrev pub handed_els : ElIds → Handed (List ℕ)
handed_els l = record { given = given_els l; held = els_of l }

-- "Every list has at most 4 entries": it has more
abbrev pub too_long : List ℕ → Bool
too_long l = ltb max_list (length l)

-- each number is below n
unfoldable pub all_below : ℕ → List ℕ → Bool
all_below n [] = true
all_below n (x ∷ xs) = elim (ltb x n) [ true ↦ all_below n xs | false ↦ false ]
