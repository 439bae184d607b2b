-- The numbers that refuse a close.
use Rattle.std.specs.Prelude.{ℕ}
use mathlib.Core.List.{List, [], ◌∷◌, Memᴰ}
use Rattle.std.proofs.Math.Option.{Option, none, some}
use Rattle.ids.specs.Answers.{no_room, too_many_facts}

abbrev pub close_numbers : List ℕ
close_numbers = no_room ∷ too_many_facts ∷ []

-- the number first met, if there is one, is one of them
abbrev pub MayMeet : Option ℕ → Type 0
MayMeet none = Unit {0}
MayMeet (some n) = Memᴰ n close_numbers
