-- Worked examples, computed.
use mathlib.Core.Path.{◌≡◌, refl}
use mathlib.Core.List.{List, [], ◌∷◌}
use Prim.Native.Nat.{ℕ}
use Rattle.unification.specs.Roots.{max_els, up_to, follow, root_of, depth_of, short_of, merged_of}

-- 3 links to 2, 2 to 1, 1 to 0
chain : List ℕ
chain = 0 ∷ 0 ∷ 1 ∷ 2 ∷ []

root_3 : root_of chain 3 ≡ 0
unfolding chain root_of follow
root_3 = refl

depth_3 : depth_of chain 3 ≡ 3
unfolding chain depth_of follow
depth_3 = refl

-- each element passed links to what its former link linked to, and not to the root at once
short_3 : short_of chain 3 ≡ 0 ∷ 0 ∷ 0 ∷ 1 ∷ []
unfolding chain short_of follow
short_3 = refl

-- the larger root is linked to the smaller, whichever is given first
merged : merged_of (0 ∷ 1 ∷ 2 ∷ []) 2 0 ≡ 0 ∷ 1 ∷ 0 ∷ []
unfolding merged_of
merged = refl

-- a link that rises is not followed, and a number past the end is its own root
rising : root_of (5 ∷ 0 ∷ 9 ∷ []) 2 ≡ 2
unfolding root_of follow
rising = refl

past : root_of chain 250 ≡ 250
unfolding chain root_of follow
past = refl

-- as many elements as there can be
all : depth_of (merged_of (up_to max_els) 7 255) 255 ≡ 1
unfolding up_to merged_of depth_of follow
all = refl
