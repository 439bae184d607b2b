-- The queue of equalities as the definitions speak of it.
use Rattle.std.specs.Prelude.{ℕ, true, false, List, ◌∷◌, map, reverse, length, take, ltb}
use Rattle.unification.specs.Roots.{links_of}
use Rattle.semantics.specs.Structure as model
use Rattle.semantics.specs.Structure.{pair, max_pairs}
use Rattle.semantics.specs.Applying as applying
use Rattle.semantics.specs.Applying.{equating}
use Rattle.equalities.specs.declared.Pair.{Pair}
use Rattle.equalities.specs.declared.Pairs.{Pairs}
use Rattle.equalities.specs.declared.Equated.{Equated}

abbrev pub pair_of : Pair → model.Pair
pair_of p = pair p.lhs.0 p.rhs.0

-- the pairs of a queue: that which was queued last stands first
abbrev pub pairs_of : Pairs → List model.Pair
pairs_of t = reverse (map pair_of (take t.len t.items))

-- a pair is queued where there is room
unfoldable pub queued_of : List model.Pair → model.Pair → List model.Pair
queued_of ps p = elim (ltb (length ps) max_pairs) [ true ↦ p ∷ ps | false ↦ ps ]

-- `equate`, where there is room for the pair; a full queue stays as it is
unfoldable pub equate_in : List ℕ → List model.Pair → ℕ → ℕ → applying.Equated
equate_in ls ps a b = equating (applying.equate ls ps a b).links (queued_of ps (pair a b)) (applying.equate ls ps a b).differ

abbrev pub equated_of : Equated → applying.Equated
equated_of r = equating (links_of r.unification) (pairs_of r.pairs) r.differ
