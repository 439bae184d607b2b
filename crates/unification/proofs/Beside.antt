-- An array with an entry for each element that there can be: those in use are as many as the links.
use mathlib.Core.Path.{◌≡◌, ap, ◌∙◌}
use mathlib.Core.List.{List, [], ◌∷◌, ◌++◌}
use Prim.Native.Nat.{ℕ, ◌+◌, ◌<◌}
use native.Mathlib.Omega.{arith}
use native.Mathlib.Numerals.{add-one}
use lib.ListN.{length, take, set, length-take, length-set, length-append}
use lib.Seq.{take-suc-set}
use Rattle.ids.proofs.Tables.{push_room}
use Rattle.ids.proofs.Views.{take_same}
use Rattle.unification.specs.declared.Unification.{Unification}
use Rattle.unification.specs.Roots.{max_els, links_of, added_of}

module _ {A : Type 0} (u v : Unification) (xs : List A) (all : length xs ≡ max_els) (us : length u.links ≡ max_els) (vs : length v.links ≡ max_els) where
  -- links that are as many as before leave them
  pub kept : length (links_of v) ≡ length (links_of u) → take v.len xs ≡ take u.len xs
  kept e = take_same v.len u.len xs (omega (arith, length-take v.len v.links, length-take u.len u.links))

  -- a link more brings an entry more
  pub one_more : (n : ℕ) (x : A) → n ≡ length (links_of u) → n < max_els → links_of v ≡ added_of (links_of u)
      → take v.len (set xs n x) ≡ take u.len xs ++ (x ∷ [])
  unfolding added_of
  one_more n x is room e =
      let more : links_of v ≡ links_of u ++ (length (links_of u) ∷ []) = e ∙ push_room max_els (links_of u) (length (links_of u)) (omega arith) in
      let many : length (links_of v) ≡ n + 1 =
      ap length more ∙ omega (arith, length-append (links_of u) (length (links_of u) ∷ [])) in
      take_same v.len (n + 1) (set xs n x) (omega (arith, length-set xs n x, length-take v.len v.links))
      ∙ rw (add-one n, take-suc-set xs n x (omega arith))
      (ap (λ (l : List A). l ++ (x ∷ [])) (take_same n u.len xs (omega (arith, length-take u.len u.links))))
