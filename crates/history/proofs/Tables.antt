-- Laws of tables that `ids` has not: of any list, sorted or not.
use mathlib.Core.Path.{◌≡◌, refl, sym, ◌∙◌}
use mathlib.Core.Bool.{Bool, true, false}
use mathlib.Core.List.{List, [], ◌∷◌}
use Rattle.ids.specs.declared.Ordering.{Ordering}
use Rattle.ids.specs.declared.Ordering.TheVariants.{Less, Equal, Greater}
use Rattle.ids.specs.Table.{present, placed}
use Rattle.ids.proofs.Sorted.{Ordered, no_test, less_swap, alike_right}

-- what is present stays so where another entry is placed
module _ {A : Type 0} {cmp : A → A → Ordering} (o : Ordered cmp) (x y : A) where
  pub present_stays : (l : List A) → present cmp y l ≡ true → present cmp y (placed cmp x l) ≡ true
  unfolding present placed
  present_stays [] e = no_test e refl
  present_stays (z ∷ zs) e = go (cmp z x) (cmp z y) refl refl (present_stays zs) e
    where
      go : (s t : Ordering) → cmp z x ≡ s → cmp z y ≡ t → (present cmp y zs ≡ true → present cmp y (placed cmp x zs) ≡ true)
          → ◌≡◌ {A = Bool} (elim t [ Less ↦ present cmp y zs | Equal ↦ true | Greater ↦ false ]) true
          → present cmp y (elim s [ Less ↦ z ∷ placed cmp x zs | Equal ↦ z ∷ zs | Greater ↦ x ∷ z ∷ zs ]) ≡ true
      go Less Less p q f h = rw (q, present) (f h)
      go Less Equal p q f h = rw (q, present)
      go Less Greater p q f h = no_test h refl
      go Equal t p q f h = e
      go Greater Less p q f h = rw (o.trans x z y (less_swap o x z p) q, present) e
      go Greater Equal p q f h = rw (sym (alike_right o z y x q) ∙ less_swap o x z p, present) e
      go Greater Greater p q f h = no_test h refl
