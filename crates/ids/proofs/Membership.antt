-- On a sorted table `present` is membership, and `placed` adds exactly one entry: over any type of entries and any lawful order.
use mathlib.Core.Path.{◌≡◌, refl}
use mathlib.Core.Logic.{◌↔◌, ◌⊎◌, inl, inr}
use mathlib.Core.Bool.{true, false}
use mathlib.Core.List.{List, Memᴰ}
use Prim.Native.Nat.{suc}
use lib.ListN.{length}
use Rattle.ids.specs.declared.Ordering.{Ordering}
use Rattle.ids.specs.declared.Ordering.TheVariants.{Equal}
use Rattle.ids.specs.Table.{present, placed}
use Rattle.ids.proofs.Sorted.{Sorted, Ordered, all_at, all_from, placed_all, placed_own, placed_keeps, placed_absent, placed_sorted}
use Rattle.ids.proofs.Sorted.{present_some, present_if}

-- an entry of the table compares Equal with x
abbrev pub Member : {A : Type 0} → (A → A → Ordering) → A → List A → Type 0
Member {A} cmp x l = (y : A) × Memᴰ y l × (cmp y x ≡ Equal)

-- what placing an absent x makes of a sorted table
pub record OneMore {A : Type 0} (cmp : A → A → Ordering) (x : A) (l : List A) : Type 0 where
  pub longer : length (placed cmp x l) ≡ suc (length l)
  -- its entries are x and those that were there
  pub entries : (y : A) → Memᴰ y (placed cmp x l) ↔ ((y ≡ x) ⊎ Memᴰ y l)
  -- it is still sorted
  pub sorted : Sorted cmp (placed cmp x l)

module _ {A : Type 0} {cmp : A → A → Ordering} (o : Ordered cmp) (x : A) (l : List A) (s : Sorted cmp l) where
  -- x is present exactly where it is a member
  pub present_member : present cmp x l ≡ true ↔ Member cmp x l
  present_member = (present_some cmp x l, λ m. present_if o x m.0 l s m.1 m.2)

  -- what is absent is placed once; what is present is not placed again (`placed_present`)
  pub placed_once : present cmp x l ≡ false → OneMore cmp x l
  placed_once e = record {
    longer = placed_absent cmp x l e;
    entries = λ y. (
      λ m. all_at From (placed cmp x l) (placed_all cmp x From l (inl refl) (all_from From l (λ z k. inr k))) y m,
      λ m. elim m [ inl q ↦ rw q (placed_own cmp x In l e (all_from In (placed cmp x l) (λ z k. k))) | inr k ↦ placed_keeps cmp x l k ],
    );
    sorted = placed_sorted o x l s;
  }
    where
      -- where an entry comes from
      From : A → Type 0
      From z = (z ≡ x) ⊎ Memᴰ z l

      In : A → Type 0
      In z = Memᴰ z (placed cmp x l)
