-- The law of a call that judges its causes one after the other, and appends to a table where none applies.
use Prim.Native.Nat.{ℕ, ◌<◌}
use mathlib.Core.Path.{◌≡◌, ap, ◌∙◌}
use mathlib.Core.Bool.{false}
use mathlib.Core.List.{List, [], ◌∷◌, ◌++◌}
use mathlib.Core.Option.{Option, none}
use lib.ListN.{length}
use lib.Dec.{leb}
use borrow.Author.Tests.{leb-false}
use Rattle.ids.specs.Answers.{Cause, outcome, refusing, accepting}
use Rattle.ids.specs.Table.{push_of}
use Rattle.ids.proofs.Judging.{SoFar, NoneApplies, accepted_by}
use Rattle.ids.proofs.Tables.{push_room}

-- A call that pushes x to a table of at most `limit` entries, ys, where the entry y is to be appended.
module _ {B S : Type 0} (limit : ℕ) (ys : List B) (y : B) (put : List B → S) (before : S) {v : Option ℕ} {cs : List Cause} (so : SoFar v cs) where
  pub appends : v ≡ none → {n : ℕ} {zs : List B} {x : B} → n ≡ length ys → zs ≡ push_of limit ys x
      → (NoneApplies cs → (leb limit (length ys) ≡ false) × (x ≡ y))
      → accepting n (put zs) ≡ outcome cs before (length ys) (put (ys ++ (y ∷ [])))
  unfolding outcome
  appends e is h fits =
      accepted_by (refusing before) _ so e
      (λ none.
      let room : length ys < limit = leb-false limit (length ys) (fits none).0 in
      let pushed = h ∙ ap (push_of limit ys) (fits none).1 ∙ push_room limit ys y room in
      λ i. accepting (is i) (put (pushed i)))
