-- A sheet that has ended prints nothing more.
use mathlib.Core.Path.{◌≡◌, refl, sym}
use mathlib.Core.Bool.{true, true≢false}
use mathlib.Core.List.{List, []}
use Prim.Native.Nat.{ℕ}
use Rattle.sheet.specs.declared.Stage.{Stage}
use Rattle.sheet.specs.declared.Stage.TheVariants as stages
use Rattle.sheet.specs.Pieces.{is_ended, ProgressM, rest_at, rest_of}

pub ended_nothing : (bytes : List ℕ) (p : ProgressM) → is_ended p.stage ≡ true → (rest_of bytes p).printed ≡ []
unfolding is_ended rest_at
ended_nothing bytes p = at p.stage where
  at : (s : Stage) → is_ended s ≡ true → (rest_at s bytes p).printed ≡ []
  at stages.Refusing h = absurd (true≢false (sym h))
  at stages.Visiting h = absurd (true≢false (sym h))
  at stages.Listing h = absurd (true≢false (sym h))
  at stages.Ending h = absurd (true≢false (sym h))
  at stages.Ended h = refl
