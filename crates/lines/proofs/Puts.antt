-- Laws of a line that bytes are added to.
use mathlib.Core.Path.{◌≡◌, refl, sym, ap, ◌∙◌}
use mathlib.Core.List.{List, [], ◌∷◌, ◌++◌, append_assoc, append-nil}
use Prim.Native.Nat.{ℕ, zero, suc, ◌+◌, ◌≤◌, ◌<◌}
use native.Mathlib.Omega.{arith}
use native.Mathlib.Numerals.{add-one}
use lib.ListN.{length, take, set, length-append, length-take}
use lib.Seq.{take_all, take-append-le, take-suc-set}
use Rattle.ids.specs.Table.{Sized}
use Rattle.lines.specs.View.{max_line, put_of}

-- bytes past the limit do not come back
take_again : (n : ℕ) (xs ys : List ℕ) → take n (take n xs ++ ys) ≡ take n (xs ++ ys)
take_again zero xs ys = refl
take_again (suc n) [] ys = refl
take_again (suc n) (x ∷ xs) ys = ap (λ (l : List ℕ). x ∷ l) (take_again n xs ys)

-- bytes added twice are added at once
pub put_put : (line xs ys : List ℕ) → put_of (put_of line xs) ys ≡ put_of line (xs ++ ys)
unfolding put_of
put_put line xs ys = take_again max_line (line ++ xs) ys ∙ ap (take max_line) (append_assoc line xs ys)

put_none : (line : List ℕ) → length line ≤ max_line → put_of line [] ≡ line
unfolding put_of
put_none line h = rw append-nil (take_all max_line line h)

-- no line is too long
pub put_short : (line xs : List ℕ) {next : List ℕ} → next ≡ put_of line xs → length next ≤ max_line
unfolding put_of
put_short line xs e = rw e (omega (arith, length-take max_line (line ++ xs)))

-- one call after another
pub then : (line xs ys : List ℕ) {next last : List ℕ} → next ≡ put_of line xs → last ≡ put_of next ys → last ≡ put_of line (xs ++ ys)
then line xs ys e h = h ∙ ap (λ (l : List ℕ). put_of l ys) e ∙ put_put line xs ys

-- a turn of a loop: what was added is no more to be added
pub put_turn : (line xs ys : List ℕ) {next R : List ℕ} → put_of line (xs ++ ys) ≡ R → next ≡ put_of line xs → put_of next ys ≡ R
put_turn line xs ys turn e = ap (λ (l : List ℕ). put_of l ys) e ∙ put_put line xs ys ∙ turn

-- a loop's end: nothing more is to be added
pub put_done : (line rest : List ℕ) {R : List ℕ} → length line ≤ max_line → rest ≡ [] → put_of line rest ≡ R → line ≡ R
put_done line rest h e turn = sym (put_none line h) ∙ ap (put_of line) (sym e) ∙ turn

-- A line over an array xs, of which n bytes are in use; n may say more than there are.
module _ (n : ℕ) (xs : List ℕ) (long : length xs ≡ max_line) where
  pub short : length (take n xs) ≤ max_line
  short = omega (arith, length-take n xs)

  module _ {size : ℕ} (sized : Sized (take n xs) max_line size) (x : ℕ) where
    pub put_at : size < max_line → take (size + 1) (set xs size x) ≡ put_of (take n xs) (x ∷ [])
    unfolding put_of
    put_at h =
        let all : size ≡ n = omega (arith, sized.is, length-take n xs) in
        let one : take (size + 1) (set xs size x) ≡ take n xs ++ (x ∷ []) = rw all (rw add-one (take-suc-set xs n x (omega arith))) in
        one ∙ sym (take_all max_line (take n xs ++ (x ∷ [])) (omega (arith, length-append (take n xs) (x ∷ []), sized.is)))

    pub put_past : max_line ≤ size → take n xs ≡ put_of (take n xs) (x ∷ [])
    unfolding put_of
    put_past h =
        sym (take-append-le max_line (take n xs) (x ∷ []) (omega (arith, sized.is)) ∙ take_all max_line (take n xs) short)
