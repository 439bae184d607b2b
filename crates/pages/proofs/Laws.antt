-- Laws of a page that grows by a piece.
use Prim.Native.Nat.{ℕ, ◌-◌, ◌≤◌, ◌<◌}
use mathlib.Core.Path.{◌≡◌, refl, sym, ap, ◌∙◌}
use mathlib.Core.Bool.{true}
use mathlib.Core.List.{List, ◌++◌, append_assoc}
use native.Mathlib.Omega.{arith}
use lib.ListN.{length, take}
use Rattle.semantics.specs.Sheet.{prints, stops}
use Rattle.sheet.specs.Pieces.{is_ended, ProgressM, PieceM, next_piece, rest_of, pieces_of}
use Rattle.sheet.proofs.Pieces.{rest_next, pieces_next, ended_none}
use Rattle.pages.specs.Pages.{Filled, Put}

-- A page under way.
pub record Growing (bytes : List ℕ) (p : ProgressM) (text : List ℕ) (n : ℕ) (q : ProgressM) : Type 0 where
  pub rest : rest_of bytes p ≡ prints (take n text) (rest_of bytes q)
  pub most : pieces_of bytes q ≤ pieces_of bytes p
  -- with a byte there is a piece
  pub less : 0 < n → pieces_of bytes q ≤ pieces_of bytes p - 1
  pub within : n ≤ length text

pub empty_page : (bytes : List ℕ) (p : ProgressM) (text : List ℕ) → Growing bytes p text 0 p
empty_page bytes p text = record { rest = refl; most = omega arith; less = λ h. absurd (omega (arith, h)); within = omega arith }

module _ {bytes : List ℕ} {p : ProgressM} {text : List ℕ} {n : ℕ} {q : ProgressM} (page : Growing bytes p text n q) where
  -- one more piece
  pub more : {r : PieceM} {after : List ℕ} {k : ℕ} → r ≡ next_piece bytes q → Put text n r.line after k → k ≤ length after → Growing bytes p after k r.progress
  more {r} {after} {k} e put room =
      let fewer : pieces_of bytes r.progress ≡ pieces_of bytes q - 1 = ap (λ (x : PieceM). pieces_of bytes x.progress) e ∙ pieces_next bytes q in
      record {
        rest =
            page.rest
            ∙ ap (prints (take n text)) (rest_next bytes q ∙ ap (λ (x : PieceM). prints x.line (rest_of bytes x.progress)) (sym e))
            ∙ ap (λ (t : List ℕ). stops t (rest_of bytes r.progress).machine)
            (sym (append_assoc (take n text) r.line (rest_of bytes r.progress).printed) ∙ ap (λ (t : List ℕ). t ++ (rest_of bytes r.progress).printed) (sym put.is));
        most = omega (arith, fewer, page.most);
        less = λ h. omega (arith, fewer, page.most);
        within = room;
      }

  pub full : 0 < n → Filled bytes p text n q
  full h = record { rest = page.rest; less = page.less h; within = page.within }

  pub ended : is_ended q.stage ≡ true → Filled bytes p text n q
  ended h =
      let none : pieces_of bytes q ≡ 0 = ended_none bytes q h in
      record { rest = page.rest; less = omega (arith, none); within = page.within }
