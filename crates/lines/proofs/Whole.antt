-- Laws of whole lines: each is put together from words and numbers, and none is too long.
use mathlib.Core.Path.{◌≡◌, refl, ap, ◌∙◌}
use mathlib.Core.List.{List, [], ◌∷◌, ◌++◌, append_assoc}
use Prim.Native.Nat.{ℕ, ◌+◌, ◌≤◌}
use native.Mathlib.Omega.{arith}
use lib.ListN.{length, length-append}
use lib.Seq.{take_all}
use Rattle.semantics.specs.Close.{Closed}
use Rattle.semantics.specs.Conflicts.{Conflict}
use Rattle.semantics.specs.Calls.{Totals}
use Rattle.semantics.specs.Sheet.{spaced, space, slash, newline, close_word, conflict_word, conflicts_word, settle_word, refused_word}
use Rattle.semantics.specs.Sheet.{at_word, end_word, bit, close_line, conflict_line, conflict_lines, conflicts_line, settle_line, refused_line, end_line}
use Rattle.lines.specs.View.{max_line, put_of, Added, conflicts_end}
use Rattle.lines.proofs.Puts.{put_put}
use Rattle.lines.proofs.Decimals.{spaced_more}

-- a line that has some bytes, as far as there is room for them, and how many they are at most
pub record Built (line bytes : List ℕ) (most : ℕ) : Type 0 where
  pub is : line ≡ put_of [] bytes
  pub short : length bytes ≤ most

pub begun : {line : List ℕ} → line ≡ [] → Built line [] 0
unfolding put_of
begun e = record { is = e; short = omega arith }

module _ {line bytes : List ℕ} {most : ℕ} (built : Built line bytes most) where
  -- with more bytes, and with numbers
  pub with : (xs : List ℕ) {next : List ℕ} → next ≡ put_of line xs → Built next (bytes ++ xs) (most + length xs)
  with xs e =
      record {
        is = e ∙ ap (λ (l : List ℕ). put_of l xs) built.is ∙ put_put [] bytes xs;
        short = omega (arith, length-append bytes xs, built.short);
      }

  pub with_numbers : (ns : List ℕ) {k : ℕ} {next : List ℕ} → Added line ns k next → Built next (bytes ++ spaced ns) (most + k)
  with_numbers ns added =
      let more : Built _ (bytes ++ spaced ns) (most + length (spaced ns)) = with (spaced ns) added.is in
      record { is = more.is; short = omega (arith, more.short, added.short) }

  -- all of them, where there is room
  pub whole : most ≤ max_line → line ≡ bytes
  unfolding put_of
  whole h = built.is ∙ take_all max_line bytes (omega (arith, built.short))

-- The lines by their parts, in the order in which they are added.

pub close_parts : (c : Closed) {changed : ℕ} → changed ≡ bit c.changed
    → close_word ++ spaced (changed ∷ []) ++ spaced (c.merges ∷ []) ++ spaced (c.rounds ∷ []) ++ spaced (c.added ∷ []) ++ (newline ∷ []) ≡ close_line c
unfolding close_line
close_parts c e =
    rw (← e)
    (rw (spaced_more _ (c.merges ∷ c.rounds ∷ c.added ∷ []), spaced_more c.merges (c.rounds ∷ c.added ∷ []), spaced_more c.rounds (c.added ∷ []))
    (simp append_assoc))

pub conflict_parts : (c : Conflict)
    → conflict_word ++ spaced (c.el ∷ []) ++ spaced (c.a.typ ∷ c.a.parents) ++ (space ∷ slash ∷ []) ++ spaced (c.b.typ ∷ c.b.parents) ++ (newline ∷ [])
    ≡ conflict_line c
unfolding conflict_line
conflict_parts c = rw (spaced_more c.el (c.a.typ ∷ c.a.parents)) (simp append_assoc)

pub conflicts_parts : (n : ℕ) → conflicts_word ++ spaced (n ∷ []) ++ (newline ∷ []) ≡ conflicts_end n
unfolding conflicts_end
conflicts_parts n = refl

pub settle_parts : (t : Totals) → settle_word ++ spaced (t.closes ∷ []) ++ spaced (t.merges ∷ []) ++ (newline ∷ []) ≡ settle_line t
unfolding settle_line
settle_parts t = rw (spaced_more t.closes (t.merges ∷ [])) (simp append_assoc)

pub refused_parts : (n i : ℕ) → refused_word ++ spaced (n ∷ []) ++ (space ∷ at_word) ++ spaced (i ∷ []) ++ (newline ∷ []) ≡ refused_line n i
unfolding refused_line
refused_parts n i = simp append_assoc

pub end_parts : (k : ℕ) → end_word ++ spaced (k ∷ []) ++ (newline ∷ []) ≡ end_line k
unfolding end_line
end_parts k = refl

-- the conflicts are printed as the line of each, and then their number
pub conflicts_printed : (cs : List Conflict) → conflicts_line cs ≡ conflict_lines cs ++ conflicts_end (length cs)
unfolding conflicts_line conflicts_end
conflicts_printed cs = refl
