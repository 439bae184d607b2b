-- Laws of bytes that are written into a buffer: none, one more, and some after others.
use mathlib.Core.Path.{◌≡◌, refl, sym, ap, subst, ◌∙◌}
use mathlib.Core.List.{List, [], ◌∷◌, ◌++◌, map, map-append, append-nil, append_assoc}
use Prim.Native.Nat.{ℕ, ◌+◌, ◌*◌, ◌/◌, ◌≤◌, ◌<◌}
use native.Mathlib.Numerals.{add-one}
use native.Mathlib.Omega.{arith}
use lib.ListN.{length, take, drop, get_or, set, length-append, length-map, length-set, length-take}
use lib.Seq.{take-suc, take_all, take-suc-set, drop-set-lt, drop-drop, length-take-le}
use Rattle.file.specs.Layout.{byte, word_bytes, column, by_columns}
use Rattle.file.proofs.LayoutLaws.{word_bytes_length}
use Rattle.storing.specs.View.{Written}

pub written_nothing : (before : List ℕ) (at : ℕ) → Written before at [] before at
written_nothing before at = record { is = sym (append-nil (take at before)); rest = refl; end = omega arith; long = refl }

module _ {before : List ℕ} {at : ℕ} {bytes now : List ℕ} {r : ℕ} (w : Written before at bytes now r) where
  -- the same bytes, and where they end, told otherwise
  pub written_as : {others : List ℕ} {q : ℕ} → bytes ≡ others → r ≡ q → Written before at others now q
  written_as {others} {q} e p = subst (λ (l : List ℕ). Written before at l now q) e (subst (λ (k : ℕ). Written before at bytes now k) p w)

  -- they are in the buffer
  pub written_within : at ≤ length before → r ≤ length before
  written_within h =
      omega (arith, ap length w.is, length-take r now, length-append (take at before) bytes, length-take at before, w.end, w.long)

  -- one more byte
  pub written_more : (b : ℕ) → r < length before → Written before at (bytes ++ (b ∷ [])) (set now r b) (r + 1)
  written_more b room = record {
    is =
        rw (add-one r) (take-suc-set now r b (omega (arith, w.long)))
        ∙ ap (λ (l : List ℕ). l ++ (b ∷ [])) w.is
        ∙ append_assoc (take at before) bytes (b ∷ []);
    rest =
        drop-set-lt (r + 1) now r b (omega arith) ∙ sym (drop-drop 1 r now) ∙ ap (drop 1) w.rest ∙ drop-drop 1 r before;
    end = omega (arith, w.end, length-append bytes (b ∷ []));
    long = length-set now r b ∙ w.long;
  }

  -- other bytes after these
  pub written_then : {more after : List ℕ} {q : ℕ} → Written now r more after q → Written before at (bytes ++ more) after q
  written_then {more} {after} {q} v =
      let past : r + length more ≡ q = sym v.end in
      record {
        is = v.is ∙ ap (λ (l : List ℕ). l ++ more) w.is ∙ append_assoc (take at before) bytes more;
        rest =
            v.rest
            ∙ ap (λ (k : ℕ). drop k now) (sym past)
            ∙ sym (drop-drop (length more) r now)
            ∙ ap (drop (length more)) w.rest
            ∙ drop-drop (length more) r before
            ∙ ap (λ (k : ℕ). drop k before) past;
        end = omega (arith, v.end, w.end, length-append bytes more);
        long = v.long ∙ w.long;
      }

-- two bytes
pub written_two : (now : List ℕ) (at : ℕ) (b c : ℕ) → at + 1 < length now → Written now at (b ∷ c ∷ []) (set (set now at b) (at + 1) c) (at + 2)
written_two now at b c room =
    written_as (written_more (written_more (written_nothing now at) b (omega arith)) c room) refl (omega arith)

-- Lists that grow by an entry.

module _ {A : Type 0} (f : A → ℕ) where
  map_next : (l : List A) (i : ℕ) (d : A) → i < length l → map f (take i l) ++ (f (get_or l i d) ∷ []) ≡ map f (take (i + 1) l)
  map_next l i d h = rw (add-one i, take-suc l i d h) (sym (map-append f (take i l) (get_or l i d ∷ [])))

  module _ {before : List ℕ} {at : ℕ} (l : List A) {now : List ℕ} {i r : ℕ} (w : Written before at (map f (take i l)) now r) where
    module _ (h : i < length l) (fits : at + length l ≤ length before) where
      -- there is room for one more
      pub written_room : r < length now
      written_room = omega (arith, w.end, w.long, length-map (take i l) f, length-take-le i l (omega arith))

      -- what a turn of a loop writes
      pub written_next : (d : A) {b : ℕ} → b ≡ f (get_or l i d) → Written before at (map f (take (i + 1) l)) (set now r b) (r + 1)
      written_next d {b} e =
          let last : map f (take i l) ++ (b ∷ []) ≡ map f (take (i + 1) l) =
          ap (λ (x : ℕ). map f (take i l) ++ (x ∷ [])) e ∙ map_next l i d h in
          written_as (written_more w b (omega (arith, written_room, w.long))) last refl

    pub written_all : length l ≤ i → Written before at (map f l) now r
    written_all h = written_as w (ap (map f) (take_all i l h)) refl

words_append : (ns ms : List ℕ) → word_bytes (ns ++ ms) ≡ word_bytes ns ++ word_bytes ms
unfolding word_bytes
words_append [] ms = refl
words_append (n ∷ ns) ms = ap (λ (l : List ℕ). byte n ∷ byte (n / 256) ∷ l) (words_append ns ms)

words_next : (l : List ℕ) (i : ℕ) → i < length l
    → word_bytes (take i l) ++ (byte (get_or l i 0) ∷ byte (get_or l i 0 / 256) ∷ []) ≡ word_bytes (take (i + 1) l)
unfolding word_bytes
words_next l i h = rw (add-one i, take-suc l i 0 h) (sym (words_append (take i l) (get_or l i 0 ∷ [])))

module _ {before : List ℕ} {at : ℕ} (l : List ℕ) {now : List ℕ} {i r : ℕ} (w : Written before at (word_bytes (take i l)) now r) where
  -- a number takes two bytes
  module _ (h : i < length l) (fits : at + 2 * length l ≤ length before) where
    pub words_room : r + 1 < length now
    words_room = omega (arith, w.end, w.long, word_bytes_length (take i l), length-take-le i l (omega arith))

    pub written_word : {low high : ℕ} → low ≡ byte (get_or l i 0) → high ≡ byte (get_or l i 0 / 256)
        → Written before at (word_bytes (take (i + 1) l)) (set (set now r low) (r + 1) high) (r + 2)
    written_word {low} {high} e f =
        let both : word_bytes (take i l) ++ (low ∷ high ∷ []) ≡ word_bytes (take (i + 1) l) =
        (λ j. word_bytes (take i l) ++ (e j ∷ f j ∷ [])) ∙ words_next l i h in
        written_as (written_then w (written_two now r low high words_room)) both refl

  pub words_all : length l ≤ i → Written before at (word_bytes l) now r
  words_all h = written_as w (ap word_bytes (take_all i l h)) refl

pub columns_next : (k : ℕ) (rows : List (List ℕ)) → by_columns k rows ++ column k rows ≡ by_columns (k + 1) rows
unfolding by_columns
columns_next k rows = rw (add-one k) refl
