-- Laws of what reads take of an input whose bytes are known.
use Prim.Native.Nat.{ℕ, suc, ◌+◌, ◌-◌, ◌<◌, ◌≤◌}
use mathlib.Core.Path.{◌≡◌, refl, sym, ap, subst, ◌∙◌}
use mathlib.Core.Bool.{Bool, true, false, true≢false}
use mathlib.Core.List.{List, [], ◌++◌, append_assoc, append-nil}
use native.Mathlib.Omega.{arith}
use borrow.Rule.Slice.PartMut.{put_mid, post_of, same_len_mid}
use lib.ListN.{length, take, drop, length-take, length-drop, length-append}
use lib.Seq.{take-append-le}
use lib.Dec.{eqb}
use borrow.Author.Tests.{eqb-false}
use Rattle.std.specs.Prelude.{Option, Some, None, IfSome, Result, Ok, Err, IsErr}
use Rattle.std.specs.Io.KnownBytes.{Keeps, Consumes}
use Rattle.std.specs.declared.io.Error.{Error}
use Rattle.std.proofs.Math.Seq.{take-append_seam, take-append-add}
use Rattle.reading.specs.Reading.{given, after_read, Reads, fails, Kept}

-- how many bytes a read gave, by what its answer comes to; 0 of the end and of a failure
several : Result (Option ℕ) Error → ℕ
several (Ok None) = 0
several (Ok (Some n)) = suc n
several (Err e) = 0

-- a read that comes to n bytes gave them
pub gave : (got : Result ℕ Error) (n : ℕ) → after_read got ≡ Ok (Some n) → (got ≡ Ok n) × (0 < n)
unfolding several
gave (Err e) n h = let none : 0 ≡ suc n = ap several h in absurd (omega (arith, none))
gave (Ok m) n h = go (eqb m 0) refl where
  go : (b : Bool) → eqb m 0 ≡ b → (◌≡◌ {A = Result ℕ Error} (Ok m) (Ok n)) × (0 < n)
  go true k = let none : 0 ≡ suc n = ap several (ap (λ (t : Bool). Ok (given t m)) (sym k) ∙ h) in absurd (omega (arith, none))
  go false k =
      let same : suc m ≡ suc n = ap several (ap (λ (t : Bool). Ok (given t m)) (sym k) ∙ h) in
      let is : m ≡ n = omega (arith, same) in (ap Ok is, omega (arith, is, eqb-false m 0 k))

pub none_taken : (old : Option (List ℕ)) → Consumes old old []
none_taken None = tt
none_taken (Some xs) = refl

pub taken_then : (old between new : Option (List ℕ)) (xs ys : List ℕ) → Consumes old between xs → Consumes between new ys → Consumes old new (xs ++ ys)
taken_then None between new xs ys h k = tt
taken_then (Some os) None new xs ys h k = absurd h
taken_then (Some os) (Some bs) None xs ys h k = k
taken_then (Some os) (Some bs) (Some ns) xs ys h k = h ∙ ap (λ (l : List ℕ). xs ++ l) k ∙ sym (append_assoc xs ys ns)

kept_none : (old new : Option (List ℕ)) → Keeps old new → Consumes old new []
kept_none None new h = tt
kept_none (Some xs) None h = h
kept_none (Some xs) (Some ys) h = sym h

module _ (old between new : Option (List ℕ)) (bytes : List ℕ) (so_far : Consumes old between bytes) where
  -- the last read gives nothing
  pub taken_all : Consumes between new [] → Consumes old new bytes
  taken_all h = subst (Consumes old new) (append-nil bytes) (taken_then old between new bytes [] so_far h)

  -- or it fails
  pub taken_before : Keeps between new → Consumes old new bytes
  taken_before h = taken_all (kept_none between new h)

-- a read past the bytes gives more
pub taken_longer : (old between new : Option (List ℕ)) (bytes more : List ℕ) → Consumes old between bytes → Consumes between new more → 0 < length more
    → IfSome old (λ (xs : List ℕ). (take (length bytes) xs ≡ bytes) × (length bytes < length xs))
taken_longer None between new bytes more h k some = tt
taken_longer (Some xs) between None bytes more h k some = absurd (taken_then (Some xs) between None bytes more h k)
taken_longer (Some xs) between (Some ys) bytes more h k some =
    let is : xs ≡ bytes ++ (more ++ ys) = taken_then (Some xs) between (Some ys) bytes more h k ∙ append_assoc bytes more ys in (
      ap (take (length bytes)) is ∙ take-append_seam bytes (more ++ ys),
      omega (arith, ap length is, length-append bytes (more ++ ys), length-append more ys, some),
    )

-- the bytes at the front after a read into those from the index on
pub front_put : (at n : ℕ) (bytes got : List ℕ) → at ≤ length bytes → n ≤ length got → take (at + n) (put_mid at (length bytes - at) bytes got) ≡ take at bytes ++ take n got
front_put at n bytes got h k =
    subst (λ (m : ℕ). take (m + n) (put_mid at (length bytes - at) bytes got) ≡ take at bytes ++ take n got) (omega (arith, length-take at bytes, h))
    (take-append-add (take at bytes) (got ++ post_of at (length bytes - at) bytes) n ∙ ap (λ (l : List ℕ). take at bytes ++ l) (take-append-le n got _ k))

-- the reads come to what the last one does
pub failed : (room at : ℕ) (before after : List ℕ) (r : Result (Option ℕ) Error) → Kept at before after → IsErr r → Reads room at before after r
failed room at before after (Ok x) k h = absurd (true≢false (sym h))
failed room at before after (Err e) k h = fails k

-- and those before it stay
pub front_kept : (at : ℕ) (bytes got : List ℕ) → at ≤ length bytes → Kept at bytes (put_mid at (length bytes - at) bytes got)
front_kept at bytes got h =
    subst (λ (m : ℕ). take m (put_mid at (length bytes - at) bytes got) ≡ take at bytes) (omega (arith, length-take at bytes, h))
    (take-append_seam (take at bytes) (got ++ post_of at (length bytes - at) bytes))

pub put_length : (at : ℕ) (bytes got : List ℕ) → at ≤ length bytes → length got ≡ length bytes - at → length (put_mid at (length bytes - at) bytes got) ≡ length bytes
put_length at bytes got h k =
    same_len_mid at (length bytes - at) bytes got (omega (arith, k, length-take (length bytes - at) (drop at bytes), length-drop at bytes))
