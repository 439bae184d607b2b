-- Laws of what a writer holds, as it grows.
use Prim.Native.Nat.{ℕ, ◌+◌, ◌-◌, min}
use mathlib.Core.Path.{◌≡◌, refl, sym, ap, ◌∙◌, subst}
use mathlib.Core.List.{List, [], ◌++◌, append-nil, append_assoc}
use native.Mathlib.Omega.{arith}
use lib.ListN.{length, take, drop, length-drop, take-append-drop}
use lib.Seq.{take_all}
use Rattle.std.proofs.Math.Seq.{take-append-add}
use Rattle.std.proofs.lemmas.List.{take-append-le, take_min}
use Rattle.std.specs.Prelude.{Option, Some, None, Result, Ok, Err, OnErr}
use Rattle.std.specs.Io.KnownBytes.{Appends, Keeps}
use Rattle.printing.specs.Printing.{AppendsFront}

pub nothing_more : (old : Option (List ℕ)) → Appends old old []
nothing_more None = tt
nothing_more (Some xs) = sym (append-nil xs)

pub kept : (old new : Option (List ℕ)) → Keeps old new → Appends old new []
kept None new h = tt
kept (Some xs) None h = h
kept (Some xs) (Some ys) h = h ∙ sym (append-nil xs)

pub more : (old between new : Option (List ℕ)) (xs ys : List ℕ) → Appends old between xs → Appends between new ys → Appends old new (xs ++ ys)
more None between new xs ys h k = tt
more (Some os) None new xs ys h k = absurd h
more (Some os) (Some bs) None xs ys h k = k
more (Some os) (Some bs) (Some ns) xs ys h k =
    k ∙ ap (λ (l : List ℕ). l ++ ys) h ∙ append_assoc os xs ys

-- what was written so far, of what is to be written in all, where some of it is still to come
pub record Written (old new : Option (List ℕ)) (all rest : List ℕ) : Type 0 where
  pub done : List ℕ
  pub appends : Appends old new done
  pub is : all ≡ done ++ rest

pub nothing_written : (old : Option (List ℕ)) (all : List ℕ) → Written old old all all
nothing_written old all = record { done = []; appends = nothing_more old; is = refl }

module _ {old between : Option (List ℕ)} {all rest : List ℕ} (so_far : Written old between all rest) where
  -- one more page
  pub page_written : {new : Option (List ℕ)} (page after : List ℕ) → rest ≡ page ++ after → Appends between new page → Written old new all after
  page_written {new} page after e h =
      record {
        done = so_far.done ++ page;
        appends = more old between new so_far.done page so_far.appends h;
        is = so_far.is ∙ ap (λ (l : List ℕ). so_far.done ++ l) e ∙ sym (append_assoc so_far.done page after);
      }

  -- a part of one more page
  pub page_begun : {new : Option (List ℕ)} (page after : List ℕ) → rest ≡ page ++ after → AppendsFront between new page → AppendsFront old new all
  page_begun {new} page after e h =
      let k = min h.count (length page) in
      let done = so_far.done in
      let front : take (length done + k) all ≡ done ++ take h.count page =
      ap (take (length done + k)) (so_far.is ∙ ap (λ (l : List ℕ). done ++ l) e)
      ∙ take-append-add done (page ++ after) k
      ∙ ap (λ (l : List ℕ). done ++ l) (take-append-le k page after (omega arith) ∙ take_min h.count page)
      in
      record {
        count = length done + k;
        appends = subst (Appends old new) (sym front) (more old between new done (take h.count page) so_far.appends h.appends);
      }

  pub all_written : rest ≡ [] → Appends old between all
  all_written e = subst (Appends old between) (sym (so_far.is ∙ ap (λ (l : List ℕ). so_far.done ++ l) e ∙ append-nil so_far.done)) so_far.appends

-- some of the bytes that are to come, written by one write
module _ {old between : Option (List ℕ)} {all rest : List ℕ} (so_far : Written old between all rest) where
  -- the rest from there on, as the slice has it
  pub written_on : {new : Option (List ℕ)} (n : ℕ) → Appends between new (take n rest) → Written old new all (take (length rest - n) (drop n rest))
  written_on n h =
      page_written so_far (take n rest) _ (sym (take-append-drop n rest) ∙ ap (λ (l : List ℕ). take n rest ++ l) (sym (take_all (length rest - n) (drop n rest) (omega (arith, length-drop n rest))))) h

  pub begun : {new : Option (List ℕ)} (n : ℕ) → Appends between new (take n rest) → AppendsFront old new all
  begun {new} n h = page_begun so_far rest [] (sym (append-nil rest)) (record { count = n; appends = h })

  pub none_begun : {new : Option (List ℕ)} → Keeps between new → AppendsFront old new all
  none_begun {new} h = begun 0 (kept between new h)

-- what holds holds on an error
pub on_error : {T E : Type 0} {P : Type 0} (r : Result T E) → P → OnErr r P
on_error (Ok x) h = tt
on_error (Err e) h = h
