-- The links after an element is added.
use mathlib.Core.Path.{◌≡◌, refl, sym, ap, ◌∙◌}
use mathlib.Core.Logic.{inl, inr}
use mathlib.Core.List.{List, [], ◌∷◌, ◌++◌}
use Prim.Native.Nat.{ℕ, suc, ◌<◌}
use native.Mathlib.Omega.{arith}
use lib.ListN.{length, length-append, get_or-append}
use lib.Seq.{get_or_at}
use Rattle.ids.proofs.Tables.{push_room}
use Rattle.unification.specs.Roots.{max_els, link, root_of, added_of}
use Rattle.unification.proofs.Numbers.{less_or, same_or}
use Rattle.unification.proofs.Laws.{along, root_stop, root_pass}
use Rattle.unification.proofs.Arrays.{link_past}

pub length_push : {A : Type 0} (l : List A) (x : A) → length (l ++ (x ∷ [])) ≡ suc (length l)
length_push l x = omega (arith, length-append l (x ∷ []))

pub added_is : (ls : List ℕ) → length ls < max_els → added_of ls ≡ ls ++ (length ls ∷ [])
unfolding added_of
added_is ls h = push_room max_els ls (length ls) h

-- links that are the same lead to the same roots
pub root_alike : (ls ks : List ℕ) → ((e : ℕ) → link ks e ≡ link ls e) → (e : ℕ) → root_of ks e ≡ root_of ls e
root_alike ls ks same =
    along ls (λ e. root_of ks e ≡ root_of ls e) (λ e h. root_stop ks e (rw (same e) h) ∙ sym (root_stop ls e h))
    (λ e h ih. root_pass ks e (omega (arith, same e)) ∙ ap (root_of ks) (same e) ∙ ih ∙ sym (root_pass ls e h))

-- the new element links to itself, as a number that is no element does
link_push : (ls : List ℕ) (e : ℕ) → link (ls ++ (length ls ∷ [])) e ≡ link ls e
link_push ls e = elim (less_or e (length ls)) [
  | inl h ↦ get_or-append ls (length ls ∷ []) e e h
  | inr h ↦ elim (same_or e (length ls)) [
    | inl p ↦ (rw p (get_or_at ls (length ls) [] (length ls) (length ls) refl)) ∙ sym p ∙ sym (link_past ls e h)
    | inr n ↦ link_past (ls ++ (length ls ∷ [])) e (omega (arith, length_push ls (length ls))) ∙ sym (link_past ls e h)
  ]
]

pub root_push : (ls : List ℕ) (e : ℕ) → root_of (ls ++ (length ls ∷ [])) e ≡ root_of ls e
root_push ls = root_alike ls (ls ++ (length ls ∷ [])) (link_push ls)
