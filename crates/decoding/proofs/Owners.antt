-- Laws of the elements of facts, by where the chains begin: one chain more.
use mathlib.Core.Path.{◌≡◌, refl, sym, ap, subst, ◌∙◌}
use mathlib.Core.Logic.{⊎_elim}
use mathlib.Core.Bool.{Bool, true, false, ◌&&◌}
use mathlib.Core.List.{List, [], ◌∷◌, ◌++◌}
use Prim.Native.Nat.{ℕ, zero, suc, ◌+◌, ◌-◌, ◌*◌, ◌≤◌, ◌<◌}
use native.Mathlib.Nat.{add-zero}
use native.Mathlib.Numerals.{add-one}
use native.Mathlib.Omega.{arith}
use lib.ListN.{length, take, drop, get_or, replicate, length-replicate, length-take}
use lib.Seq.{get_or-take, take-suc, take_all, length-take-le}
use lib.Dec.{ltb, leb}
use borrow.Author.Tests.{lt-ltb, le-leb, lt-leb}
use Rattle.unification.proofs.Numbers.{less_or}
use Rattle.semantics.specs.Structure.{max_facts}
use Rattle.semantics.specs.Sheet.{words}
use Rattle.file.specs.File.{owner, owner_from}
use Rattle.file.proofs.LayoutLaws.{words_take, words_length}
use Rattle.decoding.specs.View.{SetFrom, Owners}
use Rattle.decoding.proofs.Reading.{word_at}

-- Owners.

-- a chain that begins at f holds the index i
abbrev holds : ℕ → ℕ → Bool
holds f i = ltb 0 f && leb f i

abbrev either : Bool → ℕ → ℕ → ℕ
either b x y = elim b [ true ↦ x | false ↦ y ]

-- the owner by one chain more: the last one, where it holds the index
owner_snoc : (i e last : ℕ) (fs : List ℕ) (f : ℕ) → owner_from i e last (fs ++ (f ∷ [])) ≡ either (holds f i) (e + length fs) (owner_from i e last fs)
unfolding owner_from
owner_snoc i e last [] f = ap (λ (m : ℕ). either (holds f i) m last) (sym (add-zero e))
owner_snoc i e last (g ∷ fs) f = go (holds g i) (owner_snoc i (suc e) e fs f) (owner_snoc i (suc e) last fs f)
  where
    same : suc e + length fs ≡ e + suc (length fs)
    same = omega arith

    go : (b : Bool)
        → owner_from i (suc e) e (fs ++ (f ∷ [])) ≡ either (holds f i) (suc e + length fs) (owner_from i (suc e) e fs)
        → owner_from i (suc e) last (fs ++ (f ∷ [])) ≡ either (holds f i) (suc e + length fs) (owner_from i (suc e) last fs)
        → either b (owner_from i (suc e) e (fs ++ (f ∷ []))) (owner_from i (suc e) last (fs ++ (f ∷ [])))
        ≡ either (holds f i) (e + suc (length fs)) (either b (owner_from i (suc e) e fs) (owner_from i (suc e) last fs))
    go true p q = p ∙ ap (λ (m : ℕ). either (holds f i) m (owner_from i (suc e) e fs)) same
    go false p q = q ∙ ap (λ (m : ℕ). either (holds f i) m (owner_from i (suc e) last fs)) same

module _ (firsts : List ℕ) (e : ℕ) (there : e < length firsts) where
  abbrev first : ℕ
  first = get_or firsts e 0

  -- the owner by the first e + 1 chains
  owner_more : (i : ℕ) → owner i (take (e + 1) firsts) ≡ either (holds first i) e (owner i (take e firsts))
  owner_more i =
      let many : 0 + length (take e firsts) ≡ e = omega (arith, length-take e firsts) in
      rw (add-one, take-suc firsts e 0 there)
      (owner_snoc i 0 0 (take e firsts) first ∙ ap (λ (m : ℕ). either (holds first i) m (owner i (take e firsts))) many)

  module _ {n : ℕ} {owners : List ℕ} (o : Owners (take e firsts) n owners) where
    -- an element without a chain owns nothing
    owners_skip : first ≡ 0 → Owners (take (e + 1) firsts) n owners
    owners_skip z = record {
      each = λ i h. o.each i h ∙ sym (owner_more (suc i) ∙ rw z refl);
      long = o.long;
    }

    -- one with a chain owns what follows
    owners_set : {after : List ℕ} → 0 < first → SetFrom (first - 1) n e owners after → Owners (take (e + 1) firsts) n after
    owners_set p s = record {
      each = λ i h.
          ⊎_elim
          (λ (l : i < first - 1). s.below i l ∙ o.each i h ∙ sym (owner_more (suc i) ∙ rw (lt-ltb 0 first p, lt-leb first (suc i) (omega arith)) refl))
          (λ (l : first - 1 ≤ i). s.set i l h ∙ sym (owner_more (suc i) ∙ rw (lt-ltb 0 first p, le-leb first (suc i) (omega arith)) refl)) (less_or i (first - 1));
      long = s.long ∙ o.long;
    }

zero_at : (k i : ℕ) → ◌≡◌ {A = ℕ} (get_or (replicate k 0) i 0) 0
zero_at zero i = refl
zero_at (suc k) zero = refl
zero_at (suc k) (suc i) = zero_at k i

owners_none : (firsts : List ℕ) (n : ℕ) → Owners (take 0 firsts) n (replicate max_facts 0)
unfolding owner_from
owners_none firsts n = record { each = λ i h. zero_at max_facts i; long = length-replicate {A = ℕ} max_facts 0 }

-- The chains of a file.

module _ (heads : List ℕ) (els n : ℕ) where
  abbrev firsts : List ℕ
  firsts = words (take (2 * els) heads)

  -- the first e elements are looked at
  pub record Owned (list : List ℕ) (e : ℕ) : Type 0 where
    pub few : e ≤ els
    pub owners : Owners (take e firsts) n list

  pub owned_none : Owned (replicate max_facts 0) 0
  owned_none = record { few = omega arith; owners = owners_none firsts n }

  module _ (room : 2 * els ≤ length heads) {list : List ℕ} {e : ℕ} (so_far : Owned list e) where
    many : length firsts ≡ els
    many = words_length els (take (2 * els) heads) (length-take-le (2 * els) heads room)

    -- the first index of the element, as it is read
    module _ {w : ℕ} (h : e < els) (is : w ≡ get_or (words (drop (2 * e) heads)) 0 0) where
      first_is : w ≡ get_or firsts e 0
      first_is =
          is ∙ word_at heads e ∙ sym (ap (λ (l : List ℕ). get_or l e 0) (words_take els heads) ∙ get_or-take els (words heads) e 0 h)

      pub owned_skip : w ≡ 0 → Owned list (e + 1)
      owned_skip z = record {
        few = omega arith;
        owners = owners_skip firsts e (omega (arith, many)) so_far.owners (sym first_is ∙ z);
      }

      pub owned_set : {after : List ℕ} → (w ≡ 0 → ⊥) → SetFrom (w - 1) n e list after → Owned after (e + 1)
      owned_set {after} z s = record {
        few = omega arith;
        owners =
            owners_set firsts e (omega (arith, many)) so_far.owners (omega (arith, first_is))
            (subst (λ (f : ℕ). SetFrom (f - 1) n e list after) first_is s);
      }

    pub owned_all : els ≤ e → Owners firsts n list
    owned_all h = rw (take_all e firsts (omega (arith, many))) at so_far.owners
