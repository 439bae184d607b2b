-- Partitions of all numbers, and what they make of applications.
use mathlib.Core.Path.{◌≡◌, refl, sym, subst, ◌∙◌}
use mathlib.Core.List.{List, [], ◌∷◌, map}
use Prim.Native.Nat.{ℕ}
use Rattle.unification.specs.Roots.{root_of}
use Rattle.unification.proofs.Laws.{root_root}
use Rattle.semantics.specs.Structure.{FuncApp, canonical_func_app}
use Rattle.history.specs.Book.{Together, none, more, Meet}

-- R is a partition of all numbers, elements or not: the proofs go by these, and `shared_among_all` (Elements) says that the classes are the same
pub record Equivalence (R : ℕ → ℕ → Type 0) : Type 0 where
  pub same : (x : ℕ) → R x x
  pub flip : {x y : ℕ} → R x y → R y x
  pub trans : {x y z : ℕ} → R x y → R y z → R x z

-- each element is together with its root
abbrev pub Rooted : (ℕ → ℕ → Type 0) → List ℕ → Type 0
Rooted R ls = (e : ℕ) → R (root_of ls e) e

-- to have one root
abbrev pub OneRoot : List ℕ → ℕ → ℕ → Type 0
OneRoot ls x y = root_of ls x ≡ root_of ls y

pub one_root : (ls : List ℕ) → Equivalence (OneRoot ls)
one_root ls = record { same = λ x. refl; flip = λ p. sym p; trans = λ p q. p ∙ q }

pub one_rooted : (ls : List ℕ) → Rooted (OneRoot ls) ls
one_rooted ls = root_root ls

-- a claim on applications that goes with a partition: alike ones share it, and two that have it and meet have their results together
pub record Respects (R : ℕ → ℕ → Type 0) (S : FuncApp → Type 0) : Type 0 where
  pub alike : (x y : FuncApp) → Meet R x y → R x.result y.result → S x → S y
  pub agree : (x y : FuncApp) → Meet R x y → S x → S y → R x.result y.result

-- lists of one and of two that are together

pub together_one : {R : ℕ → ℕ → Type 0} {a b : ℕ} → R a b → Together R (a ∷ []) (b ∷ [])
together_one h = more h none

pub with_one : {R : ℕ → ℕ → Type 0} {a : ℕ} (l : List ℕ) → Together R l (a ∷ []) → (x : ℕ) × (l ≡ x ∷ []) × R x a
with_one l (more {x} h none) = (x, refl, h)

pub with_two : {R : ℕ → ℕ → Type 0} {a b : ℕ} (l : List ℕ) → Together R l (a ∷ b ∷ []) → (x : ℕ) × (y : ℕ) × (l ≡ x ∷ y ∷ []) × R x a × R y b
with_two l (more {x = x} h (more {x = y} k none)) = (x, y, refl, h, k)

-- x is alike to an application that has App
pub record Like (R : ℕ → ℕ → Type 0) (App : FuncApp → Type 0) (x : FuncApp) : Type 0 where
  pub of : FuncApp
  pub has : App of
  pub meet : Meet R of x
  pub result : R of.result x.result

module _ (R : ℕ → ℕ → Type 0) (q : Equivalence R) where
  pub together_same : (l : List ℕ) → Together R l l
  together_same [] = none
  together_same (x ∷ xs) = more (q.same x) (together_same xs)

  together_equal : (k l : List ℕ) → k ≡ l → Together R k l
  together_equal k l p = subst (Together R k) p (together_same k)

  pub together_flip : {k l : List ℕ} → Together R k l → Together R l k
  together_flip none = none
  together_flip (more a h) = more (q.flip a) (together_flip h)

  together_trans : {k l m : List ℕ} → Together R k l → Together R l m → Together R k m
  together_trans none g = g
  together_trans (more a h) (more b g) = more (q.trans a b) (together_trans h g)

  together_roots : (ls : List ℕ) → Rooted R ls → (l : List ℕ) → Together R (map (root_of ls) l) l
  together_roots ls r [] = none
  together_roots ls r (x ∷ xs) = more (r x) (together_roots ls r xs)

  pub meet_key : (x y : FuncApp) → x.func ≡ y.func → x.parents ≡ y.parents → x.args ≡ y.args → Meet R x y
  meet_key x y f p a = record { func = f; parents = together_equal x.parents y.parents p; args = together_equal x.args y.args a }

  pub meet_same : (x : FuncApp) → Meet R x x
  meet_same x = meet_key x x refl refl refl

  pub meet_flip : {x y : FuncApp} → Meet R x y → Meet R y x
  meet_flip m = record { func = sym m.func; parents = together_flip m.parents; args = together_flip m.args }

  pub meet_trans : {x y z : FuncApp} → Meet R x y → Meet R y z → Meet R x z
  meet_trans m n = record {
    func = m.func ∙ n.func;
    parents = together_trans m.parents n.parents;
    args = together_trans m.args n.args;
  }

  -- an application and its image under the roots
  pub meet_root : (ls : List ℕ) → Rooted R ls → (x : FuncApp) → Meet R (canonical_func_app ls x) x
  unfolding canonical_func_app
  meet_root ls r x = record { func = refl; parents = together_roots ls r x.parents; args = together_roots ls r x.args }

  module _ (S : FuncApp → Type 0) (law : Respects R S) (ls : List ℕ) (r : Rooted R ls) (x : FuncApp) where
    pub says_image : S x → S (canonical_func_app ls x)
    unfolding canonical_func_app
    says_image h = law.alike x (canonical_func_app ls x) (meet_flip (meet_root ls r x)) (q.flip (r x.result)) h

    pub image_says : S (canonical_func_app ls x) → S x
    unfolding canonical_func_app
    image_says h = law.alike (canonical_func_app ls x) x (meet_root ls r x) (r x.result) h

  module _ (App : FuncApp → Type 0) where
    pub like_self : (x : FuncApp) → App x → Like R App x
    like_self x h = record { of = x; has = h; meet = meet_same x; result = q.same x.result }

    pub like_respects : ((x y : FuncApp) → App x → App y → Meet R x y → R x.result y.result) → Respects R (Like R App)
    like_respects h = record {
      alike = λ x y m r s. record { of = s.of; has = s.has; meet = meet_trans s.meet m; result = q.trans s.result r };
      agree = λ x y m s t.
          q.trans (q.flip s.result)
          (q.trans (h s.of t.of s.has t.has (meet_trans s.meet (meet_trans m (meet_flip t.meet)))) t.result);
    }
