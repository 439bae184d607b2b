-- Closed sets over a book's elements, and over all numbers: where the book names no other numbers, both give the same classes. And where no application
-- of the book is one of id or comp, these are the classes of 01.
use mathlib.Core.Path.{◌≡◌, refl, sym, ap, subst, ◌∙◌}
use mathlib.Core.Logic.{◌↔◌, ◌≢◌, ◌⊎◌, inl, inr}
use mathlib.Core.Bool.{false}
use mathlib.Core.List.{List, [], ◌∷◌, Memᴰ}
use Prim.Native.Nat.{ℕ, ◌≤◌, ◌<◌}
use native.Mathlib.Omega.{arith}
use Rattle.ids.proofs.Sorted.{All, all_at, all_from, all_map, no_test}
use Rattle.signature.specs.Model.{ModelM}
use Rattle.semantics.specs.Structure.{Pair, FuncApp, func_app}
use Rattle.semantics.specs.Valid.{Below}
use Rattle.semantics.specs.Calls.{is_id_or_comp}
use Rattle.semantics.proofs.Operations.{NoOperation}
use Rattle.validity.proofs.Operating.{is_operation}
use Rattle.history.specs.Book.{Book, elements, Partition, Together, none, more, Meet, AppNamed, ClosedSet, Sharing, Shared, Derived}
use Rattle.history.specs.Book.{Fits, SharedByFits, AppliesNeither}
use Rattle.history.specs.MapLaws.{Obeys}
use Rattle.history.proofs.Relation.{Equivalence, Respects, Like, like_self, like_respects}
use Rattle.history.proofs.Drain.{HoldsOfPair}

-- an equality of elements, where there are n
pub record PairNamed (n : ℕ) (p : Pair) : Type 0 where
  pub lhs : p.lhs < n
  pub rhs : p.rhs < n

-- the equalities and applications of a book name its elements only
pub record Named (b : Book) : Type 0 where
  pub equalities : All (PairNamed (elements b)) b.equalities
  pub apps : All (AppNamed (elements b)) b.apps

-- names of elements stay such where there are more
pub pair_more : (n k : ℕ) → n ≤ k → (p : Pair) → PairNamed n p → PairNamed k p
pair_more n k h p i = record { lhs = omega (arith, i.lhs); rhs = omega (arith, i.rhs) }

pub app_more : (n k : ℕ) → n ≤ k → (x : FuncApp) → AppNamed n x → AppNamed k x
app_more n k h x i = record {
  parents = all_map (λ e l. omega arith) x.parents i.parents;
  args = all_map (λ e l. omega arith) x.args i.args;
  result = omega (arith, i.result);
}

-- a relation on all numbers is one on the elements
pub restricted : (n : ℕ) (R : ℕ → ℕ → Type 0) → Equivalence R → Partition n R
restricted n R q = record { same = λ x h. q.same x; flip = λ x y h k. q.flip; trans = λ x y z h k l. q.trans }

-- and a partition of the elements becomes a relation on all numbers: those that are no elements stand alone
module _ (n : ℕ) (R : ℕ → ℕ → Type 0) where
  abbrev Extended : ℕ → ℕ → Type 0
  Extended x y = (x ≡ y) ⊎ ((x < n) × (y < n) × R x y)

  module _ (q : Partition n R) where
    extended : Equivalence Extended
    extended = record { same = λ x. inl refl; flip = λ {x} {y} e. turned x y e; trans = λ {x} {y} {z} e f. on x y z e f }
      where
        turned : (x y : ℕ) → Extended x y → Extended y x
        turned x y (inl e) = inl (sym e)
        turned x y (inr (h, k, r)) = inr (k, h, q.flip x y h k r)

        on : (x y z : ℕ) → Extended x y → Extended y z → Extended x z
        on x y z (inl e) f = subst (λ (w : ℕ). Extended w z) (sym e) f
        on x y z (inr e) (inl f) = subst (λ (w : ℕ). Extended x w) f (inr e)
        on x y z (inr e) (inr f) = inr (e.0, f.1, q.trans x y z e.0 e.1 f.1 e.2 f.2)

    -- of elements both say the same
    within : (x y : ℕ) → x < n → Extended x y → R x y
    within x y h (inl e) = subst (R x) e (q.same x h)
    within x y h (inr e) = e.2

    together_within : (k l : List ℕ) → Below n k → Together Extended k l → Together R k l
    together_within [] [] h none = none
    together_within [] (y ∷ ys) h t = elim t [ ]
    together_within (x ∷ xs) [] h t = elim t [ ]
    together_within (x ∷ xs) (y ∷ ys) h (more e t) = more (within x y h.0 e) (together_within xs ys h.1 t)

    meet_within : (x y : FuncApp) → AppNamed n x → Meet Extended x y → Meet R x y
    meet_within x y i m = record {
      func = m.func;
      parents = together_within x.parents y.parents i.parents m.parents;
      args = together_within x.args y.args i.args m.args;
    }

  -- what is together with an element is one
  inside : (x y : ℕ) → x < n → Extended x y → y < n
  inside x y h (inl e) = subst (λ (z : ℕ). z < n) e h
  inside x y h (inr e) = e.1

  all_inside : (k l : List ℕ) → Below n k → Together Extended k l → Below n l
  all_inside [] [] h none = tt
  all_inside [] (y ∷ ys) h t = elim t [ ]
  all_inside (x ∷ xs) [] h t = elim t [ ]
  all_inside (x ∷ xs) (y ∷ ys) h (more e t) = (inside x y h.0 e, all_inside xs ys h.1 t)

  app_inside : (x y : FuncApp) → AppNamed n x → Meet Extended x y → Extended x.result y.result → AppNamed n y
  app_inside x y i m r = record {
    parents = all_inside x.parents y.parents i.parents m.parents;
    args = all_inside x.args y.args i.args m.args;
    result = inside x.result y.result i.result r;
  }

-- A partition and a claim on applications hold of a book: the elements of each equality are together, and each application has the claim.
abbrev pub HoldsOfBook : (ℕ → ℕ → Type 0) → (FuncApp → Type 0) → Book → Type 0
HoldsOfBook R S b = All (HoldsOfPair R) b.equalities × All S b.apps

-- a closed set over all numbers
pub record ClosedAmongAll (b : Book) (R : ℕ → ℕ → Type 0) (S : FuncApp → Type 0) : Type 0 where
  pub equivalence : Equivalence R
  pub respects : Respects R S
  pub laws : All (Obeys S) b.sig.models
  pub holds : HoldsOfBook R S b

module _ (b : Book) (named : Named b) where
  abbrev n : ℕ
  n = elements b

  -- its applications of elements
  module _ (R : ℕ → ℕ → Type 0) (S : FuncApp → Type 0) where
    abbrev Within : FuncApp → Type 0
    Within x = S x × AppNamed n x

    -- the same value, of another function at another element
    at : {f e x : ℕ} {ps : List ℕ} → Within (func_app f ps (e ∷ []) x) → (k d : ℕ) → d < n → AppNamed n (func_app k ps (d ∷ []) x)
    at t k d h = record { parents = t.1.parents; args = (h, tt); result = t.1.result }

    within_obeys : (m : ModelM) → Obeys S m → Obeys Within m
    within_obeys m o = record {
      id_dom = λ ps a r s. (o.id_dom ps a r s.0, record { parents = s.1.parents; args = (s.1.result, tt); result = s.1.args.0 });
      id_cod = λ ps a r s. (o.id_cod ps a r s.0, record { parents = s.1.parents; args = (s.1.result, tt); result = s.1.args.0 });
      comp_dom = λ ps f g h x s.
          let z = o.comp_dom ps f g h x s.0 in
          (λ t. (z.0 t.0, at t m.dom h s.1.result), λ t. (z.1 t.0, at t m.dom f s.1.args.0));
      comp_cod = λ ps f g h x s.
          let z = o.comp_cod ps f g h x s.0 in
          (λ t. (z.0 t.0, at t m.cod h s.1.result), λ t. (z.1 t.0, at t m.cod g s.1.args.1.0));
      comp_middle = λ ps f g h x s.
          let z = o.comp_middle ps f g h x s.0 in
          (λ t. (z.0 t.0, at t m.dom g s.1.args.1.0), λ t. (z.1 t.0, at t m.cod f s.1.args.0));
    }

    within_closed : ClosedAmongAll b R S → ClosedSet b R Within
    within_closed c = record {
      named = λ x s. s.1;
      equal = all_at (HoldsOfPair R) b.equalities c.holds.0;
      given = λ x m. (all_at S b.apps c.holds.1 x m, all_at (AppNamed n) b.apps named.apps x m);
      replaced = λ x y s i m r. (c.respects.alike x y m r s.0, i);
      functional = λ x y s t m. c.respects.agree x y m s.0 t.0;
      laws = all_map within_obeys b.sig.models c.laws;
    }

    -- and one over the elements, with numbers that stand alone
    extended_closed : Partition n R → ClosedSet b R S → ClosedAmongAll b (Extended n R) S
    extended_closed q c = record {
      equivalence = extended n R q;
      respects = record {
        alike = λ x y m r s.
            let i = c.named x s in
            c.replaced x y s (app_inside n R x y i m r) (meet_within n R q x y i m) (within n R q x.result y.result i.result r);
        agree = λ x y m s t.
            let i = c.named x s in
            inr (i.result, (c.named y t).result, c.functional x y s t (meet_within n R q x y i m));
      };
      laws = c.laws;
      holds = (
        all_from (HoldsOfPair (Extended n R)) b.equalities (λ p m.
            let i = all_at (PairNamed n) b.equalities named.equalities p m in inr (i.lhs, i.rhs, c.equal p m)),
        all_from S b.apps c.given,
      );
    }

-- every closed set over all numbers has them equal
abbrev pub SharedAmongAll : Sharing
SharedAmongAll b x y = (R : ℕ → ℕ → Type 0) (S : FuncApp → Type 0) → ClosedAmongAll b R S → R x y

-- and so of applications
abbrev pub DerivedAmongAll : Book → FuncApp → Type 1
DerivedAmongAll b x = (R : ℕ → ℕ → Type 0) (S : FuncApp → Type 0) → ClosedAmongAll b R S → S x

-- Of such a book both are the same.
module _ (b : Book) (g : Named b) where
  pub shared_all : (x y : ℕ) → Shared b x y → SharedAmongAll b x y
  unfolding Shared
  shared_all x y s R S c = s R (Within b g R S) (restricted (elements b) R c.equivalence) (within_closed b g R S c)

  pub shared_among_all : (x y : ℕ) → x < elements b → Shared b x y ↔ SharedAmongAll b x y
  unfolding Shared
  shared_among_all x y h = (
    shared_all x y,
    λ s R S q c. within (elements b) R q x y h (s (Extended (elements b) R) S (extended_closed b g R S q c)),
  )

  pub derived_among_all : (x : FuncApp) → Derived b x ↔ DerivedAmongAll b x
  unfolding Derived
  derived_among_all x = (
    λ d R S c. (d R (Within b g R S) (restricted (elements b) R c.equivalence) (within_closed b g R S c)).0,
    λ d R S q c. d (Extended (elements b) R) S (extended_closed b g R S q c),
  )

-- The classes of 01.

-- an application of the book, or of a table
abbrev pub In : List FuncApp → FuncApp → Type 0
In l x = Memᴰ x l

-- of applications that are none of id or comp the laws say nothing
pub neither_obeys : (ms : List ModelM) (S : FuncApp → Type 0) → ((x : FuncApp) → S x → NoOperation ms x) → All (Obeys S) ms
neither_obeys ms S plain = all_from (Obeys S) ms (λ m i. record {
  id_dom = λ ps a r s. absurd (no_id m i (func_app m.id ps (a ∷ []) r) s refl);
  id_cod = λ ps a r s. absurd (no_id m i (func_app m.id ps (a ∷ []) r) s refl);
  comp_dom = λ ps f g h x s. absurd (no_comp m i (func_app m.comp ps (f ∷ g ∷ []) h) s refl);
  comp_cod = λ ps f g h x s. absurd (no_comp m i (func_app m.comp ps (f ∷ g ∷ []) h) s refl);
  comp_middle = λ ps f g h x s. absurd (no_comp m i (func_app m.comp ps (f ∷ g ∷ []) h) s refl);
})
  where
    no_id : (m : ModelM) → Memᴰ m ms → (x : FuncApp) → S x → x.func ≢ m.id
    no_id m i x s e = no_test (ap (λ (f : ℕ). is_id_or_comp f ms) e ∙ (is_operation ms m i).0) (plain x s)

    no_comp : (m : ModelM) → Memᴰ m ms → (x : FuncApp) → S x → x.func ≢ m.comp
    no_comp m i x s e = no_test (ap (λ (f : ℕ). is_id_or_comp f ms) e ∙ (is_operation ms m i).1) (plain x s)

pub book_obeys : (b : Book) → AppliesNeither b → (R : ℕ → ℕ → Type 0) → All (Obeys (Like R (In b.apps))) b.sig.models
unfolding AppliesNeither
book_obeys b neither R =
    neither_obeys b.sig.models (Like R (In b.apps)) (λ x k.
    subst (λ (f : ℕ). is_id_or_comp f b.sig.models ≡ false) k.meet.func
    (all_at (NoOperation b.sig.models) b.apps neither k.of k.has))

-- a partition that fits the book and what is alike to an application of the book are a closed set
pub book_closed : (b : Book) → AppliesNeither b → (R : ℕ → ℕ → Type 0) → Equivalence R → Fits b R → ClosedAmongAll b R (Like R (In b.apps))
book_closed b neither R q f = record {
  equivalence = q;
  respects = like_respects R q (In b.apps) f.functional;
  laws = book_obeys b neither R;
  holds = (
    all_from (HoldsOfPair R) b.equalities f.equal,
    all_from (Like R (In b.apps)) b.apps (like_self R q (In b.apps)),
  );
}

module _ (b : Book) (named : Named b) (R : ℕ → ℕ → Type 0) (q : Partition (elements b) R) (f : Fits b R) where
  abbrev E : ℕ → ℕ → Type 0
  E = Extended (elements b) R

  extended_fits : Fits b E
  extended_fits = record {
    equal = λ p m. let i = all_at (PairNamed (elements b)) b.equalities named.equalities p m in inr (i.lhs, i.rhs, f.equal p m);
    functional = λ v w m o t.
        let i = all_at (AppNamed (elements b)) b.apps named.apps v m in
        let j = all_at (AppNamed (elements b)) b.apps named.apps w o in
        inr (i.result, j.result, f.functional v w m o (meet_within (elements b) R q v w i t));
  }

-- the laws put more together
pub fits_shared : (b : Book) (x y : ℕ) → SharedByFits b x y → Shared b x y
unfolding Shared SharedByFits
fits_shared b x y s R S q c = s R q (record {
  equal = c.equal;
  functional = λ v w m o t. c.functional v w (c.given v m) (c.given w o) t;
})

-- and nothing more where no application is one of id or comp
pub neither_shared : (b : Book) → Named b → AppliesNeither b → (x y : ℕ) → x < elements b → Shared b x y ↔ SharedByFits b x y
unfolding SharedByFits
neither_shared b g a x y h = (
  λ s R q f.
      within (elements b) R q x y h
      ((shared_among_all b g x y h).0 s (Extended (elements b) R) (Like (Extended (elements b) R) (In b.apps)) (book_closed b a (Extended (elements b) R) (extended (elements b) R q) (extended_fits b g R q f))),
  fits_shared b x y,
)
