-- The orders of the tables are orders, and equal entries have equal keys.
use mathlib.Core.Path.{◌≡◌, refl, sym, ap, ap₂, ◌∙◌}
use mathlib.Core.Bool.{Bool, true, false}
use mathlib.Core.List.{List, [], ◌∷◌}
use Prim.Native.Nat.{ℕ, ◌≤◌, ◌<◌}
use native.Mathlib.Nat.{le_refl}
use native.Mathlib.Omega.{arith}
use lib.Dec.{ltb}
use borrow.Author.Tests.{ltb-true, ltb-false}
use Rattle.ids.specs.declared.Ordering.{Ordering}
use Rattle.ids.specs.declared.Ordering.TheVariants.{Less, Equal, Greater}
use Rattle.ids.specs.Order.{order_of, then_of, lex_of}
use Rattle.ids.proofs.Orders.{less, greater, equal}
use Rattle.ids.proofs.Sorted.{Ordered, swapped, less_equal, less_greater, equal_greater, alike_right}
use Rattle.semantics.specs.Structure.{Fact, FuncApp, PredApp, Var, Ambient, compare_fact, compare_func_app, compare_pred_app, compare_var}
use Rattle.semantics.specs.Structure.{compare_ambient, fact}

-- Numbers.

-- the order that two tests decide: whether the first is below the second, and whether the second is below the first
abbrev order_by : Bool → Bool → Ordering
order_by t u = elim t [ true ↦ Less | false ↦ elim u [ true ↦ Greater | false ↦ Equal ] ]

-- what the order of two numbers says
pub order_less : (a b : ℕ) → order_of a b ≡ Less → a < b
order_less a b = go (ltb a b) (ltb b a) (ltb-true a b)
  where
    go : (t u : Bool) → (t ≡ true → a < b) → order_by t u ≡ Less → a < b
    go true u f e = f refl
    go false true f e = less_greater e refl
    go false false f e = less_equal e refl

pub order_equal : (a b : ℕ) → order_of a b ≡ Equal → a ≡ b
order_equal a b = go (ltb a b) (ltb b a) (ltb-false a b) (ltb-false b a)
  where
    go : (t u : Bool) → (t ≡ false → b ≤ a) → (u ≡ false → a ≤ b)
        → order_by t u ≡ Equal → a ≡ b
    go true u f g e = less_equal refl e
    go false true f g e = equal_greater e refl
    go false false f g e = omega (arith, f refl, g refl)

pub order_ordered : Ordered order_of
order_ordered = record {
  self = λ a. equal a a (le_refl a) (le_refl a);
  flip = flips;
  trans = λ a b c p q. less a c (omega (arith, order_less a b p, order_less b c q));
  alike = λ a b c e. ap (λ (x : ℕ). order_of x c) (order_equal a b e);
}
  where
    flips : (a b : ℕ) → order_of b a ≡ swapped (order_of a b)
    flips a b = go (ltb a b) (ltb b a) refl refl
      where
        go : (t u : Bool) → ltb a b ≡ t → ltb b a ≡ u → order_of b a ≡ swapped (order_by t u)
        go true u p q = greater b a (ltb-true a b p)
        go false true p q = less b a (ltb-true b a q)
        go false false p q = equal b a (ltb-false b a q) (ltb-false a b p)

-- One order, then another.

then_flip : (o p : Ordering) → then_of (swapped o) (swapped p) ≡ swapped (then_of o p)
then_flip Less p = refl
then_flip Equal p = refl
then_flip Greater p = refl

pub then_equal : (o p : Ordering) → then_of o p ≡ Equal → (o ≡ Equal) × (p ≡ Equal)
then_equal Less p e = less_equal refl e
then_equal Equal p e = (refl, e)
then_equal Greater p e = equal_greater e refl

module _ {A : Type 0} {cmp : A → A → Ordering} (o : Ordered cmp) (x y z : A) (p q r : Ordering) where
  then_trans : (p ≡ Less → q ≡ Less → r ≡ Less) → then_of (cmp x y) p ≡ Less → then_of (cmp y z) q ≡ Less → then_of (cmp x z) r ≡ Less
  then_trans f = go (cmp x y) (cmp y z) refl refl
    where
      go : (s t : Ordering) → cmp x y ≡ s → cmp y z ≡ t → then_of s p ≡ Less → then_of t q ≡ Less → then_of (cmp x z) r ≡ Less
      go Less Less a b d e = rw (o.trans x y z a b)
      go Less Equal a b d e = rw (sym (alike_right o y z x b) ∙ a)
      go Less Greater a b d e = less_greater e refl
      go Equal Less a b d e = rw (o.alike x y z a ∙ b)
      go Equal Equal a b d e = rw (o.alike x y z a ∙ b) (f d e)
      go Equal Greater a b d e = less_greater e refl
      go Greater t a b d e = less_greater d refl

-- a then b
pub then_ordered : {A : Type 0} {a b : A → A → Ordering} → Ordered a → Ordered b → Ordered (λ x y. then_of (a x y) (b x y))
then_ordered {A} {a} {b} o p = record {
  self = λ x. rw (o.self x) (p.self x);
  flip = λ x y. rw (o.flip x y, p.flip x y) (then_flip (a x y) (b x y));
  trans = λ x y z. then_trans o x y z (b x y) (b y z) (b x z) (p.trans x y z);
  alike = λ x y z e. let h = then_equal (a x y) (b x y) e in rw (o.alike x y z h.0, p.alike x y z h.1);
}

-- the order of what f gives
pub by_ordered : {A B : Type 0} {cmp : B → B → Ordering} (f : A → B) → Ordered cmp → Ordered (λ x y. cmp (f x) (f y))
by_ordered f o = record {
  self = λ x. o.self (f x);
  flip = λ x y. o.flip (f x) (f y);
  trans = λ x y z. o.trans (f x) (f y) (f z);
  alike = λ x y z. o.alike (f x) (f y) (f z);
}

-- Lists of numbers.

pub lex_equal : (k l : List ℕ) → lex_of k l ≡ Equal → k ≡ l
lex_equal [] [] e = refl
lex_equal [] (y ∷ ys) e = less_equal refl e
lex_equal (x ∷ xs) [] e = equal_greater e refl
lex_equal (x ∷ xs) (y ∷ ys) e = let h = then_equal (order_of x y) (lex_of xs ys) e in ap₂ ◌∷◌ (order_equal x y h.0) (lex_equal xs ys h.1)

lex_self : (k : List ℕ) → lex_of k k ≡ Equal
lex_self [] = refl
lex_self (x ∷ xs) = rw (order_ordered.self x) (lex_self xs)

lex_flip : (k l : List ℕ) → lex_of l k ≡ swapped (lex_of k l)
lex_flip [] [] = refl
lex_flip [] (y ∷ ys) = refl
lex_flip (x ∷ xs) [] = refl
lex_flip (x ∷ xs) (y ∷ ys) = rw (order_ordered.flip x y, lex_flip xs ys) (then_flip (order_of x y) (lex_of xs ys))

lex_trans : (k l m : List ℕ) → lex_of k l ≡ Less → lex_of l m ≡ Less → lex_of k m ≡ Less
lex_trans [] [] m p q = less_equal p refl
lex_trans [] (y ∷ ys) [] p q = less_greater q refl
lex_trans [] (y ∷ ys) (z ∷ zs) p q = refl
lex_trans (x ∷ xs) [] m p q = less_greater p refl
lex_trans (x ∷ xs) (y ∷ ys) [] p q = less_greater q refl
lex_trans (x ∷ xs) (y ∷ ys) (z ∷ zs) p q = then_trans order_ordered x y z (lex_of xs ys) (lex_of ys zs) (lex_of xs zs) (lex_trans xs ys zs) p q

pub lex_ordered : Ordered lex_of
lex_ordered = record { self = lex_self; flip = lex_flip; trans = lex_trans; alike = λ k l m e. ap (λ (x : List ℕ). lex_of x m) (lex_equal k l e) }

-- The tables.

pub fact_ordered : Ordered compare_fact
unfolding compare_fact
fact_ordered =
    then_ordered (by_ordered (λ (f : Fact). f.el) order_ordered)
    (then_ordered (by_ordered (λ (f : Fact). f.typ) order_ordered) (by_ordered (λ (f : Fact). f.parents) lex_ordered))

pub func_app_ordered : Ordered compare_func_app
unfolding compare_func_app
func_app_ordered =
    then_ordered (by_ordered (λ (x : FuncApp). x.func) order_ordered)
    (then_ordered (by_ordered (λ (x : FuncApp). x.parents) lex_ordered) (by_ordered (λ (x : FuncApp). x.args) lex_ordered))

pub pred_app_ordered : Ordered compare_pred_app
unfolding compare_pred_app
pred_app_ordered =
    then_ordered (by_ordered (λ (x : PredApp). x.pred) order_ordered)
    (then_ordered (by_ordered (λ (x : PredApp). x.parents) lex_ordered) (by_ordered (λ (x : PredApp). x.args) lex_ordered))

pub var_ordered : Ordered compare_var
unfolding compare_var
var_ordered = by_ordered (λ (v : Var). v.key) order_ordered

pub ambient_ordered : Ordered compare_ambient
unfolding compare_ambient
ambient_ordered = by_ordered (λ (a : Ambient). a.typ) order_ordered

-- Equal entries have equal keys: a fact and a predicate application are their keys.

pub fact_same : (f g : Fact) → compare_fact f g ≡ Equal → f ≡ g
unfolding compare_fact
fact_same f g e =
    let h = then_equal (order_of f.el g.el) (then_of (order_of f.typ g.typ) (lex_of f.parents g.parents)) e in
    let k = then_equal (order_of f.typ g.typ) (lex_of f.parents g.parents) h.1 in
    let a = order_equal f.el g.el h.0 in
    let b = order_equal f.typ g.typ k.0 in
    let c = lex_equal f.parents g.parents k.1 in
    λ i. fact (a i) (b i) (c i)

pub record SameKey (x y : FuncApp) : Type 0 where
  pub func : x.func ≡ y.func
  pub parents : x.parents ≡ y.parents
  pub args : x.args ≡ y.args

pub func_app_same : (x y : FuncApp) → compare_func_app x y ≡ Equal → SameKey x y
unfolding compare_func_app
func_app_same x y e =
    let h = then_equal (order_of x.func y.func) (then_of (lex_of x.parents y.parents) (lex_of x.args y.args)) e in
    let k = then_equal (lex_of x.parents y.parents) (lex_of x.args y.args) h.1 in
    record {
      func = order_equal x.func y.func h.0;
      parents = lex_equal x.parents y.parents k.0;
      args = lex_equal x.args y.args k.1;
    }

pub same_func_app : (x y : FuncApp) → SameKey x y → compare_func_app x y ≡ Equal
unfolding compare_func_app
same_func_app x y s =
    rw (s.func, s.parents, s.args)
    (rw (order_ordered.self y.func, lex_ordered.self y.parents, lex_ordered.self y.args))
