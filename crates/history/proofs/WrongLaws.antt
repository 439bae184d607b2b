-- Wrong versions of the laws of identities and composites, and for each a book with a set that is closed by it and keeps 0 and 1 apart. The book is that
-- of a list in Refutations, which says that the close joins them.
use mathlib.Core.Path.{◌≡◌, refl, sym, subst, ap₂, ◌∙◌}
use mathlib.Core.Logic.{◌↔◌}
use mathlib.Core.Bool.{false}
use mathlib.Core.List.Memᴰ
use mathlib.Core.List.{List, [], ◌∷◌}
use Prim.Native.Nat.{ℕ, zero, suc, ◌<◌}
use native.Mathlib.Omega.{arith}
use Rattle.ids.proofs.Sorted.{All, all_at}
use Rattle.signature.specs.Model.{Sig, sig, empty, ModelM, model, mor, type_entry, func_entry, model_entry}
use Rattle.semantics.specs.Structure.{Pair, pair, FuncApp, func_app}
use Rattle.semantics.specs.Calls.{is_id_or_comp}
use Rattle.history.specs.MapLaws.{Obeys}
use Rattle.history.specs.Book.{Book, book, with_sig, Together, none, more, Meet, AppNamed, Shared, SharedByFits, AppliesNeither}
use Rattle.history.proofs.Elements.{Named, neither_shared}
use Rattle.history.proofs.Versions.{never, Says, SharedBy}

-- The laws, one by one.

abbrev id_dom_law : Says
id_dom_law S m = (ps : List ℕ) (a r : ℕ) → S (func_app m.id ps (a ∷ []) r) → S (func_app m.dom ps (r ∷ []) a)

abbrev id_cod_law : Says
id_cod_law S m = (ps : List ℕ) (a r : ℕ) → S (func_app m.id ps (a ∷ []) r) → S (func_app m.cod ps (r ∷ []) a)

-- of a composite, an equation of two sides: a function of the model, at one of the two maps or at the composite
abbrev comp_at : (ModelM → ℕ) → (ℕ → ℕ → ℕ → ℕ) → (ModelM → ℕ) → (ℕ → ℕ → ℕ → ℕ) → Says
comp_at j u k v S m =
    (ps : List ℕ) (f g h x : ℕ) → S (func_app m.comp ps (f ∷ g ∷ []) h)
    → S (func_app (j m) ps (u f g h ∷ []) x) ↔ S (func_app (k m) ps (v f g h ∷ []) x)

abbrev dom_of : ModelM → ℕ
dom_of m = m.dom

abbrev cod_of : ModelM → ℕ
cod_of m = m.cod

abbrev first : ℕ → ℕ → ℕ → ℕ
first f g h = f

abbrev second : ℕ → ℕ → ℕ → ℕ
second f g h = g

abbrev whole : ℕ → ℕ → ℕ → ℕ
whole f g h = h

abbrev comp_dom_law : Says
comp_dom_law = comp_at dom_of first dom_of whole

abbrev comp_cod_law : Says
comp_cod_law = comp_at cod_of second cod_of whole

abbrev comp_middle_law : Says
comp_middle_law = comp_at cod_of first dom_of second

-- The wrong versions: of an identity dom without cod; the composite's cod from the first map; the law of the middle missing.

abbrev pub no_id_cod : Says
no_id_cod S m = id_dom_law S m × comp_dom_law S m × comp_cod_law S m × comp_middle_law S m

abbrev pub cod_of_first : Says
cod_of_first S m = id_dom_law S m × id_cod_law S m × comp_dom_law S m × comp_at cod_of first cod_of whole S m × comp_middle_law S m

abbrev pub no_middle : Says
no_middle S m = id_dom_law S m × id_cod_law S m × comp_dom_law S m × comp_cod_law S m

-- all laws are there
laws_right : (S : FuncApp → Type 0) (m : ModelM) → Obeys S m ↔ (id_dom_law S m × id_cod_law S m × comp_dom_law S m × comp_cod_law S m × comp_middle_law S m)
laws_right S m = (
  λ o. (o.id_dom, o.id_cod, o.comp_dom, o.comp_cod, o.comp_middle),
  λ l. record { id_dom = l.0; id_cod = l.1; comp_dom = l.2; comp_cod = l.3; comp_middle = l.4 },
)

-- The signature of the books: a model with dom 0, cod 1, id 2 and comp 3.
abbrev pub maps : Sig
maps =
    sig (type_entry model [] ∷ type_entry (mor 0) [] ∷ []) []
    (func_entry [] (1 ∷ []) 0 ∷ func_entry [] (1 ∷ []) 0 ∷ func_entry [] (0 ∷ []) 1 ∷ func_entry [] (1 ∷ 1 ∷ []) 1 ∷ func_entry [] [] 0 ∷ [])
    (model_entry 0 1 0 1 2 3 ∷ []) []

-- two elements and no equality: the applications, latest first
abbrev pub maps_book : List FuncApp → Book
maps_book xs = book maps (false ∷ false ∷ []) [] xs 1

-- Sets of applications with each element alone.

-- by function, parents, arguments and result
abbrev Quadruples : Type 1
Quadruples = ℕ → List ℕ → List ℕ → ℕ → Type 0

abbrev In : Quadruples → FuncApp → Type 0
In H x = H x.func x.parents x.args x.result

alone : (k l : List ℕ) → Together (λ x y. x ≡ y) k l → k ≡ l
alone k l none = refl
alone k l (more e t) = ap₂ ◌∷◌ e (alone _ _ t)

module _ (L : Says) (xs : List FuncApp) (H : Quadruples) where
  -- closed, and 0 and 1 are apart
  record Closes : Type 0 where
    named : (f : ℕ) (ps es : List ℕ) (r : ℕ) → H f ps es r → AppNamed 2 (func_app f ps es r)
    given : All (In H) xs
    once : (f : ℕ) (ps es : List ℕ) (r t : ℕ) → H f ps es r → H f ps es t → r ≡ t
    laws : L (In H) (model_entry 0 1 0 1 2 3)

  apart : Closes → SharedBy Meet Meet L (maps_book xs) 0 1 → ⊥
  unfolding SharedBy
  apart c s =
      let z : ◌≡◌ {A = ℕ} 0 1 = s (λ x y. x ≡ y) (In H) (record { same = λ x h. refl; flip = λ x y h k p. sym p; trans = λ x y z h k l p q. p ∙ q })
      (record {
        named = λ x s. c.named x.func x.parents x.args x.result s;
        equal = λ p m. absurd (Memᴰ.not-nil m);
        given = all_at (In H) xs c.given;
        replaced = λ x y s i m r. subst (In H) (λ i. func_app (m.func i) (alone x.parents y.parents m.parents i) (alone x.args y.args m.args i) (r i)) s;
        functional = λ x y s t m.
            c.once x.func x.parents x.args x.result y.result s
            (subst (λ (z : FuncApp). In H z)
            (λ i. func_app (sym m.func i) (sym (alone x.parents y.parents m.parents) i) (sym (alone x.args y.args m.args) i) y.result) t);
        laws = (c.laws, tt);
      }) in
      omega (arith, z)

-- the applications of the lists

abbrev dom : ℕ → ℕ → FuncApp
dom f a = func_app 0 [] (f ∷ []) a

abbrev cod : ℕ → ℕ → FuncApp
cod f a = func_app 1 [] (f ∷ []) a

abbrev identity : ℕ → ℕ → FuncApp
identity a r = func_app 2 [] (a ∷ []) r

abbrev composite : ℕ → ℕ → ℕ → FuncApp
composite f g h = func_app 3 [] (f ∷ g ∷ []) h

-- of an element below 2
one_named : (f e r : ℕ) → e < 2 → r < 2 → AppNamed 2 (func_app f [] (e ∷ []) r)
one_named f e r h k = record { parents = tt; args = (h, tt); result = k }

two_named : (f d e r : ℕ) → d < 2 → e < 2 → r < 2 → AppNamed 2 (func_app f [] (d ∷ e ∷ []) r)
two_named f d e r h k l = record { parents = tt; args = (h, (k, tt)); result = l }

-- id(0) = 0 and cod(0) = 1: the law of dom gives dom(0) = 0

data IdDom : ℕ → List ℕ → List ℕ → ℕ → Type 0 where
  id₀ : IdDom 2 [] (0 ∷ []) 0
  cod₀ : IdDom 1 [] (0 ∷ []) 1
  dom₀ : IdDom 0 [] (0 ∷ []) 0

abbrev pub id_apps : List FuncApp
id_apps = cod 0 1 ∷ identity 0 0 ∷ []

pub apart_no_id_cod : SharedBy Meet Meet no_id_cod (maps_book id_apps) 0 1 → ⊥
apart_no_id_cod = apart no_id_cod id_apps IdDom (record {
  named = named;
  given = (cod₀, (id₀, tt));
  once = once;
  laws = (id_dom, (λ ps f g h x s. elim s [ ]), (λ ps f g h x s. elim s [ ]), (λ ps f g h x s. elim s [ ]));
})
  where
    named : (f : ℕ) (ps es : List ℕ) (r : ℕ) → IdDom f ps es r → AppNamed 2 (func_app f ps es r)
    named f ps es r id₀ = one_named 2 0 0 (omega arith) (omega arith)
    named f ps es r cod₀ = one_named 1 0 1 (omega arith) (omega arith)
    named f ps es r dom₀ = one_named 0 0 0 (omega arith) (omega arith)

    once : (f : ℕ) (ps es : List ℕ) (r t : ℕ) → IdDom f ps es r → IdDom f ps es t → r ≡ t
    once f ps es r t id₀ id₀ = refl
    once f ps es r t cod₀ cod₀ = refl
    once f ps es r t dom₀ dom₀ = refl

    id_dom : (ps : List ℕ) (a r : ℕ) → IdDom 2 ps (a ∷ []) r → IdDom 0 ps (r ∷ []) a
    id_dom ps a r id₀ = dom₀

-- comp(0, 1) = 0, cod(1) = 0 and cod(0) = 1: the law of the middle gives dom(1) = 1

data FirstCod : ℕ → List ℕ → List ℕ → ℕ → Type 0 where
  comp₀₁ : FirstCod 3 [] (0 ∷ 1 ∷ []) 0
  cod₁ : FirstCod 1 [] (1 ∷ []) 0
  cod₂ : FirstCod 1 [] (0 ∷ []) 1
  dom₁ : FirstCod 0 [] (1 ∷ []) 1

abbrev pub cod_apps : List FuncApp
cod_apps = cod 0 1 ∷ cod 1 0 ∷ composite 0 1 0 ∷ []

pub apart_cod_of_first : SharedBy Meet Meet cod_of_first (maps_book cod_apps) 0 1 → ⊥
apart_cod_of_first = apart cod_of_first cod_apps FirstCod (record {
  named = named;
  given = (cod₂, (cod₁, (comp₀₁, tt)));
  once = once;
  laws = ((λ ps a r s. elim s [ ]), (λ ps a r s. elim s [ ]), at_whole 0, at_whole 1, middle);
})
  where
    named : (f : ℕ) (ps es : List ℕ) (r : ℕ) → FirstCod f ps es r → AppNamed 2 (func_app f ps es r)
    named f ps es r comp₀₁ = two_named 3 0 1 0 (omega arith) (omega arith) (omega arith)
    named f ps es r cod₁ = one_named 1 1 0 (omega arith) (omega arith)
    named f ps es r cod₂ = one_named 1 0 1 (omega arith) (omega arith)
    named f ps es r dom₁ = one_named 0 1 1 (omega arith) (omega arith)

    once : (f : ℕ) (ps es : List ℕ) (r t : ℕ) → FirstCod f ps es r → FirstCod f ps es t → r ≡ t
    once f ps es r t comp₀₁ comp₀₁ = refl
    once f ps es r t cod₁ cod₁ = refl
    once f ps es r t cod₂ cod₂ = refl
    once f ps es r t dom₁ dom₁ = refl

    -- the first map is the composite
    at_whole : (j : ℕ) (ps : List ℕ) (f g h x : ℕ) → FirstCod 3 ps (f ∷ g ∷ []) h → FirstCod j ps (f ∷ []) x ↔ FirstCod j ps (h ∷ []) x
    at_whole j ps f g h x comp₀₁ = (λ s. s, λ s. s)

    to_dom : (x : ℕ) → FirstCod 1 [] (0 ∷ []) x → FirstCod 0 [] (1 ∷ []) x
    to_dom x cod₂ = dom₁

    to_cod : (x : ℕ) → FirstCod 0 [] (1 ∷ []) x → FirstCod 1 [] (0 ∷ []) x
    to_cod x dom₁ = cod₂

    middle : (ps : List ℕ) (f g h x : ℕ) → FirstCod 3 ps (f ∷ g ∷ []) h → FirstCod 1 ps (f ∷ []) x ↔ FirstCod 0 ps (g ∷ []) x
    middle ps f g h x comp₀₁ = (to_dom x, to_cod x)

-- comp(0, 0) = 0, cod(0) = 0 and dom(0) = 1

data Middle : ℕ → List ℕ → List ℕ → ℕ → Type 0 where
  comp₀₀ : Middle 3 [] (0 ∷ 0 ∷ []) 0
  cod₃ : Middle 1 [] (0 ∷ []) 0
  dom₃ : Middle 0 [] (0 ∷ []) 1

abbrev pub middle_apps : List FuncApp
middle_apps = dom 0 1 ∷ cod 0 0 ∷ composite 0 0 0 ∷ []

pub apart_no_middle : SharedBy Meet Meet no_middle (maps_book middle_apps) 0 1 → ⊥
apart_no_middle = apart no_middle middle_apps Middle (record {
  named = named;
  given = (dom₃, (cod₃, (comp₀₀, tt)));
  once = once;
  laws = ((λ ps a r s. elim s [ ]), (λ ps a r s. elim s [ ]), at_first, at_second);
})
  where
    named : (f : ℕ) (ps es : List ℕ) (r : ℕ) → Middle f ps es r → AppNamed 2 (func_app f ps es r)
    named f ps es r comp₀₀ = two_named 3 0 0 0 (omega arith) (omega arith) (omega arith)
    named f ps es r cod₃ = one_named 1 0 0 (omega arith) (omega arith)
    named f ps es r dom₃ = one_named 0 0 1 (omega arith) (omega arith)

    once : (f : ℕ) (ps es : List ℕ) (r t : ℕ) → Middle f ps es r → Middle f ps es t → r ≡ t
    once f ps es r t comp₀₀ comp₀₀ = refl
    once f ps es r t cod₃ cod₃ = refl
    once f ps es r t dom₃ dom₃ = refl

    -- both maps are the composite

    at_first : (ps : List ℕ) (f g h x : ℕ) → Middle 3 ps (f ∷ g ∷ []) h → Middle 0 ps (f ∷ []) x ↔ Middle 0 ps (h ∷ []) x
    at_first ps f g h x comp₀₀ = (λ s. s, λ s. s)

    at_second : (ps : List ℕ) (f g h x : ℕ) → Middle 3 ps (f ∷ g ∷ []) h → Middle 1 ps (g ∷ []) x ↔ Middle 1 ps (h ∷ []) x
    at_second ps f g h x comp₀₀ = (λ s. s, λ s. s)

-- The classes of 01, whatever is declared: id(0) = 0 and cod(0) = 1 do not meet.
pub apart_by_fits : (g : Sig) → SharedByFits (with_sig g (maps_book id_apps)) 0 1 → ⊥
unfolding SharedByFits
apart_by_fits g s =
    let z : ◌≡◌ {A = ℕ} 0 1 = s (λ x y. x ≡ y) (record { same = λ x h. refl; flip = λ x y h k p. sym p; trans = λ x y z h k l p q. p ∙ q })
    (record {
      equal = λ p m. absurd (Memᴰ.not-nil m);
      functional = λ x y m o t.
          all_at (λ (w : FuncApp). x.func ≡ w.func → x.result ≡ w.result) id_apps
          (all_at (λ (v : FuncApp). All (λ (w : FuncApp). v.func ≡ w.func → v.result ≡ w.result) id_apps) id_apps once x m)
          y o t.func;
    }) in
    omega (arith, z)
  where
    once : All (λ (v : FuncApp). All (λ (w : FuncApp). v.func ≡ w.func → v.result ≡ w.result) id_apps) id_apps
    once = ((λ e. refl, (λ e. absurd (omega (arith, e)), tt)), ((λ e. absurd (omega (arith, e)), (λ e. refl, tt)), tt))

-- Without the declarations no law is known, and the classes are those of 01.

abbrev pub undeclared_book : Book
undeclared_book = with_sig empty (maps_book id_apps)

pub apart_undeclared : Shared undeclared_book 0 1 → ⊥
unfolding empty AppliesNeither is_id_or_comp
apart_undeclared s =
    let named : Named undeclared_book = record {
      equalities = tt;
      apps = (one_named 1 0 1 (omega arith) (omega arith), (one_named 2 0 0 (omega arith) (omega arith), tt));
    } in
    apart_by_fits empty ((neither_shared undeclared_book named (refl, (refl, tt)) 0 1 (omega arith)).0 s)

-- Premises that name exact tuples: elements may not be replaced by equal ones. 1 and 2 are one, and so are 0 and 3; comp(1, 1) = 0, dom(2) = 0 and
-- dom(3) = 1, so that no law finds what it needs.

abbrev pub exact_book : Book
exact_book = book maps (false ∷ false ∷ false ∷ false ∷ []) (pair 0 3 ∷ pair 1 2 ∷ []) (dom 3 1 ∷ dom 2 0 ∷ composite 1 1 0 ∷ []) 3

data Exact : ℕ → List ℕ → List ℕ → ℕ → Type 0 where
  comp₁₁ : Exact 3 [] (1 ∷ 1 ∷ []) 0
  dom₄ : Exact 0 [] (2 ∷ []) 0
  dom₅ : Exact 0 [] (3 ∷ []) 1

class_of : ℕ → ℕ
class_of zero = 0
class_of (suc zero) = 1
class_of (suc (suc zero)) = 1
class_of (suc (suc (suc zero))) = 0
class_of (suc (suc (suc (suc n)))) = suc (suc n)

pub apart_exact : SharedBy Meet never Obeys exact_book 0 1 → ⊥
unfolding SharedBy class_of
apart_exact s =
    let z : class_of 0 ≡ class_of 1 = s (λ x y. class_of x ≡ class_of y) (In Exact)
    (record { same = λ x h. refl; flip = λ x y h k p. sym p; trans = λ x y z h k l p q. p ∙ q })
    (record {
      named = λ x s. named x.func x.parents x.args x.result s;
      equal = all_at (λ (p : Pair). class_of p.lhs ≡ class_of p.rhs) exact_book.equalities (refl, (refl, tt));
      given = all_at (In Exact) exact_book.apps (dom₅, (dom₄, (comp₁₁, tt)));
      replaced = λ x y s i m r. absurd m;
      functional = λ x y s t m. once s t m.func m.args;
      laws = (
        record {
          id_dom = λ ps a r s. elim s [ ];
          id_cod = λ ps a r s. elim s [ ];
          comp_dom = comp_dom;
          comp_cod = comp_cod;
          comp_middle = comp_middle;
        },
        tt,
      );
    }) in
    omega (arith, z)
  where
    named : (f : ℕ) (ps es : List ℕ) (r : ℕ) → Exact f ps es r → AppNamed 4 (func_app f ps es r)
    named f ps es r comp₁₁ = record { parents = tt; args = (omega arith, (omega arith, tt)); result = omega arith }
    named f ps es r dom₄ = record { parents = tt; args = (omega arith, tt); result = omega arith }
    named f ps es r dom₅ = record { parents = tt; args = (omega arith, tt); result = omega arith }

    differ : Together (λ x y. class_of x ≡ class_of y) (2 ∷ []) (3 ∷ []) → ⊥
    differ (more e t) = omega (arith, e)

    differ_too : Together (λ x y. class_of x ≡ class_of y) (3 ∷ []) (2 ∷ []) → ⊥
    differ_too (more e t) = omega (arith, e)

    once : {f g : ℕ} {ps qs es ds : List ℕ} {r t : ℕ} → Exact f ps es r → Exact g qs ds t → f ≡ g → Together (λ x y. class_of x ≡ class_of y) es ds → class_of r ≡ class_of t
    once comp₁₁ comp₁₁ e h = refl
    once comp₁₁ dom₄ e h = absurd (omega (arith, e))
    once comp₁₁ dom₅ e h = absurd (omega (arith, e))
    once dom₄ comp₁₁ e h = absurd (omega (arith, e))
    once dom₄ dom₄ e h = refl
    once dom₄ dom₅ e h = absurd (differ h)
    once dom₅ comp₁₁ e h = absurd (omega (arith, e))
    once dom₅ dom₄ e h = absurd (differ_too h)
    once dom₅ dom₅ e h = refl

    comp_dom : (ps : List ℕ) (f g h x : ℕ) → Exact 3 ps (f ∷ g ∷ []) h → Exact 0 ps (f ∷ []) x ↔ Exact 0 ps (h ∷ []) x
    comp_dom ps f g h x comp₁₁ = (λ s. elim s [ ], λ s. elim s [ ])

    comp_cod : (ps : List ℕ) (f g h x : ℕ) → Exact 3 ps (f ∷ g ∷ []) h → Exact 1 ps (g ∷ []) x ↔ Exact 1 ps (h ∷ []) x
    comp_cod ps f g h x comp₁₁ = (λ s. elim s [ ], λ s. elim s [ ])

    comp_middle : (ps : List ℕ) (f g h x : ℕ) → Exact 3 ps (f ∷ g ∷ []) h → Exact 1 ps (f ∷ []) x ↔ Exact 0 ps (g ∷ []) x
    comp_middle ps f g h x comp₁₁ = (λ s. elim s [ ], λ s. elim s [ ])
