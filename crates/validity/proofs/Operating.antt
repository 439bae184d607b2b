-- What the laws of identities and composites insert into a valid structure may stand in one.
use mathlib.Core.Path.{◌≡◌, refl, ap, sym, subst, ◌∙◌}
use mathlib.Core.Logic.{inl, inr}
use mathlib.Core.Bool.{Bool, true, false, ◌&&◌, ◌||◌}
use mathlib.Core.List.Memᴰ
use mathlib.Core.List.{List, [], ◌∷◌, Memᴰ}
use Prim.Native.Nat.{ℕ, ◌<◌}
use native.Mathlib.Omega.{arith}
use lib.ListN.{length}
use lib.Dec.{eqb, ltb}
use borrow.Author.Tests.{eqb-true, eq-eqb, ltb-false}
use Rattle.ids.proofs.Sorted.{All, all_at, all_from, all_join}
use Rattle.unification.specs.Roots.{root_of}
use Rattle.unification.proofs.Laws.{root_le}
use Rattle.signature.specs.Model.{Sig, ModelM, MorAppM}
use Rattle.signature.specs.Calls.{in_mor_apps}
use Rattle.semantics.specs.Structure.{FuncApp, func_app}
use Rattle.semantics.specs.MapLaws.{MapLaw, identity_laws, composition_laws, map_laws_in, map_laws_of, map_laws}
use Rattle.semantics.specs.Calls.{is_id_or_comp, is_reserved, misapplies, is_misapplied}
use Rattle.semantics.specs.Valid.{Counts, counts_at, FuncAppValid, Listed, ModelValid, ValidSig, Unreserved, WellApplied}
use Rattle.semantics.proofs.Cases.{and_fails, or_first, or_second}
use Rattle.semantics.proofs.ModelFunctions.{dom_cod_none}
use Rattle.semantics.proofs.Operations.{MaySay}

-- Models that have operations.

-- the id and the comp of a model
pub is_operation : (ms : List ModelM) (m : ModelM) → Memᴰ m ms → (is_id_or_comp m.id ms ≡ true) × (is_id_or_comp m.comp ms ≡ true)
unfolding is_id_or_comp
is_operation [] m k = absurd (Memᴰ.not-nil k)
is_operation (n ∷ ns) m k = elim (Memᴰ.cases_cons k) [
  | inl q ↦
      subst
      (λ (x : ModelM). (is_id_or_comp x.id (n ∷ ns) ≡ true) × (is_id_or_comp x.comp (n ∷ ns) ≡ true))
      (sym q)
      (rw (eq-eqb n.id n.id refl), rw (eq-eqb n.comp n.comp refl) (own (eqb n.comp n.id) (is_id_or_comp n.comp ns)))
  | inr j ↦
      let r = is_operation ns m j in (
        rw r.0 (later (eqb m.id n.id || eqb m.id n.comp)),
        rw r.1 (later (eqb m.comp n.id || eqb m.comp n.comp)),
      )
]
  where
    own : (a b : Bool) → ((a || true) || b) ≡ true
    own true b = refl
    own false b = refl

    later : (a : Bool) → (a || true) ≡ true
    later true = refl
    later false = refl

-- an unreserved one is applied only where there is no morphism application function
pub no_mor_apps : (g : Sig) (f : ℕ) → is_id_or_comp f g.models ≡ true → is_reserved g f ≡ false → g.mor_apps ≡ []
unfolding is_reserved
no_mor_apps g f op free = go g.mor_apps refl
  where
    go : (l : List MorAppM) → g.mor_apps ≡ l → g.mor_apps ≡ []
    go [] e = e
    go (m ∷ ms) e =
        let few = ltb 0 (length g.mor_apps) in
        let none = and_fails (is_id_or_comp f g.models) few op (or_second (in_mor_apps f g.mor_apps) (is_id_or_comp f g.models && few) free) in
        absurd (omega (arith, ltb-false 0 (length g.mor_apps) none, ap length e))

-- and there nothing is reserved
none_reserved : (g : Sig) (f : ℕ) → g.mor_apps ≡ [] → is_reserved g f ≡ false
unfolding is_reserved in_mor_apps
none_reserved g f e = rw e (either (is_id_or_comp f g.models))
  where
    either : (b : Bool) → (b && false) ≡ false
    either true = refl
    either false = refl

-- what is neither id nor comp may have any number of arguments
any_arity : (x : FuncApp) (ms : List ModelM) → is_id_or_comp x.func ms ≡ false → is_misapplied x ms ≡ false
unfolding is_id_or_comp is_misapplied misapplies
any_arity x [] e = refl
any_arity x (m ∷ ms) e =
    let id = eqb x.func m.id in
    let comp = eqb x.func m.comp in
    let here = or_first (id || comp) (is_id_or_comp x.func ms) e in
    rw (or_first id comp here, or_second id comp here) (any_arity x ms (or_second (id || comp) (is_id_or_comp x.func ms) e))

module _ (g : Sig) (c : Counts) where
  -- an application that may stand in a valid structure
  pub record Admitted (x : FuncApp) : Type 0 where
    pub valid : FuncAppValid c x
    pub unreserved : Unreserved g x
    pub well_applied : WellApplied g x

module _ (g : Sig) (v : ValidSig g) (n : ℕ) where
  abbrev c : Counts
  c = counts_at g n

  -- a function that is declared and neither id nor comp
  record Plain (f : ℕ) : Type 0 where
    declared : f < length g.funcs
    neither : is_id_or_comp f g.models ≡ false

  -- what the laws use of a model
  record Operates (m : ModelM) : Type 0 where
    dom : Plain m.dom
    cod : Plain m.cod
    id : is_id_or_comp m.id g.models ≡ true
    comp : is_id_or_comp m.comp g.models ≡ true

  operates : All Operates g.models
  operates = all_from Operates g.models (λ m k.
      let each = all_at (ModelValid (length g.types) (length g.funcs)) g.models v.models.each m k in
      let none = dom_cod_none g.models v.once m k in
      let own = is_operation g.models m k in
      record {
        dom = record { declared = each.funcs.0; neither = none.0 };
        cod = record { declared = each.funcs.1.0; neither = none.1 };
        id = own.0;
        comp = own.1;
      })

  abbrev May : MapLaw → Type 0
  May = MaySay (Admitted g c) (λ e. e < n)

  module _ (ps : List ℕ) (parents : Listed n ps) (free : g.mor_apps ≡ []) where
    admitted : (f : ℕ) → Plain f → (a r : ℕ) → a < n → r < n → Admitted g c (func_app f ps (a ∷ []) r)
    admitted f p a r la lr = record {
      valid = record { func = p.declared; parents = parents; args = record { short = omega arith; below = (la, tt) }; result = lr };
      unreserved = none_reserved g f free;
      well_applied = any_arity (func_app f ps (a ∷ []) r) g.models p.neither;
    }

    gives : (f : ℕ) → Plain f → (a : ℕ) → a < n → (ls : List ℕ) (e : ℕ) → e < n → Admitted g c (func_app f ps (root_of ls a ∷ []) e)
    gives f p a la ls e le = admitted f p (root_of ls a) e (omega (arith, root_le ls a)) le

    module _ (m : ModelM) (o : Operates m) (r : ℕ) (lr : r < n) where
      identity_may : (xs : List ℕ) → All (λ e. e < n) xs → All May (identity_laws m ps xs r)
      unfolding identity_laws
      identity_may [] l = tt
      identity_may (a ∷ []) l = (admitted m.dom o.dom r a lr l.0, (admitted m.cod o.cod r a lr l.0, tt))
      identity_may (a ∷ b ∷ xs) l = tt

      composition_may : (xs : List ℕ) → All (λ e. e < n) xs → All May (composition_laws m ps xs r)
      unfolding composition_laws
      composition_may [] l = tt
      composition_may (f ∷ []) l = tt
      composition_may (f ∷ h ∷ []) l = (
        (gives m.dom o.dom f l.0, gives m.dom o.dom r lr),
        (
          (gives m.cod o.cod h l.1.0, gives m.cod o.cod r lr),
          ((gives m.cod o.cod f l.0, gives m.dom o.dom h l.1.0), tt),
        ),
      )
      composition_may (f ∷ h ∷ k ∷ xs) l = tt

  module _ (x : FuncApp) (a : FuncAppValid c x) (u : Unreserved g x) where
    laws_in_may : (m : ModelM) → Operates m → All May (map_laws_in m x)
    unfolding map_laws_in
    laws_in_may m o =
        all_join May (elim (eqb x.func m.id) [ true ↦ identity_laws m x.parents x.args x.result | false ↦ [] ])
        (elim (eqb x.func m.comp) [ true ↦ composition_laws m x.parents x.args x.result | false ↦ [] ])
        (ids (eqb x.func m.id) refl) (comps (eqb x.func m.comp) refl)
      where
        free : (f : ℕ) → x.func ≡ f → is_id_or_comp f g.models ≡ true → g.mor_apps ≡ []
        free f e op = no_mor_apps g x.func (ap (λ (k : ℕ). is_id_or_comp k g.models) e ∙ op) u

        ids : (b : Bool) → eqb x.func m.id ≡ b
            → All May (elim b [ true ↦ identity_laws m x.parents x.args x.result | false ↦ [] ])
        ids true e =
            identity_may x.parents a.parents (free m.id (eqb-true x.func m.id e) o.id) m o x.result a.result x.args a.args.below
        ids false e = tt

        comps : (b : Bool) → eqb x.func m.comp ≡ b
            → All May (elim b [ true ↦ composition_laws m x.parents x.args x.result | false ↦ [] ])
        comps true e =
            composition_may x.parents a.parents (free m.comp (eqb-true x.func m.comp e) o.comp) m o x.result a.result x.args
            a.args.below
        comps false e = tt

    laws_of_may : (ms : List ModelM) → All Operates ms → All May (map_laws_of ms x)
    unfolding map_laws_of
    laws_of_may [] o = tt
    laws_of_may (m ∷ ms) o = all_join May (map_laws_in m x) (map_laws_of ms x) (laws_in_may m o.0) (laws_of_may ms o.1)

  pub laws_may : (xs : List FuncApp) → All (FuncAppValid c) xs → All (Unreserved g) xs → All (MaySay (Admitted g c) (λ e. e < n)) (map_laws g.models xs)
  unfolding map_laws
  laws_may [] a u = tt
  laws_may (x ∷ xs) a u =
      all_join May (map_laws_of g.models x) (map_laws g.models xs) (laws_of_may x a.0 u.0 g.models operates) (laws_may xs a.1 u.1)
