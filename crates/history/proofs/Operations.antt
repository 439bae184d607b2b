-- The laws of identities and composites: as a claim on applications has them, and as a table holds them.
use mathlib.Core.Path.{◌≡◌, refl, sym, subst, ap, ◌∙◌}
use mathlib.Core.Logic.{◌↔◌, inl, inr}
use mathlib.Core.Bool.{Bool, true, false}
use mathlib.Core.List.Memᴰ
use mathlib.Core.List.{List, [], ◌∷◌, map, Memᴰ}
use mathlib.Core.Option.{Option, none, some, some-injective}
use Prim.Native.Nat.{ℕ}
use lib.Dec.{eqb}
use borrow.Author.Tests.{eqb-true, eq-eqb}
use Rattle.ids.specs.Table.{lookup_of}
use Rattle.ids.proofs.Sorted.{All, all_of, all_at, all_both, all_join, all_left, all_right, all_map, Sorted, lookup_sound, lookup_if}
use Rattle.signature.specs.Model.{ModelM}
use Rattle.unification.specs.Roots.{root_of}
use Rattle.unification.proofs.Laws.{root_root}
use Rattle.semantics.specs.Structure.{FuncApp, func_app, compare_func_app, canonical_func_app}
use Rattle.semantics.specs.MapLaws.{Side, side, MapLaw, application, equation, identity_laws, composition_laws, map_laws_in, map_laws_of, map_laws}
use Rattle.semantics.specs.Close.{key_of}
use Rattle.semantics.proofs.Canonical.{Canon, canonical_alike}
use Rattle.semantics.proofs.Cases.{none_some}
use Rattle.semantics.proofs.Orders.{func_app_ordered, func_app_same, same_func_app, SameKey}
use Rattle.history.specs.Book.{Together}
use Rattle.history.specs.MapLaws.{Obeys}
use Rattle.history.proofs.Relation.{Respects, OneRoot, one_root, one_rooted, together_one, with_one, with_two, together_flip, Like}
use Rattle.history.proofs.Relation.{like_respects, meet_key, says_image, image_says}
use Rattle.history.proofs.Functionality.{meet_images, canonical_agree}

-- What holds of each law, from what holds of each application.

-- where applications that have Q are ones of a model's id or comp, their laws have P
pub record Gives (Q : FuncApp → Type 0) (P : MapLaw → Type 0) (m : ModelM) : Type 0 where
  pub identity : (ps : List ℕ) (a r : ℕ) → Q (func_app m.id ps (a ∷ []) r)
      → P (application (func_app m.dom ps (r ∷ []) a)) × P (application (func_app m.cod ps (r ∷ []) a))
  pub composite : (ps : List ℕ) (f g h : ℕ) → Q (func_app m.comp ps (f ∷ g ∷ []) h)
      → P (equation ps (side m.dom f) (side m.dom h)) × P (equation ps (side m.cod g) (side m.cod h)) × P (equation ps (side m.cod f) (side m.dom g))

module _ (Q : FuncApp → Type 0) (P : MapLaw → Type 0) where
  identity_laws_lem : (m : ModelM) → Gives Q P m → (f : ℕ) (ps xs : List ℕ) (r : ℕ) → f ≡ m.id → Q (func_app f ps xs r) → All P (identity_laws m ps xs r)
  unfolding identity_laws
  identity_laws_lem m gives f ps [] r e q = tt
  identity_laws_lem m gives f ps (a ∷ []) r e q =
      let k = gives.identity ps a r (subst (λ (i : ℕ). Q (func_app i ps (a ∷ []) r)) e q) in (k.0, (k.1, tt))
  identity_laws_lem m gives f ps (a ∷ b ∷ xs) r e q = tt

  composition_laws_lem : (m : ModelM) → Gives Q P m → (f : ℕ) (ps xs : List ℕ) (r : ℕ) → f ≡ m.comp → Q (func_app f ps xs r)
      → All P (composition_laws m ps xs r)
  unfolding composition_laws
  composition_laws_lem m gives f ps [] r e q = tt
  composition_laws_lem m gives f ps (a ∷ []) r e q = tt
  composition_laws_lem m gives f ps (a ∷ b ∷ []) r e q =
      let k = gives.composite ps a b r (subst (λ (i : ℕ). Q (func_app i ps (a ∷ b ∷ []) r)) e q) in (k.0, (k.1, (k.2, tt)))
  composition_laws_lem m gives f ps (a ∷ b ∷ c ∷ xs) r e q = tt

  laws_in : (m : ModelM) → Gives Q P m → (x : FuncApp) → Q x → All P (map_laws_in m x)
  unfolding map_laws_in
  laws_in m gives x q = all_join P (ids (eqb x.func m.id)) (comps (eqb x.func m.comp)) (one (eqb x.func m.id) refl) (two (eqb x.func m.comp) refl)
    where
      ids : Bool → List MapLaw
      ids b = elim b [ true ↦ identity_laws m x.parents x.args x.result | false ↦ [] ]

      comps : Bool → List MapLaw
      comps b = elim b [ true ↦ composition_laws m x.parents x.args x.result | false ↦ [] ]

      one : (b : Bool) → eqb x.func m.id ≡ b → All P (ids b)
      one true e = identity_laws_lem m gives x.func x.parents x.args x.result (eqb-true x.func m.id e) q
      one false e = tt

      two : (b : Bool) → eqb x.func m.comp ≡ b → All P (comps b)
      two true e = composition_laws_lem m gives x.func x.parents x.args x.result (eqb-true x.func m.comp e) q
      two false e = tt

  laws_of : (ms : List ModelM) → All (Gives Q P) ms → (x : FuncApp) → Q x → All P (map_laws_of ms x)
  unfolding map_laws_of
  laws_of [] gives x q = tt
  laws_of (m ∷ ms) gives x q = all_join P (map_laws_in m x) (map_laws_of ms x) (laws_in m gives.0 x q) (laws_of ms gives.1 x q)

  pub laws_all : (ms : List ModelM) → All (Gives Q P) ms → (xs : List FuncApp) → All Q xs → All P (map_laws ms xs)
  unfolding map_laws
  laws_all ms gives [] h = tt
  laws_all ms gives (x ∷ xs) h = all_join P (map_laws_of ms x) (map_laws ms xs) (laws_of ms gives x h.0) (laws_all ms gives xs h.1)

-- A claim on applications.

-- it keeps a law
unfoldable pub Keeps : (FuncApp → Type 0) → MapLaw → Type 0
Keeps S (application x) = S x
Keeps S (equation ps l r) = (v : ℕ) → S (func_app l.func ps (l.el ∷ []) v) ↔ S (func_app r.func ps (r.el ∷ []) v)

-- one that is closed under the laws keeps those of its applications
pub laws_kept : (ms : List ModelM) (S : FuncApp → Type 0) → All (Obeys S) ms → (xs : List FuncApp) → All S xs → All (Keeps S) (map_laws ms xs)
unfolding Keeps
laws_kept ms S obeys = laws_all S (Keeps S) ms (all_map gives ms obeys)
  where
    gives : (m : ModelM) → Obeys S m → Gives S (Keeps S) m
    gives m o = record {
      identity = λ ps a r s. (o.id_dom ps a r s, o.id_cod ps a r s);
      composite = λ ps f g h s. (λ v. o.comp_dom ps f g h v s, λ v. o.comp_cod ps f g h v s, λ v. o.comp_middle ps f g h v s);
    }

-- A table.

-- the result that is stored at a key
unfoldable pub result_of : Option FuncApp → Option ℕ
result_of none = none
result_of (some x) = some x.result

abbrev pub result_at : List FuncApp → FuncApp → Option ℕ
result_at xs x = result_of (lookup_of compare_func_app x xs)

-- the table holds a law, for these links: the application is stored with its result, or both sides have one result, or none
unfoldable pub Held : List ℕ → List FuncApp → MapLaw → Type 0
Held ls xs (application x) = result_at xs (canonical_func_app ls x) ≡ some (root_of ls x.result)
Held ls xs (equation ps l r) = result_at xs (key_of ls ps l) ≡ result_at xs (key_of ls ps r)

-- of the links only the roots count
module _ (ls ks : List ℕ) (roots : (e : ℕ) → root_of ks e ≡ root_of ls e) where
  side_alike : (ps : List ℕ) (x : Side) → key_of ks ps x ≡ key_of ls ps x
  unfolding key_of
  side_alike ps x = λ i. func_app x.func ps (roots x.el i ∷ []) 0

  pub held_alike : (xs : List FuncApp) (l : MapLaw) → Held ls xs l → Held ks xs l
  unfolding Held
  held_alike xs (application x) h = ap (result_at xs) (canonical_alike ls ks roots x) ∙ h ∙ ap (λ (v : ℕ). some v) (sym (roots x.result))
  held_alike xs (equation ps l r) h = ap (result_at xs) (side_alike ps l) ∙ h ∙ sym (ap (result_at xs) (side_alike ps r))

-- over parents that are roots
unfoldable pub OverRoots : List ℕ → MapLaw → Type 0
OverRoots ls (application x) = Unit {0}
OverRoots ls (equation ps l r) = map (root_of ls) ps ≡ ps

-- the laws of applications that are rewritten already are over roots
pub laws_over_roots : (ls : List ℕ) (ms : List ModelM) (xs : List FuncApp) → All (Canon ls) xs → All (OverRoots ls) (map_laws ms xs)
unfolding OverRoots canonical_func_app
laws_over_roots ls ms =
    laws_all (Canon ls) (OverRoots ls) ms
    (all_of (λ m. record {
      identity = λ ps a r c. (tt, tt);
      composite = λ ps f g h c. let e : map (root_of ls) ps ≡ ps = ap (λ (x : FuncApp). x.parents) c in (e, e, e);
    }) ms)

-- The claim that a table makes, by its roots.

-- the laws of one of the applications are among all
laws_at : (P : MapLaw → Type 0) (ms : List ModelM) (xs : List FuncApp) → All P (map_laws ms xs) → (x : FuncApp) → Memᴰ x xs → All P (map_laws_of ms x)
unfolding map_laws
laws_at P ms [] h x i = absurd (Memᴰ.not-nil i)
laws_at P ms (y ∷ ys) h x i = elim (Memᴰ.cases_cons i) [
  | inl q ↦ rw q (all_left P (map_laws_of ms y) (map_laws ms ys) h)
  | inr k ↦ laws_at P ms ys (all_right P (map_laws_of ms y) (map_laws ms ys) h) x k
]

module _ (P : MapLaw → Type 0) (m : ModelM) (f : ℕ) (ps : List ℕ) where
  abbrev ids : Bool → List ℕ → ℕ → List MapLaw
  ids b xs r = elim b [ true ↦ identity_laws m ps xs r | false ↦ [] ]

  abbrev comps : Bool → List ℕ → ℕ → List MapLaw
  comps b xs r = elim b [ true ↦ composition_laws m ps xs r | false ↦ [] ]

  of_identity : (xs : List ℕ) (r : ℕ) → f ≡ m.id → All P (map_laws_in m (func_app f ps xs r)) → All P (identity_laws m ps xs r)
  unfolding map_laws_in
  of_identity xs r e h =
      subst (λ (b : Bool). All P (ids b xs r)) (eq-eqb f m.id e) (all_left P (ids (eqb f m.id) xs r) (comps (eqb f m.comp) xs r) h)

  of_composite : (xs : List ℕ) (r : ℕ) → f ≡ m.comp → All P (map_laws_in m (func_app f ps xs r)) → All P (composition_laws m ps xs r)
  unfolding map_laws_in
  of_composite xs r e h =
      subst (λ (b : Bool). All P (comps b xs r)) (eq-eqb f m.comp e) (all_right P (ids (eqb f m.id) xs r) (comps (eqb f m.comp) xs r) h)

module _ (ls : List ℕ) (xs : List FuncApp) (sorted : Sorted compare_func_app xs) (canon : All (Canon ls) xs) where
  abbrev R : ℕ → ℕ → Type 0
  R = OneRoot ls

  -- to be alike to an application of the table
  abbrev pub Stored : FuncApp → Type 0
  Stored = Like (OneRoot ls) (λ x. Memᴰ x xs)

  pub stored_respects : Respects (OneRoot ls) Stored
  stored_respects = like_respects (OneRoot ls) (one_root ls) (λ x. Memᴰ x xs) (canonical_agree ls xs sorted canon)

  -- what is found at a key
  found_stored : (x : FuncApp) (v : ℕ) → result_at xs x ≡ some v → Stored (func_app x.func x.parents x.args v)
  unfolding result_of
  found_stored x v = go (lookup_of compare_func_app x xs) refl
    where
      go : (o : Option FuncApp) → lookup_of compare_func_app x xs ≡ o → result_of o ≡ some v → Stored (func_app x.func x.parents x.args v)
      go none e q = none_some q
      go (some y) e q =
          let found = lookup_sound compare_func_app x xs e in
          let k = func_app_same y x found.1 in
          record {
            of = y;
            has = found.0;
            meet = meet_key R (one_root ls) y (func_app x.func x.parents x.args v) k.func k.parents k.args;
            result = ap (root_of ls) (some-injective y.result v q);
          }

  -- conversely, where the key is made of roots, whatever result stands beside the key
  stored_found : (x : FuncApp) → Canon ls x → Stored x → (v : ℕ) → result_at xs (func_app x.func x.parents x.args v) ≡ some x.result
  unfolding result_of canonical_func_app
  stored_found x c s v =
      let y = func_app x.func x.parents x.args v in
      let own = all_at (Canon ls) xs canon s.of s.has in
      let k = meet_images ls s.of x s.meet in
      let same = subst (λ z. SameKey z x) own (subst (λ z. SameKey (canonical_func_app ls s.of) z) c k) in
      ap result_of (lookup_if func_app_ordered y s.of xs sorted s.has (same_func_app s.of y (record { func = same.func; parents = same.parents; args = same.args })))
      ∙ ap (λ (r : ℕ). some r) (sym (ap (λ (z : FuncApp). z.result) own) ∙ s.result ∙ ap (λ (z : FuncApp). z.result) c)

  -- so a law that the table holds is kept

  -- a side over roots, with its element or with its root, and with any result of the class
  module _ (ps : List ℕ) (roots : map (root_of ls) ps ≡ ps) where
    side_stored : (f a v : ℕ) → Stored (func_app f ps (a ∷ []) v) → result_at xs (key_of ls ps (side f a)) ≡ some (root_of ls v)
    unfolding key_of canonical_func_app
    side_stored f a v s =
        let y = func_app f ps (root_of ls a ∷ []) (root_of ls v) in
        let c : Canon ls y = λ i. func_app f (roots i) (root_root ls a i ∷ []) (root_root ls v i) in
        let x = func_app f ps (a ∷ []) v in
        stored_found y c
        (subst Stored (λ i. func_app f (roots i) (root_of ls a ∷ []) (root_of ls v)) (says_image R (one_root ls) Stored stored_respects ls (one_rooted ls) x s)) 0

    stored_side : (f a v : ℕ) → result_at xs (key_of ls ps (side f a)) ≡ some (root_of ls v) → Stored (func_app f ps (a ∷ []) v)
    unfolding key_of canonical_func_app
    stored_side f a v e =
        let x = func_app f ps (a ∷ []) v in
        image_says R (one_root ls) Stored stored_respects ls (one_rooted ls) x
        (subst Stored (λ i. func_app f (sym roots i) (root_of ls a ∷ []) (root_of ls v)) (found_stored (key_of ls ps (side f a)) (root_of ls v) e))

  held_kept : (l : MapLaw) → OverRoots ls l → Held ls xs l → Keeps Stored l
  unfolding OverRoots Held Keeps canonical_func_app
  held_kept (application x) o h =
      image_says R (one_root ls) Stored stored_respects ls (one_rooted ls) x (found_stored (canonical_func_app ls x) (root_of ls x.result) h)
  held_kept (equation ps l r) o h = λ v. (
    λ s. stored_side ps o r.func r.el v (sym h ∙ side_stored ps o l.func l.el v s),
    λ s. stored_side ps o l.func l.el v (h ∙ side_stored ps o r.func r.el v s),
  )

  -- Where the table holds the laws of its applications, what is stored is closed under them.

  module _ (m : ModelM) (kept : (x : FuncApp) → Memᴰ x xs → All (Keeps Stored) (map_laws_in m x)) where
    alike : (f : ℕ) (ps qs : List ℕ) (a b v w : ℕ) → Together R ps qs → R a b → R v w → Stored (func_app f ps (a ∷ []) v) → Stored (func_app f qs (b ∷ []) w)
    alike f ps qs a b v w p e r =
        stored_respects.alike (func_app f ps (a ∷ []) v) (func_app f qs (b ∷ []) w) (record { func = refl; parents = p; args = together_one e }) r

    identities : (ps : List ℕ) (a r : ℕ) → Stored (func_app m.id ps (a ∷ []) r)
        → Stored (func_app m.dom ps (r ∷ []) a) × Stored (func_app m.cod ps (r ∷ []) a)
    unfolding identity_laws Keeps
    identities ps a r s =
        let y = s.of in
        let p = s.meet.parents in
        let o = with_one y.args s.meet.args in
        let k = subst (λ (l : List ℕ). All (Keeps Stored) (identity_laws m y.parents l y.result)) o.1
        (of_identity (Keeps Stored) m y.func y.parents y.args y.result s.meet.func (kept y s.has)) in (
          alike m.dom y.parents ps y.result r o.0 a p s.result o.2 k.0,
          alike m.cod y.parents ps y.result r o.0 a p s.result o.2 k.1.0,
        )

    -- an equation of two sides, from the stored composite to one that is alike
    sides : (ps qs : List ℕ) (j k a b c d : ℕ) → Together R ps qs → R a c → R b d → Keeps Stored (equation ps (side j a) (side k b))
        → (v : ℕ) → Stored (func_app j qs (c ∷ []) v) ↔ Stored (func_app k qs (d ∷ []) v)
    unfolding Keeps
    sides ps qs j k a b c d p e f h v =
        let q = together_flip R (one_root ls) p in (
          λ s. alike k ps qs b d v v p f refl ((h v).0 (alike j qs ps c a v v q (sym e) refl s)),
          λ s. alike j ps qs a c v v p e refl ((h v).1 (alike k qs ps d b v v q (sym f) refl s)),
        )

    composites : (ps : List ℕ) (f g h x : ℕ) → Stored (func_app m.comp ps (f ∷ g ∷ []) h)
        → (Stored (func_app m.dom ps (f ∷ []) x) ↔ Stored (func_app m.dom ps (h ∷ []) x))
        × (Stored (func_app m.cod ps (g ∷ []) x) ↔ Stored (func_app m.cod ps (h ∷ []) x))
        × (Stored (func_app m.cod ps (f ∷ []) x) ↔ Stored (func_app m.dom ps (g ∷ []) x))
    unfolding composition_laws
    composites ps f g h x s =
        let y = s.of in
        let p = s.meet.parents in
        let o = with_two y.args s.meet.args in
        let k = subst (λ (l : List ℕ). All (Keeps Stored) (composition_laws m y.parents l y.result)) o.2
        (of_composite (Keeps Stored) m y.func y.parents y.args y.result s.meet.func (kept y s.has)) in (
          sides y.parents ps m.dom m.dom o.0 y.result f h p o.3 s.result k.0 x,
          sides y.parents ps m.cod m.cod o.1 y.result g h p o.4 s.result k.1.0 x,
          sides y.parents ps m.cod m.dom o.0 o.1 f g p o.3 o.4 k.1.1.0 x,
        )

    obeyed : Obeys Stored m
    obeyed = record {
      id_dom = λ ps a r s. (identities ps a r s).0;
      id_cod = λ ps a r s. (identities ps a r s).1;
      comp_dom = λ ps f g h x s. (composites ps f g h x s).0;
      comp_cod = λ ps f g h x s. (composites ps f g h x s).1;
      comp_middle = λ ps f g h x s. (composites ps f g h x s).2;
    }

  each_obeyed : (ms : List ModelM) → ((x : FuncApp) → Memᴰ x xs → All (Keeps Stored) (map_laws_of ms x)) → All (Obeys Stored) ms
  unfolding map_laws_of
  each_obeyed [] kept = tt
  each_obeyed (m ∷ ms) kept = (
    obeyed m (λ x i. all_left (Keeps Stored) (map_laws_in m x) (map_laws_of ms x) (kept x i)),
    each_obeyed ms (λ x i. all_right (Keeps Stored) (map_laws_in m x) (map_laws_of ms x) (kept x i)),
  )

  pub held_obeyed : (ms : List ModelM) → All (Held ls xs) (map_laws ms xs) → All (Obeys Stored) ms
  held_obeyed ms held =
      let kept = all_map (λ l h. held_kept l h.0 h.1) (map_laws ms xs)
      (all_both (OverRoots ls) (Held ls xs) (map_laws ms xs) (laws_over_roots ls ms xs canon) held) in
      each_obeyed ms (λ x i. laws_at (Keeps Stored) ms xs kept x i)
