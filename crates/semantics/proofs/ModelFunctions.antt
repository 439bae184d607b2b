-- The functions that the models of a signature name: each stands once, so that no model's dom or cod is an id or a comp.
use mathlib.Core.Path.{◌≡◌, refl, sym, ap}
use mathlib.Core.Logic.{inl, inr}
use mathlib.Core.Bool.{false, ◌||◌}
use mathlib.Core.List.Memᴰ
use mathlib.Core.List.{List, [], ◌∷◌, ◌++◌, Memᴰ}
use Prim.Native.Nat.{ℕ}
use lib.Dec.{eqb}
use borrow.Author.Tests.{eqb-false, ne_eqb}
use Rattle.ids.proofs.Sorted.{All, all_map, all_left, all_right}
use Rattle.signature.specs.Model.{Sig, ModelM}
use Rattle.signature.specs.Calls.{member, repeats, functions, in_models, in_mor_apps, function_given, any_given}
use Rattle.semantics.specs.Calls.{is_id_or_comp}
use Rattle.semantics.specs.Valid.{functions_in}
use Rattle.semantics.proofs.Cases.{or_first, or_second}

-- Lists of functions.

turned : (f h : ℕ) → eqb f h ≡ false → eqb h f ≡ false
turned f h e = ne_eqb h f (λ q. eqb-false f h e (sym q))

-- f is none of the list
abbrev Apart : ℕ → List ℕ → Type 0
Apart f l = All (λ x. eqb f x ≡ false) l

apart_if : (f : ℕ) (l : List ℕ) → member f l ≡ false → Apart f l
unfolding member
apart_if f [] e = tt
apart_if f (x ∷ xs) e = (or_first (eqb f x) (member f xs) e, apart_if f xs (or_second (eqb f x) (member f xs) e))

member_if : (f : ℕ) (l : List ℕ) → Apart f l → member f l ≡ false
unfolding member
member_if f [] h = refl
member_if f (x ∷ xs) h = rw (h.0, member) (member_if f xs h.1)

-- the first of a list stands once, and so does each of the others
once_first : (f : ℕ) (fs : List ℕ) → repeats (f ∷ fs) ≡ false → Apart f fs × (repeats fs ≡ false)
unfolding repeats
once_first f fs e = (apart_if f fs (or_first (member f fs) (repeats fs) e), or_second (member f fs) (repeats fs) e)

member_join : (f : ℕ) (k l : List ℕ) → member f k ≡ false → member f l ≡ false → member f (k ++ l) ≡ false
unfolding member
member_join f [] l h e = e
member_join f (x ∷ xs) l h e = rw (or_first (eqb f x) (member f xs) h) (member_join f xs l (or_second (eqb f x) (member f xs) h) e)

-- two lists that share none
repeats_join : (k l : List ℕ) → repeats k ≡ false → repeats l ≡ false → All (λ f. member f k ≡ false) l → repeats (k ++ l) ≡ false
unfolding repeats member
repeats_join [] l a b h = b
repeats_join (x ∷ xs) l a b h =
    let others = all_map (λ f e. turned f x (or_first (eqb f x) (member f xs) e)) l h in
    rw (member_join x xs l (or_first (member x xs) (repeats xs) a) (member_if x l others))
    (repeats_join xs l (or_second (member x xs) (repeats xs) a) b (all_map (λ f e. or_second (eqb f x) (member f xs) e) l h))

-- The functions of the models.

functions_more : (ms : List ModelM) (m : ModelM) → functions_in (ms ++ (m ∷ [])) ≡ functions_in ms ++ functions m
unfolding functions_in
functions_more [] m = refl
functions_more (n ∷ ns) m = ap (λ (l : List ℕ). functions n ++ l) (functions_more ns m)

none_named : (f : ℕ) (ms : List ModelM) → in_models f ms ≡ false → member f (functions_in ms) ≡ false
unfolding in_models functions_in member
none_named f [] e = refl
none_named f (m ∷ ms) e =
    let here = member f (functions m) in
    member_join f (functions m) (functions_in ms) (or_first here (in_models f ms) e) (none_named f ms (or_second here (in_models f ms) e))

none_given : (g : Sig) (fs : List ℕ) → any_given g fs ≡ false → All (λ f. member f (functions_in g.models) ≡ false) fs
unfolding any_given function_given
none_given g [] e = tt
none_given g (f ∷ fs) e =
    let here = in_models f g.models in
    let there = in_mor_apps f g.mor_apps in (
      none_named f g.models (or_first here there (or_first (here || there) (any_given g fs) e)),
      none_given g fs (or_second (here || there) (any_given g fs) e),
    )

-- one more model, whose functions were not given
pub once_more : (g : Sig) (m : ModelM) → repeats (functions_in g.models) ≡ false → repeats (functions m) ≡ false
    → any_given g (functions m) ≡ false → repeats (functions_in (g.models ++ (m ∷ []))) ≡ false
once_more g m before own new =
    rw (functions_more g.models m) (repeats_join (functions_in g.models) (functions m) before own (none_given g (functions m) new))

-- what holds of each function of the models holds of each that one of them names
named : (P : ℕ → Type 0) (ms : List ModelM) → All P (functions_in ms) → (m : ModelM) → Memᴰ m ms → All P (functions m)
unfolding functions_in
named P [] h m k = absurd (Memᴰ.not-nil k)
named P (n ∷ ns) h m k = elim (Memᴰ.cases_cons k) [
  | inl q ↦ rw q (all_left P (functions n) (functions_in ns) h)
  | inr j ↦ named P ns (all_right P (functions n) (functions_in ns) h) m j
]

-- neither id nor comp
neither : (f : ℕ) (m : ModelM) (ms : List ModelM) → eqb f m.id ≡ false → eqb f m.comp ≡ false → is_id_or_comp f ms ≡ false
    → is_id_or_comp f (m ∷ ms) ≡ false
unfolding is_id_or_comp
neither f m ms a b h = rw (a, b) h

no_operation : (f : ℕ) (ms : List ModelM) → Apart f (functions_in ms) → is_id_or_comp f ms ≡ false
unfolding functions_in
no_operation f [] h = (unfold is_id_or_comp in refl)
no_operation f (m ∷ ms) h = neither f m ms h.1.1.0 h.1.1.1.0 (no_operation f ms h.1.1.1.1)

-- no model's dom or cod is an id or a comp
pub dom_cod_none : (ms : List ModelM) → repeats (functions_in ms) ≡ false → (m : ModelM) → Memᴰ m ms
    → (is_id_or_comp m.dom ms ≡ false) × (is_id_or_comp m.cod ms ≡ false)
unfolding functions_in
dom_cod_none [] e m k = absurd (Memᴰ.not-nil k)
dom_cod_none (n ∷ ns) e m k =
    let rest = functions_in ns in
    let dom = once_first n.dom (n.cod ∷ n.id ∷ n.comp ∷ rest) e in
    let cod = once_first n.cod (n.id ∷ n.comp ∷ rest) dom.1 in
    let id = once_first n.id (n.comp ∷ rest) cod.1 in
    let comp = once_first n.comp rest id.1 in
    elim (Memᴰ.cases_cons k) [
      | inl q ↦
          rw q (
            neither n.dom n ns dom.0.1.0 dom.0.1.1.0 (no_operation n.dom ns dom.0.1.1.1),
            neither n.cod n ns cod.0.0 cod.0.1.0 (no_operation n.cod ns cod.0.1.1),
          )
      | inr j ↦
          let ids = named (λ f. eqb n.id f ≡ false) ns id.0.1 m j in
          let comps = named (λ f. eqb n.comp f ≡ false) ns comp.0 m j in
          let own = dom_cod_none ns comp.1 m j in (
            neither m.dom n ns (turned n.id m.dom ids.0) (turned n.comp m.dom comps.0) own.0,
            neither m.cod n ns (turned n.id m.cod ids.1.0) (turned n.comp m.cod comps.1.0) own.1,
          )
    ]
