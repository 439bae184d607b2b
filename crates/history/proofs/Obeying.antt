-- The pass of identities and composites, on a table that is rewritten: its insertions shorten no path and queue pairs of two roots. Where the laws are
-- held it does nothing, and where it does nothing they are held.
use mathlib.Core.Path.{◌≡◌, refl, sym, subst, ap, ◌∙◌}
use mathlib.Core.Logic.{◌≢◌, ◌↔◌}
use mathlib.Core.Bool.{Bool, true, false, not, or-false}
use mathlib.Core.List.{List, [], ◌∷◌, map}
use mathlib.Core.Option.{Option, none, some, some-injective}
use Prim.Native.Nat.{ℕ}
use borrow.Author.Tests.{eq-eqb, ne_eqb}
use Rattle.ids.specs.Table.{lookup_of}
use Rattle.ids.proofs.Sorted.{All, all_at, no_test, lookup_sound, placed_all, placed_rest}
use Rattle.unification.specs.Roots.{root_of}
use Rattle.unification.proofs.Laws.{root_root}
use Rattle.semantics.specs.Structure.{FuncApp, func_app, pair, compare_func_app, canonical_func_app}
use Rattle.semantics.specs.Types as types
use Rattle.semantics.specs.Types.{first_met}
use Rattle.semantics.specs.Applying.{Equated, equating, equate, applied, applied_equal, apply_at, insert_func_app_or_equate}
use Rattle.semantics.specs.MapLaws.{Side, MapLaw, application, equation}
use Rattle.semantics.specs.Close.{Turn, turn, reports, applied_turn, apply_turn, give_to, give, equalize, obey, obey_all, key_of}
use Rattle.semantics.proofs.Canonical.{Canon, canon_result, canon_image}
use Rattle.semantics.proofs.Cases.{or_first, or_second, none_some}
use Rattle.semantics.proofs.Equating.{equate_roots}
use Rattle.semantics.proofs.Operations.{inserted_turn, kept_turn, queued_turn, full_turn, rooted_in, found_in, apply_cases, obey_all_keeps}
use Rattle.semantics.proofs.Orders.{func_app_same}
use Rattle.history.proofs.Operations.{result_of, result_at, Held, OverRoots}

-- its applications are rewritten
abbrev pub AllCanon : Turn → Type 0
AllCanon t = All (Canon t.core.links) t.apps

-- a result that is stored is a root
stored_root : (t : Turn) → AllCanon t → (x z : FuncApp) → lookup_of compare_func_app x t.apps ≡ some z → root_of t.core.links z.result ≡ z.result
stored_root t c x z e =
    canon_result t.core.links z (all_at (Canon t.core.links) t.apps c z (lookup_sound compare_func_app x t.apps e).0)

-- what is left where two roots are queued
abbrev pub waiting_turn : ℕ → ℕ → Turn → Turn
waiting_turn a b t = reports (types.with_pairs (pair a b ∷ t.core.pairs) t.core) t.apps true t

queued_roots : (a b : ℕ) (t : Turn) → root_of t.core.links a ≡ a → root_of t.core.links b ≡ b → a ≢ b → queued_turn a b t ≡ waiting_turn a b t
queued_roots a b t p q n =
    ap (λ (e : Equated). reports (types.with_links e.links (types.with_pairs e.pairs t.core)) t.apps e.differ t)
    (equate_roots t.core.links t.core.pairs a b p q ∙ ap (λ (d : Bool). equating t.core.links (pair a b ∷ t.core.pairs) (not d)) (ne_eqb a b n))

-- the four ways of an insertion, for a claim on what it leaves
pub canon_cases {ℓ} : (P : Turn → Type ℓ) (x : FuncApp) (t : Turn) → AllCanon t
    → (found_in t x ≡ none → P (inserted_turn (rooted_in t x) t))
    → ((y : FuncApp) → found_in t x ≡ some y → y.result ≡ (rooted_in t x).result → P (kept_turn t))
    → ((y : FuncApp) → found_in t x ≡ some y → root_of t.core.links y.result ≡ y.result → y.result ≢ (rooted_in t x).result
    → P (waiting_turn y.result (rooted_in t x).result t))
    → P (full_turn t)
    → P (apply_turn x t)
unfolding canonical_func_app
canon_cases P x t c new same other full =
    apply_cases P x t (λ e room. new e) same
    (λ y e n room.
    let own = stored_root t c (rooted_in t x) y e in
    subst P (sym (queued_roots y.result (rooted_in t x).result t own (root_root t.core.links x.result) n)) (other y e own n))
    full

-- Work is reported once and for all, and a number that is met stays; no insertion merges.

pub record NoLess (t u : Turn) : Type 0 where
  pub worked : u.worked ≡ false → t.worked ≡ false
  pub met : u.core.met ≡ none → t.core.met ≡ none
  pub merges : u.core.merges ≡ t.core.merges

first_met_lem : (n : ℕ) (o : Option ℕ) {X : Type 0} → first_met n o ≡ none → X
first_met_lem n none e = none_some (sym e)
first_met_lem n (some m) e = none_some (sym e)

apply_more : (t : Turn) (x : FuncApp) (u : Turn) → NoLess t u → NoLess t (apply_turn x u)
apply_more t x u h =
    apply_cases (NoLess t) x u
    (λ e room. record { worked = λ q. h.worked (or_first u.worked true q); met = h.met; merges = h.merges })
    (λ y e r. record { worked = λ q. h.worked (or_first u.worked false q); met = h.met; merges = h.merges })
    (λ y e n room. record { worked = λ q. h.worked (or_first u.worked _ q); met = h.met; merges = h.merges })
    (record { worked = h.worked; met = λ q. first_met_lem _ u.core.met q; merges = h.merges })

pub obey_all_more : (ls : List MapLaw) (t : Turn) → NoLess t (obey_all ls t)
obey_all_more ls t = obey_all_keeps (NoLess t) (apply_more t) ls t (record { worked = λ q. q; met = λ q. q; merges = refl })

-- Where the laws are held.

kept_same : (t : Turn) → kept_turn t ≡ t
kept_same t = λ i. turn t.core t.apps (or-false t.worked i)

-- an application that is stored with its result
apply_same : (x : FuncApp) (t : Turn) → result_at t.apps (rooted_in t x) ≡ some (rooted_in t x).result → apply_turn x t ≡ t
unfolding apply_turn insert_func_app_or_equate
apply_same x t = go (found_in t x) refl
  where
    go : (o : Option FuncApp) → found_in t x ≡ o → result_of o ≡ some (rooted_in t x).result → apply_turn x t ≡ t
    go none e q = (unfold result_of in none_some q)
    go (some y) e q =
        ap (λ (o : Option FuncApp). applied_turn (apply_at o (rooted_in t x) t.core.links t.core.pairs t.apps) t) e
        ∙ (unfold apply_at applied_turn result_of in
        ap (λ (b : Bool). applied_turn (elim b [
          | true ↦ applied t.core.links t.core.pairs t.apps false false
          | false ↦ applied_equal (equate t.core.links t.core.pairs y.result (rooted_in t x).result) t.core.pairs t.apps
        ]) t) (eq-eqb y.result (rooted_in t x).result (some-injective y.result (rooted_in t x).result q))
        ∙ kept_same t)

-- a key made of roots
record OfRoots (ls : List ℕ) (x : FuncApp) : Type 0 where
  parents : map (root_of ls) x.parents ≡ x.parents
  args : map (root_of ls) x.args ≡ x.args

key_of_roots : (ls ps : List ℕ) (x : Side) → map (root_of ls) ps ≡ ps → OfRoots ls (key_of ls ps x)
unfolding key_of
key_of_roots ls ps x e = record { parents = e; args = ap (λ (a : ℕ). a ∷ []) (root_root ls x.el) }

-- the application that a side is given
abbrev given_to : FuncApp → ℕ → FuncApp
given_to y v = func_app y.func y.parents y.args v

-- what is stored, given to a key made of roots, is as it stands
given_rooted : (t : Turn) (y z : FuncApp) → OfRoots t.core.links y → root_of t.core.links z.result ≡ z.result
    → rooted_in t (given_to y z.result) ≡ given_to y z.result
unfolding canonical_func_app
given_rooted t y z o own = λ i. func_app y.func (o.parents i) (o.args i) (own i)

-- of a key only function, parents and arguments are read
key_alike : (xs : List FuncApp) (x : FuncApp) (v : ℕ) → lookup_of compare_func_app (given_to x v) xs ≡ lookup_of compare_func_app x xs
unfolding lookup_of compare_func_app
key_alike xs x v = refl

-- given to a key that has the same result, or none
give_same : (x y : FuncApp) (t : Turn) → AllCanon t → OfRoots t.core.links y → result_at t.apps x ≡ result_at t.apps y → give x y t ≡ t
unfolding give give_to
give_same x y t c o h = go (lookup_of compare_func_app x t.apps) refl
  where
    go : (z : Option FuncApp) → lookup_of compare_func_app x t.apps ≡ z → give_to y z t ≡ t
    go none e = refl
    go (some z) e =
        let is = given_rooted t y z o (stored_root t c x z e) in
        let at : result_at t.apps (given_to y z.result) ≡ some z.result =
        ap result_of (key_alike t.apps y z.result) ∙ sym h ∙ ap result_of e ∙ (unfold result_of in refl) in
        apply_same (given_to y z.result) t (subst (λ (w : FuncApp). result_at t.apps w ≡ some w.result) (sym is) at)

law_same : (l : MapLaw) (t : Turn) → AllCanon t → OverRoots t.core.links l → Held t.core.links t.apps l → obey l t ≡ t
unfolding obey equalize OverRoots Held
law_same (application x) t c o h = (unfold canonical_func_app in apply_same x t h)
law_same (equation ps l r) t c o h =
    let ls = t.core.links in
    let x = key_of ls ps l in
    let y = key_of ls ps r in
    ap (give y x) (give_same x y t c (key_of_roots ls ps r o) h) ∙ give_same y x t c (key_of_roots ls ps l o) (sym h)

pub laws_same : (ls : List MapLaw) (t : Turn) → AllCanon t → All (OverRoots t.core.links) ls → All (Held t.core.links t.apps) ls → obey_all ls t ≡ t
unfolding obey_all
laws_same [] t c o h = refl
laws_same (l ∷ ls) t c o h = ap (obey_all ls) (law_same l t c o.0 h.0) ∙ laws_same ls t c o.1 h.1

-- Conversely, where no work is reported and no number is met.

-- nothing was done, and what Q says holds
record DidNothing (Q : Type 0) (t u : Turn) : Type 0 where
  same : u ≡ t
  so : Q

abbrev IfUnworked : Type 0 → Turn → Turn → Type 0
IfUnworked Q t u = u.worked ≡ false → u.core.met ≡ none → DidNothing Q t u

apply_unworked : (x : FuncApp) (t : Turn) → AllCanon t → IfUnworked (result_at t.apps (rooted_in t x) ≡ some (rooted_in t x).result) t (apply_turn x t)
unfolding result_of
apply_unworked x t c =
    canon_cases (IfUnworked (result_at t.apps (rooted_in t x) ≡ some (rooted_in t x).result) t) x t c
    (λ e q m. no_test refl (or_second t.worked true q))
    (λ y e r q m. record { same = kept_same t; so = ap result_of e ∙ ap (λ (v : ℕ). some v) r })
    (λ y e own n q m. no_test refl (or_second t.worked true q))
    (λ q m. first_met_lem _ t.core.met m)

-- what is stored at the one key is stored at the other
abbrev Given : Turn → FuncApp → FuncApp → Type 0
Given t x y = (v : ℕ) → result_at t.apps x ≡ some v → result_at t.apps y ≡ some v

give_unworked : (x y : FuncApp) (t : Turn) → AllCanon t → OfRoots t.core.links y → IfUnworked (Given t x y) t (give x y t)
unfolding give give_to result_of
give_unworked x y t c o = go (lookup_of compare_func_app x t.apps) refl
  where
    go : (z : Option FuncApp) → lookup_of compare_func_app x t.apps ≡ z → IfUnworked (Given t x y) t (give_to y z t)
    go none e q m = record { same = refl; so = λ v h. none_some (sym (ap result_of e) ∙ h) }
    go (some z) e q m =
        let is = given_rooted t y z o (stored_root t c x z e) in
        let a = apply_unworked (given_to y z.result) t c q m in
        let at : result_at t.apps y ≡ some z.result =
        sym (ap result_of (key_alike t.apps y z.result)) ∙ subst (λ (w : FuncApp). result_at t.apps w ≡ some w.result) is a.so in
        record { same = a.same; so = λ v h. at ∙ sym (ap result_of e) ∙ h }

both_given : (a b : Option ℕ) → ((v : ℕ) → a ≡ some v → b ≡ some v) → ((v : ℕ) → b ≡ some v → a ≡ some v) → a ≡ b
both_given none none f g = refl
both_given none (some v) f g = g v refl
both_given (some v) b f g = sym (f v refl)

-- the second giving comes after the first
give_more : (x y : FuncApp) (t : Turn) → NoLess t (give x y t)
unfolding give give_to
give_more x y t = go (lookup_of compare_func_app x t.apps)
  where
    go : (z : Option FuncApp) → NoLess t (give_to y z t)
    go none = record { worked = λ q. q; met = λ q. q; merges = refl }
    go (some z) = apply_more t (given_to y z.result) t (record { worked = λ q. q; met = λ q. q; merges = refl })

law_unworked : (l : MapLaw) (t : Turn) → AllCanon t → OverRoots t.core.links l → IfUnworked (Held t.core.links t.apps l) t (obey l t)
unfolding obey equalize OverRoots Held
law_unworked (application x) t c o q m = (unfold canonical_func_app in apply_unworked x t c q m)
law_unworked (equation ps l r) t c o q m =
    let ls = t.core.links in
    let x = key_of ls ps l in
    let y = key_of ls ps r in
    let u = give x y t in
    let less = give_more y x u in
    let one = give_unworked x y t c (key_of_roots ls ps r o) (less.worked q) (less.met m) in
    let two = give_unworked y x t c (key_of_roots ls ps l o) (subst (λ (z : Turn). (give y x z).worked ≡ false) one.same q)
    (subst (λ (z : Turn). (give y x z).core.met ≡ none) one.same m) in
    record { same = ap (give y x) one.same ∙ two.same; so = both_given (result_at t.apps x) (result_at t.apps y) one.so two.so }

pub laws_unworked : (ls : List MapLaw) (t : Turn) → AllCanon t → All (OverRoots t.core.links) ls → (obey_all ls t).worked ≡ false → (obey_all ls t).core.met ≡ none
    → (obey_all ls t ≡ t) × All (Held t.core.links t.apps) ls
unfolding obey_all
laws_unworked [] t c o q m = (refl, tt)
laws_unworked (l ∷ ls) t c o q m =
    let less = obey_all_more ls (obey l t) in
    let a = law_unworked l t c o.0 (less.worked q) (less.met m) in
    let b = laws_unworked ls t c o.1 (subst (λ (u : Turn). (obey_all ls u).worked ≡ false) a.same q)
    (subst (λ (u : Turn). (obey_all ls u).core.met ≡ none) a.same m) in
    (ap (obey_all ls) a.same ∙ b.0, (a.so, b.1))

-- What each insertion of an application that has T keeps, where T holds of all that is stored.

-- the law leads from applications that have T to such ones
unfoldable pub Serves : List ℕ → (FuncApp → Type 0) → MapLaw → Type 0
Serves ls T (application x) = T x
Serves ls T (equation ps l r) = (v : ℕ) → T (func_app l.func ps (root_of ls l.el ∷ []) v) ↔ T (func_app r.func ps (root_of ls r.el ∷ []) v)

module _ {ℓ} (P : Turn → Type ℓ) (T : FuncApp → Type 0) (ls : List ℕ) (links : (t : Turn) → P t → t.core.links ≡ ls)
    (stored : (t : Turn) → P t → All T t.apps) (keeps : (x : FuncApp) (t : Turn) → P t → T x → P (apply_turn x t)) where
  give_serves : (x y : FuncApp) (t : Turn) → ((v : ℕ) → T (given_to x v) → T (given_to y v)) → P t → P (give x y t)
  unfolding give give_to
  give_serves x y t f h = go (lookup_of compare_func_app x t.apps) refl
    where
      go : (o : Option FuncApp) → lookup_of compare_func_app x t.apps ≡ o → P (give_to y o t)
      go none e = h
      go (some z) e =
          let found = lookup_sound compare_func_app x t.apps e in
          let k = func_app_same z x found.1 in
          let is : ◌≡◌ {A = FuncApp} z (given_to x z.result) = λ i. func_app (k.func i) (k.parents i) (k.args i) z.result in
          keeps (given_to y z.result) t h (f z.result (subst T is (all_at T t.apps (stored t h) z found.0)))

  obey_serves : (l : MapLaw) (t : Turn) → Serves ls T l → P t → P (obey l t)
  unfolding obey equalize Serves key_of
  obey_serves (application x) t f h = keeps x t h f
  obey_serves (equation ps l r) t f h =
      subst (λ (ks : List ℕ). P (equalize (key_of ks ps l) (key_of ks ps r) t)) (sym (links t h))
      (give_serves (key_of ls ps r) (key_of ls ps l) (give (key_of ls ps l) (key_of ls ps r) t) (λ v. (f v).1)
      (give_serves (key_of ls ps l) (key_of ls ps r) t (λ v. (f v).0) h))

  pub obey_all_serves : (xs : List MapLaw) (t : Turn) → All (Serves ls T) xs → P t → P (obey_all xs t)
  unfolding obey_all
  obey_all_serves [] t f h = h
  obey_all_serves (l ∷ xs) t f h = obey_all_serves xs (obey l t) f.1 (obey_serves l t f.0 h)

-- the links stay, and the table is rewritten
pub record Steady (ls : List ℕ) (t : Turn) : Type 0 where
  pub links : t.core.links ≡ ls
  pub canon : AllCanon t

pub apply_steady : (ls : List ℕ) (x : FuncApp) (t : Turn) → Steady ls t → Steady ls (apply_turn x t)
apply_steady ls x t h =
    canon_cases (Steady ls) x t h.canon
    (λ e. record {
      links = h.links;
      canon = placed_all compare_func_app (rooted_in t x) (Canon t.core.links) t.apps (canon_image t.core.links x) h.canon;
    })
    (λ y e r. record { links = h.links; canon = h.canon }) (λ y e own n. record { links = h.links; canon = h.canon })
    (record { links = h.links; canon = h.canon })

-- what holds of the applications that the pass leaves held of those that it began with
pub obey_all_rest : (P : FuncApp → Type 0) (xs : List MapLaw) (t : Turn) → All P (obey_all xs t).apps → All P t.apps
obey_all_rest P xs t =
    obey_all_keeps (λ u. All P u.apps → All P t.apps)
    (λ x u f. apply_cases (λ z. All P z.apps → All P t.apps) x u (λ e room a. f (placed_rest compare_func_app (rooted_in u x) P u.apps a))
    (λ y e r. f) (λ y e n room. f) f) xs t (λ a. a)
