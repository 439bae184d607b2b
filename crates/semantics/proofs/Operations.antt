-- The pass of identities and composites: what an application inserted in a round leaves, and what holds along its laws.
use mathlib.Core.Path.{◌≡◌, refl, ap, ◌∙◌}
use mathlib.Core.Logic.{◌≢◌}
use mathlib.Core.Bool.{Bool, true, false, ◌||◌}
use mathlib.Core.List.{List, [], ◌∷◌, ◌++◌}
use mathlib.Core.Option.{Option, none, some}
use Prim.Native.Nat.{ℕ, ◌<◌}
use lib.ListN.{length}
use lib.Dec.{eqb, leb}
use borrow.Author.Tests.{eqb-true, eqb-false, leb-false}
use Rattle.ids.specs.Answers.{no_room}
use Rattle.ids.specs.Table.{placed, lookup_of}
use Rattle.ids.proofs.Sorted.{All, all_of, all_at, lookup_sound}
use Rattle.unification.specs.Roots.{root_of}
use Rattle.signature.specs.Model.{Sig, ModelM}
use Rattle.semantics.specs.Structure.{FuncApp, func_app, PredApp, compare_func_app, canonical_func_app, max_pairs, max_func_apps}
use Rattle.semantics.specs.Types as types
use Rattle.semantics.specs.Applying.{equate, applied_equal, apply_at, insert_func_app_or_equate}
use Rattle.semantics.specs.MapLaws.{Side, MapLaw, application, equation, identity_laws, composition_laws, identity_laws_in, composition_laws_in}
use Rattle.semantics.specs.MapLaws.{map_laws_in, map_laws_of, map_laws}
use Rattle.semantics.specs.Close.{Turn, turn, reports, applied_turn, apply_turn, give_to, give, equalize, obey, obey_all, key_of}
use Rattle.semantics.specs.Close.{operation_pass}
use Rattle.semantics.specs.Calls.{is_id_or_comp}
use Rattle.semantics.proofs.Cases.{or_first, or_second}

-- An application inserted in a round: its key is new, or it has the result that is there, or it queues a pair, or there is no room.

-- what is left where its key is new
abbrev pub inserted_turn : FuncApp → Turn → Turn
inserted_turn y t = reports t.core (placed compare_func_app y t.apps) true t

-- where it has the result that is there
abbrev pub kept_turn : Turn → Turn
kept_turn t = reports t.core t.apps false t

-- where it queues a pair: a stored result, and its own
abbrev pub queued_turn : ℕ → ℕ → Turn → Turn
queued_turn a b t =
    let e = equate t.core.links t.core.pairs a b in
    reports (types.with_links e.links (types.with_pairs e.pairs t.core)) t.apps e.differ t

-- where there is no room
abbrev pub full_turn : Turn → Turn
full_turn t = turn (types.with_met no_room t.core) t.apps t.worked

-- its key and its result, as roots
abbrev pub rooted_in : Turn → FuncApp → FuncApp
rooted_in t x = canonical_func_app t.core.links x

abbrev pub found_in : Turn → FuncApp → Option FuncApp
found_in t x = lookup_of compare_func_app (rooted_in t x) t.apps

-- the four ways, for a claim on what it leaves
pub apply_cases {ℓ} : (P : Turn → Type ℓ) (x : FuncApp) (t : Turn)
    → (found_in t x ≡ none → length t.apps < max_func_apps → P (inserted_turn (rooted_in t x) t))
    → ((y : FuncApp) → found_in t x ≡ some y → y.result ≡ (rooted_in t x).result → P (kept_turn t))
    → ((y : FuncApp) → found_in t x ≡ some y → y.result ≢ (rooted_in t x).result → length t.core.pairs < max_pairs
    → P (queued_turn y.result (rooted_in t x).result t))
    → P (full_turn t)
    → P (apply_turn x t)
unfolding apply_turn insert_func_app_or_equate apply_at applied_turn applied_equal
apply_cases P x t new same other full = go (found_in t x) refl
  where
    inserted : found_in t x ≡ none → (b : Bool) → leb max_func_apps (length t.apps) ≡ b
        → P (elim b [ true ↦ full_turn t | false ↦ inserted_turn (rooted_in t x) t ])
    inserted e true h = full
    inserted e false h = new e (leb-false max_func_apps (length t.apps) h)

    queued : (y : FuncApp) → found_in t x ≡ some y → y.result ≢ (rooted_in t x).result → (b : Bool) → leb max_pairs (length t.core.pairs) ≡ b
        → P (elim b [ true ↦ full_turn t | false ↦ queued_turn y.result (rooted_in t x).result t ])
    queued y e n true h = full
    queued y e n false h = other y e n (leb-false max_pairs (length t.core.pairs) h)

    by : (y : FuncApp) → found_in t x ≡ some y → (b : Bool) → eqb y.result (rooted_in t x).result ≡ b
        → P (applied_turn (elim b [
          | true ↦ record { links = t.core.links; pairs = t.core.pairs; apps = t.apps; yes = false; full = false }
          | false ↦ applied_equal (equate t.core.links t.core.pairs y.result (rooted_in t x).result) t.core.pairs t.apps
        ]) t)
    by y e true h = same y e (eqb-true y.result (rooted_in t x).result h)
    by y e false h = queued y e (eqb-false y.result (rooted_in t x).result h) (leb max_pairs (length t.core.pairs)) refl

    go : (o : Option FuncApp) → found_in t x ≡ o → P (applied_turn (apply_at o (rooted_in t x) t.core.links t.core.pairs t.apps) t)
    go none e = inserted e (leb max_func_apps (length t.apps)) refl
    go (some y) e = by y e (eqb y.result (rooted_in t x).result) refl

-- What every insertion of an application that may be inserted keeps, a list of laws keeps: Q holds of each application that may be, and R of the results
-- that are stored.

-- the side's value, where it is one of those results, may be inserted
abbrev pub MayGive : (FuncApp → Type 0) → (ℕ → Type 0) → List ℕ → Side → Type 0
MayGive Q R ps x = (ls : List ℕ) (e : ℕ) → R e → Q (func_app x.func ps (root_of ls x.el ∷ []) e)

-- what the law says may be inserted
abbrev pub MaySay : (FuncApp → Type 0) → (ℕ → Type 0) → MapLaw → Type 0
MaySay Q R (application x) = Q x
MaySay Q R (equation ps l r) = MayGive Q R ps l × MayGive Q R ps r

module _ {ℓ} (P : Turn → Type ℓ) (Q : FuncApp → Type 0) (R : ℕ → Type 0) (results : (t : Turn) → P t → All (λ x. R x.result) t.apps)
    (keeps : (x : FuncApp) (t : Turn) → Q x → P t → P (apply_turn x t)) where
  give_keeps : (x : FuncApp) (ls ps : List ℕ) (y : Side) (t : Turn) → MayGive Q R ps y → P t → P (give x (key_of ls ps y) t)
  unfolding give give_to key_of
  give_keeps x ls ps y t may h = go (lookup_of compare_func_app x t.apps) refl
    where
      go : (o : Option FuncApp) → lookup_of compare_func_app x t.apps ≡ o → P (give_to (key_of ls ps y) o t)
      go none e = h
      go (some z) e =
          keeps _ t (may ls z.result (all_at (λ w. R w.result) t.apps (results t h) z (lookup_sound compare_func_app x t.apps e).0)) h

  obey_keeps : (l : MapLaw) (t : Turn) → MaySay Q R l → P t → P (obey l t)
  unfolding obey equalize
  obey_keeps (application x) t may h = keeps x t may h
  obey_keeps (equation ps l r) t may h =
      let ls = t.core.links in
      let x = key_of ls ps l in
      let y = key_of ls ps r in
      give_keeps y ls ps l (give x y t) may.0 (give_keeps x ls ps r t may.1 h)

  pub obey_all_keeps_if : (ls : List MapLaw) (t : Turn) → All (MaySay Q R) ls → P t → P (obey_all ls t)
  unfolding obey_all
  obey_all_keeps_if [] t may h = h
  obey_all_keeps_if (l ∷ ls) t may h = obey_all_keeps_if ls (obey l t) may.1 (obey_keeps l t may.0 h)

-- the same where every application may be inserted
pub obey_all_keeps {ℓ} : (P : Turn → Type ℓ) → ((x : FuncApp) (t : Turn) → P t → P (apply_turn x t)) → (ls : List MapLaw) (t : Turn) → P t → P (obey_all ls t)
obey_all_keeps P keeps ls t =
    obey_all_keeps_if P (λ x. Unit {0}) (λ e. Unit {0}) (λ u h. all_of (λ x. tt) u.apps) (λ x u _. keeps x u) ls t (all_of may ls)
  where
    may : (l : MapLaw) → MaySay (λ x. Unit {0}) (λ e. Unit {0}) l
    may (application x) = tt
    may (equation ps l r) = (λ ls e _. tt, λ ls e _. tt)

-- Applications of neither id nor comp: they have no law, so that the pass leaves all as it was.

-- it is no application of a model's id or comp
abbrev pub NoOperation : List ModelM → FuncApp → Type 0
NoOperation ms x = is_id_or_comp x.func ms ≡ false

laws_of_none : (ms : List ModelM) (x : FuncApp) → NoOperation ms x → map_laws_of ms x ≡ []
unfolding is_id_or_comp map_laws_of map_laws_in
laws_of_none [] x e = refl
laws_of_none (m ∷ ms) x e =
    let id = eqb x.func m.id in
    let comp = eqb x.func m.comp in
    let here = or_first (id || comp) (is_id_or_comp x.func ms) e in
    let ids : identity_laws_in m x ≡ [] =
    ap (λ (b : Bool). elim b [ true ↦ identity_laws m x.parents x.args x.result | false ↦ [] ]) (or_first id comp here) in
    let comps : composition_laws_in m x ≡ [] =
    ap (λ (b : Bool). elim b [ true ↦ composition_laws m x.parents x.args x.result | false ↦ [] ]) (or_second id comp here) in
    (λ i. (ids i ++ comps i) ++ map_laws_of ms x) ∙ laws_of_none ms x (or_second (id || comp) (is_id_or_comp x.func ms) e)

pub laws_none : (ms : List ModelM) (xs : List FuncApp) → All (NoOperation ms) xs → map_laws ms xs ≡ []
unfolding map_laws
laws_none ms [] h = refl
laws_none ms (x ∷ xs) h = rw (laws_of_none ms x h.0) (laws_none ms xs h.1)

pub operations_none : (g : Sig) (preds : List PredApp) (t : Turn) → All (NoOperation g.models) t.apps → operation_pass g preds t ≡ t
unfolding operation_pass obey_all
operations_none g preds t h = ap (λ (ls : List MapLaw). obey_all ls t) (laws_none g.models t.apps h)
