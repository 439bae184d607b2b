-- "Number 7 remains for record 5 functions, and for id and comp where a record 5 stands", and 12 refuses "an id application without exactly one argument, or a
-- comp without exactly two" (02, M-102): what is stored after every list of calls.
use mathlib.Core.Path.{◌≡◌, refl, sym, ap, ◌∙◌}
use mathlib.Core.Logic.{◌≢◌, inl, inr}
use mathlib.Core.Bool.{Bool, true, false, not, ◌&&◌}
use mathlib.Core.List.Memᴰ
use mathlib.Core.List.{List, [], ◌∷◌, Memᴰ}
use Prim.Native.Nat.{ℕ}
use lib.ListN.{length}
use lib.Dec.{eqb, ltb}
use borrow.Author.Tests.{eqb-true, eqb-false, eq-eqb, not-false}
use Rattle.ids.proofs.Sorted.{all_at, no_test}
use Rattle.signature.specs.Model.{Sig, Kind, plain, model, enum, mor, ModelM, MorAppM, type_at}
use Rattle.signature.specs.Calls.{kind_is_model, is_model, in_mor_apps}
use Rattle.semantics.specs.Structure.{FuncApp, Ambient}
use Rattle.semantics.specs.Calls.{is_id_or_comp, is_reserved, misapplies, is_misapplied, Call, start, after_calls}
use Rattle.semantics.specs.Valid.{Unreserved, WellApplied, OfModel}
use Rattle.semantics.proofs.Cases.{and_fails, or_first, or_second}
use Rattle.validity.proofs.Operating.{is_operation, no_mor_apps}
use Rattle.validity.proofs.Calls.{calls_valid}

-- an application of no morphism application function; one of a model's id or comp only where there is no such function, and then of id with one
-- argument and of comp with two
pub record NotReserved (g : Sig) (x : FuncApp) : Type 0 where
  pub mor_app : (m : MorAppM) → Memᴰ m g.mor_apps → x.func ≢ m.func
  pub id : (m : ModelM) → Memᴰ m g.models → x.func ≡ m.id → (g.mor_apps ≡ []) × (length x.args ≡ 1)
  pub comp : (m : ModelM) → Memᴰ m g.models → x.func ≡ m.comp → (g.mor_apps ≡ []) × (length x.args ≡ 2)

well_applied : (x : FuncApp) (ms : List ModelM) → is_misapplied x ms ≡ false → (m : ModelM) → Memᴰ m ms → misapplies m x ≡ false
unfolding is_misapplied
well_applied x [] e m k = absurd (Memᴰ.not-nil k)
well_applied x (n ∷ ns) e m k = elim (Memᴰ.cases_cons k) [
  | inl q ↦ rw q (or_first (misapplies n x) (is_misapplied x ns) e)
  | inr j ↦ well_applied x ns (or_second (misapplies n x) (is_misapplied x ns) e) m j
]

-- the test that an application of f has n arguments
arity_if : (f h k n : ℕ) → f ≡ h → (eqb f h && not (eqb k n)) ≡ false → k ≡ n
arity_if f h k n e t = eqb-true k n (not-false (eqb k n) (and_fails (eqb f h) (not (eqb k n)) (eq-eqb f h e) t))

not_mor_app : (f : ℕ) (ms : List MorAppM) → in_mor_apps f ms ≡ false → (m : MorAppM) → Memᴰ m ms → f ≢ m.func
unfolding in_mor_apps
not_mor_app f [] e m k = absurd (Memᴰ.not-nil k)
not_mor_app f (n ∷ ns) e m k = elim (Memᴰ.cases_cons k) [
  | inl q ↦ λ z. eqb-false n.func f (or_first (eqb n.func f) (in_mor_apps f ns) e) (sym (z ∙ ap (λ (a : MorAppM). a.func) q))
  | inr j ↦ not_mor_app f ns (or_second (eqb n.func f) (in_mor_apps f ns) e) m j
]

pub not_reserved : (g : Sig) (x : FuncApp) → is_reserved g x.func ≡ false → is_misapplied x g.models ≡ false → NotReserved g x
unfolding is_reserved misapplies
not_reserved g x r a =
    let named = in_mor_apps x.func g.mor_apps in
    let operation = is_id_or_comp x.func g.models && ltb 0 (length g.mor_apps) in
    record {
      mor_app = not_mor_app x.func g.mor_apps (or_first named operation r);
      id = λ m k e. (
        free m.id e (is_operation g.models m k).0,
        arity_if x.func m.id (length x.args) 1 e (or_first (ids m) (comps m) (well_applied x g.models a m k)),
      );
      comp = λ m k e. (
        free m.comp e (is_operation g.models m k).1,
        arity_if x.func m.comp (length x.args) 2 e (or_second (ids m) (comps m) (well_applied x g.models a m k)),
      );
    }
  where
    free : (f : ℕ) → x.func ≡ f → is_id_or_comp f g.models ≡ true → g.mor_apps ≡ []
    free f e op = no_mor_apps g x.func (ap (λ (h : ℕ). is_id_or_comp h g.models) e ∙ op) r

    ids : ModelM → Bool
    ids m = eqb x.func m.id && not (eqb (length x.args) 1)

    comps : ModelM → Bool
    comps m = eqb x.func m.comp && not (eqb (length x.args) 2)

-- after any calls each stored application is so
pub applications_not_reserved : (ks : List Call) (x : FuncApp) → Memᴰ x (after_calls ks start).structure.func_apps
    → NotReserved (after_calls ks start).sig x
applications_not_reserved ks x k =
    let m = after_calls ks start in
    not_reserved m.sig x (all_at (Unreserved m.sig) m.structure.func_apps (calls_valid ks).unreserved x k)
    (all_at (WellApplied m.sig) m.structure.func_apps (calls_valid ks).well_applied x k)

model_if : (k : Kind) → kind_is_model k ≡ true → k ≡ model
model_if plain e = no_test e refl
model_if model e = refl
model_if enum e = no_test e refl
model_if (mor t) e = no_test e refl

-- after any calls the type of each ambient is a Model
pub ambients_of_models : (ks : List Call) (a : Ambient) → Memᴰ a (after_calls ks start).structure.ambients
    → (type_at (after_calls ks start).sig a.typ).kind ≡ model
unfolding is_model
ambients_of_models ks a k =
    let m = after_calls ks start in
    model_if (type_at m.sig a.typ).kind (all_at (OfModel m.sig) m.structure.ambients (calls_valid ks).of_models a k)
