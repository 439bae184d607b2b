-- Laws that the proofs of several functions cite: of the searches, of the kinds, and of the type lookup.
use mathlib.Core.Path.{◌≡◌, refl, sym, ap, ◌∙◌}
use mathlib.Core.Bool.{◌&&◌}
use mathlib.Core.List.{List}
use Prim.Native.Nat.{ℕ, ◌≤◌, ◌<◌}
use native.Mathlib.Omega.{arith}
use lib.Dec.{eqb}
use borrow.Author.Tests.{le-ltb, lt-ltb}
use Rattle.ids.proofs.Counted.{Search}
use Rattle.signature.specs.declared.Type as code-type
use Rattle.signature.specs.declared.TypeKind.{TypeKind}
use Rattle.signature.specs.Model.{TypeM, ModelM, MorAppM, type_of, kind_of}
use Rattle.signature.specs.Calls.{member, functions, model_given, in_models, in_mor_apps, pair_given, at, absent, parent_count, concrete_type_at}

-- What each search looks for.

pub by_type : (t : ℕ) → Search (λ (m : ModelM). eqb m.typ t) (model_given t)
unfolding model_given
by_type t = record { none = refl; more = λ y ys. refl }

pub by_name : (f : ℕ) → Search (λ (m : ModelM). member f (functions m)) (in_models f)
unfolding in_models
by_name f = record { none = refl; more = λ y ys. refl }

pub by_func : (f : ℕ) → Search (λ (m : MorAppM). eqb m.func f) (in_mor_apps f)
unfolding in_mor_apps
by_func f = record { none = refl; more = λ y ys. refl }

pub by_pair : (mo me : ℕ) → Search (λ (m : MorAppM). eqb m.morphism_type mo && eqb m.member_type me) (pair_given mo me)
unfolding pair_given
by_pair mo me = record { none = refl; more = λ y ys. refl }

-- the kind of a type that was read, where it was told apart
pub kind_told : (t : code-type.Type) (m : TypeM) (k : TypeKind) → type_of t ≡ m → t.kind ≡ k → kind_of k ≡ m.kind
kind_told t m k e h = ap kind_of (sym h) ∙ ap (λ (n : TypeM). n.kind) e

-- The type lookup, of a type with n parents.
module _ (ts : List TypeM) (t given n : ℕ) (parents : n ≡ parent_count ts t) where
  pub too_few : given < n → absent ≡ concrete_type_at ts t given
  unfolding concrete_type_at
  too_few h = sym (rw (lt-ltb given (parent_count ts t) (omega (arith, parents)), concrete_type_at))

  pub enough : n ≤ given → at t n ≡ concrete_type_at ts t given
  unfolding concrete_type_at
  enough h = ap (at t) parents ∙ sym (rw (le-ltb given (parent_count ts t) (omega (arith, parents)), concrete_type_at))
