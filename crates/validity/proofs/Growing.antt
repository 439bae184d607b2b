-- What is valid stays so where more is declared.
use mathlib.Core.Path.{◌≡◌, sym, subst, ◌∙◌}
use mathlib.Core.Logic.{inl, inr}
use mathlib.Core.Bool.{false}
use mathlib.Core.List.{List, [], ◌∷◌, ◌++◌}
use Prim.Native.Nat.{ℕ, ◌≤◌, ◌<◌}
use native.Mathlib.Omega.{arith}
use lib.ListN.{length}
use Rattle.ids.specs.declared.Ordering.{Ordering}
use Rattle.ids.specs.Table.{present, placed}
use Rattle.ids.proofs.Sorted.{Ordered, all_map, all_join, placed_all, placed_sorted, placed_present, placed_absent}
use Rattle.signature.specs.Model.{Sig, Kind, plain, model, enum, mor, TypeM, PredM, FuncM, ModelM, MorAppM}
use Rattle.signature.specs.Calls.{functions}
use Rattle.semantics.specs.Structure.{Fact, FuncApp, PredApp, Pair, Var, Ambient, Structure}
use Rattle.semantics.specs.Valid.{Below, Listed, Queue, Table, KindDeclared, TypeValid, PredValid, FuncValid, ModelValid, MorAppValid}
use Rattle.semantics.specs.Valid.{Counts, counts_at, counts_of, PairValid, FactValid, FuncAppValid, PredAppValid, VarValid, AmbientValid}
use Rattle.semantics.specs.Valid.{ValidStructure}
use Rattle.semantics.proofs.Cases.{test}
use Rattle.semantics.proofs.Links.{length_push}

-- Tables of which more is true.

module _ {A : Type 0} {P Q : A → Type 0} (f : (x : A) → P x → Q x) where
  pub queue_more : (limit : ℕ) (l : List A) → Queue P limit l → Queue Q limit l
  queue_more limit l q = record { each = all_map f l q.each; most = q.most }

  pub table_more : (cmp : A → A → Ordering) (limit larger : ℕ) (l : List A) → limit ≤ larger → Table P cmp limit l → Table Q cmp larger l
  table_more cmp limit larger l k t = record { each = all_map f l t.each; sorted = t.sorted; most = omega (arith, t.most) }

  -- one more at the end
  pub queue_push : (limit : ℕ) (l : List A) (x : A) → Queue P limit l → length l < limit → Q x → Queue Q limit (l ++ (x ∷ []))
  queue_push limit l x q room new = record {
    each = all_join Q l (x ∷ []) (all_map f l q.each) (new, tt);
    most = omega (arith, length_push l x);
  }

-- one entry placed in a table that has room for it, or has it
pub table_place : {A : Type 0} {P : A → Type 0} {cmp : A → A → Ordering} {limit : ℕ} → Ordered cmp → (x : A) (l : List A) → P x → Table P cmp limit l
    → (present cmp x l ≡ false → length l < limit) → Table P cmp limit (placed cmp x l)
table_place {A} {P} {cmp} {limit} o x l p t room = record {
  each = placed_all cmp x P l p t.each;
  sorted = placed_sorted o x l t.sorted;
  most = elim (test (present cmp x l)) [
    | inl e ↦ rw (placed_present cmp x l e) t.most
    | inr e ↦ omega (arith, placed_absent cmp x l e, room e)
  ];
}

module _ {n m : ℕ} (k : n ≤ m) where
  pub below_more : (l : List ℕ) → Below n l → Below m l
  below_more l h = all_map (λ e j. omega arith) l h

  pub listed_more : (l : List ℕ) → Listed n l → Listed m l
  listed_more l h = record { short = h.short; below = below_more l h.below }

  -- The signature.

  pub kind_more : (t : Kind) → KindDeclared n t → KindDeclared m t
  kind_more plain h = tt
  kind_more model h = tt
  kind_more enum h = tt
  kind_more (mor t) h = omega arith

  pub type_more : (t : TypeM) → TypeValid n t → TypeValid m t
  type_more t h = record { kind = kind_more t.kind h.kind; parents = listed_more t.parents h.parents }

  pub pred_more : (p : PredM) → PredValid n p → PredValid m p
  pred_more p h = record { parents = listed_more p.parents h.parents; arity = listed_more p.arity h.arity }

  pub func_more : (f : FuncM) → FuncValid n f → FuncValid m f
  func_more f h = record {
    parents = listed_more f.parents h.parents;
    domain = listed_more f.domain h.domain;
    codomain = omega (arith, h.codomain);
  }

module _ {n m i j : ℕ} (k : n ≤ m) (l : i ≤ j) where
  pub model_more : (x : ModelM) → ModelValid n i x → ModelValid m j x
  model_more x h = record { typ = omega (arith, h.typ); mor = omega (arith, h.mor); funcs = below_more l (functions x) h.funcs }

  pub mor_app_more : (x : MorAppM) → MorAppValid n i x → MorAppValid m j x
  mor_app_more x h = record {
    func = omega (arith, h.func);
    morphism_type = omega (arith, h.morphism_type);
    member_type = omega (arith, h.member_type);
  }

-- The structure.

pub record CountsGrow (c d : Counts) : Type 0 where
  pub els : c.els ≤ d.els
  pub types : c.types ≤ d.types
  pub parents : (t : ℕ) → c.parents t ≡ d.parents t
  pub preds : c.preds ≤ d.preds
  pub funcs : c.funcs ≤ d.funcs

module _ (c d : Counts) (k : CountsGrow c d) where
  pub pair_more : (p : Pair) → PairValid c p → PairValid d p
  pair_more p h = record { lhs = omega (arith, h.lhs, k.els); rhs = omega (arith, h.rhs, k.els) }

  pub fact_more : (f : Fact) → FactValid c f → FactValid d f
  fact_more f h = record {
    el = omega (arith, h.el, k.els);
    typ = omega (arith, h.typ, k.types);
    parents = listed_more k.els f.parents h.parents;
    parent_count = h.parent_count ∙ k.parents f.typ;
  }

  pub func_app_more : (x : FuncApp) → FuncAppValid c x → FuncAppValid d x
  func_app_more x h = record {
    func = omega (arith, h.func, k.funcs);
    parents = listed_more k.els x.parents h.parents;
    args = listed_more k.els x.args h.args;
    result = omega (arith, h.result, k.els);
  }

  pub pred_app_more : (x : PredApp) → PredAppValid c x → PredAppValid d x
  pred_app_more x h = record {
    pred = omega (arith, h.pred, k.preds);
    parents = listed_more k.els x.parents h.parents;
    args = listed_more k.els x.args h.args;
  }

  pub var_more : (v : Var) → VarValid c v → VarValid d v
  var_more v h = record { key = h.key; el = omega (arith, h.el, k.els) }

  pub ambient_more : (a : Ambient) → AmbientValid c a → AmbientValid d a
  ambient_more a h = record { typ = omega (arith, h.typ, k.types); el = omega (arith, h.el, k.els) }

-- the counts are those of the structure
pub counted : (g : Sig) (n : ℕ) (s : Structure) → ValidStructure (counts_at g n) s → ValidStructure (counts_of g s) s
counted g n s v = subst (λ (k : ℕ). ValidStructure (counts_at g k) s) (sym v.els) v
