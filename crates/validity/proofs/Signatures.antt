-- Each call of kinds 1 to 5 keeps the signature valid, and the structure over it: it is accepted only while nothing is stored.
use mathlib.Core.Path.{◌≡◌, refl, sym, subst}
use mathlib.Core.Bool.{true, false, ◌&&◌, ◌||◌}
use mathlib.Core.List.{List, [], ◌∷◌, ◌++◌}
use Prim.Native.Nat.{◌≤◌}
use native.Mathlib.Omega.{arith}
use native.Mathlib.Nat.{le_refl}
use lib.ListN.{length}
use borrow.Author.Tests.{ltb-true, leb-false, not-false}
use Rattle.ids.specs.Ids.{too_long, all_below}
use Rattle.ids.proofs.Judging.{NoneApplies}
use Rattle.unification.proofs.Theorems.{none_formed}
use Rattle.signature.specs.Model.{Sig, Kind, plain, model, enum, mor, TypeM, PredM, FuncM, ModelM, MorAppM, max_types, max_preds, max_funcs}
use Rattle.signature.specs.Model as signature
use Rattle.signature.specs.Model.{max_models, max_mor_apps, with_types, with_preds, with_funcs, with_models, with_mor_apps}
use Rattle.signature.specs.Calls.{is_type, are_types, is_func, model_declared, model_given, functions, repeats, any_given, model_ids_declared, type_causes, with_type, pred_causes}
use Rattle.signature.specs.Calls.{with_pred, func_causes, with_func, model_causes, with_model, mor_app_causes, with_mor_app}
use Rattle.semantics.specs.Structure.{Structure, empty}
use Rattle.semantics.specs.Valid.{KindDeclared, functions_in, ValidSig, Valid}
use Rattle.semantics.proofs.Cases.{and_first, and_second, or_first, or_second}
use Rattle.semantics.proofs.Links.{length_push}
use Rattle.semantics.proofs.ModelFunctions.{once_more}
use Rattle.semantics.proofs.Judged.{below_if, listed_if}
use Rattle.validity.proofs.Growing.{queue_more, queue_push, kind_more, listed_more, type_more, pred_more, func_more, model_more}
use Rattle.validity.proofs.Growing.{mor_app_more}

kind_declared : (g : Sig) (t : Kind) → model_declared g t ≡ true → KindDeclared (length g.types) t
kind_declared g plain e = tt
kind_declared g model e = tt
kind_declared g enum e = tt
kind_declared g (mor t) e = ltb-true t (length g.types) e

-- one entry more is enough room for what was there
longer : {A : Type 0} (l : List A) (x : A) → length l ≤ length (l ++ (x ∷ []))
longer l x = omega (arith, length_push l x)

-- nothing is stored yet
pub empty_valid : (g : Sig) → ValidSig g → Valid g empty
unfolding empty
empty_valid g sig = record {
  sig = sig;
  structure = record {
    els = refl;
    els_most = omega arith;
    links = none_formed;
    marks = refl;
    facts = record { each = tt; sorted = tt; most = omega arith };
    facts_rooted = tt;
    func_apps = record { each = tt; sorted = tt; most = omega arith };
    pred_apps = record { each = tt; sorted = tt; most = omega arith };
    vars = record { each = tt; sorted = tt; most = omega arith };
    ambients = record { each = tt; sorted = tt; most = omega arith };
    pairs = record { each = tt; most = omega arith };
    impositions = record { each = tt; most = omega arith };
  };
  unreserved = tt;
  well_applied = tt;
  of_models = tt;
  unstarted = λ q. refl;
}

module _ (g : Sig) (s : Structure) (v : Valid g s) where
  -- a declaration is accepted only while nothing is stored
  declared : (h : Sig) → s.started ≡ false → ValidSig h → Valid h s
  declared h q sig = subst (Valid h) (sym (v.unstarted q)) (empty_valid h sig)

  pub type_valid : (t : TypeM) → NoneApplies (type_causes s.started g t) → Valid (with_type g t) s
  unfolding type_causes with_type with_types
  type_valid t clear =
      let d = not-false (are_types g t.parents && model_declared g t.kind) clear.1.1.0 in
      let few = leb-false max_types (length g.types) clear.1.1.1.1.0 in
      let more = longer g.types t in
      let parents = listed_if (length g.types) t.parents clear.0 (and_first (are_types g t.parents) (model_declared g t.kind) d) in
      let kind = kind_declared g t.kind (and_second (are_types g t.parents) (model_declared g t.kind) d) in
      declared _ clear.1.0 (record {
        types = queue_push (type_more more) max_types g.types t v.sig.types few
            (record { kind = kind_more more t.kind kind; parents = listed_more more t.parents parents });
        preds = queue_more (pred_more more) max_preds g.preds v.sig.preds;
        funcs = queue_more (func_more more) max_funcs g.funcs v.sig.funcs;
        models = queue_more (model_more more (le_refl (length g.funcs))) max_models g.models v.sig.models;
        mor_apps = queue_more (mor_app_more more (le_refl (length g.funcs))) max_mor_apps g.mor_apps v.sig.mor_apps;
        once = v.sig.once;
      })

  pub pred_valid : (p : PredM) → NoneApplies (pred_causes s.started g p) → Valid (with_pred g p) s
  unfolding pred_causes with_pred with_preds
  pred_valid p clear =
      let d = not-false (are_types g p.parents && are_types g p.arity) clear.1.1.0 in
      let few = leb-false max_preds (length g.preds) clear.1.1.1.0 in
      declared _ clear.1.0 (record {
        types = v.sig.types;
        preds = queue_push (λ x k. k) max_preds g.preds p v.sig.preds few (record {
          parents = listed_if (length g.types) p.parents (or_first (too_long p.parents) (too_long p.arity) clear.0)
              (and_first (are_types g p.parents) (are_types g p.arity) d);
          arity = listed_if (length g.types) p.arity (or_second (too_long p.parents) (too_long p.arity) clear.0)
              (and_second (are_types g p.parents) (are_types g p.arity) d);
        });
        funcs = v.sig.funcs;
        models = v.sig.models;
        mor_apps = v.sig.mor_apps;
        once = v.sig.once;
      })

  pub func_valid : (f : FuncM) → NoneApplies (func_causes s.started g f) → Valid (with_func g f) s
  unfolding func_causes with_func with_funcs
  func_valid f clear =
      let rest = are_types g f.domain && is_type g f.codomain in
      let d = not-false (are_types g f.parents && rest) clear.1.1.0 in
      let e = and_second (are_types g f.parents) rest d in
      let few = leb-false max_funcs (length g.funcs) clear.1.1.1.0 in
      let more = longer g.funcs f in
      declared _ clear.1.0 (record {
        types = v.sig.types;
        preds = v.sig.preds;
        funcs = queue_push (λ x k. k) max_funcs g.funcs f v.sig.funcs few (record {
          parents = listed_if (length g.types) f.parents (or_first (too_long f.parents) (too_long f.domain) clear.0)
              (and_first (are_types g f.parents) rest d);
          domain = listed_if (length g.types) f.domain (or_second (too_long f.parents) (too_long f.domain) clear.0)
              (and_first (are_types g f.domain) (is_type g f.codomain) e);
          codomain = ltb-true f.codomain (length g.types) (and_second (are_types g f.domain) (is_type g f.codomain) e);
        });
        models = queue_more (model_more (le_refl (length g.types)) more) max_models g.models v.sig.models;
        mor_apps = queue_more (mor_app_more (le_refl (length g.types)) more) max_mor_apps g.mor_apps v.sig.mor_apps;
        once = v.sig.once;
      })

  pub model_valid : (m : ModelM) → NoneApplies (model_causes s.started g m) → Valid (with_model g m) s
  unfolding model_causes with_model with_models model_ids_declared
  model_valid m clear =
      let funcs = all_below (length g.funcs) (functions m) in
      let rest = is_type g m.mor && funcs in
      let d = not-false (is_type g m.typ && rest) clear.1.0 in
      let e = and_second (is_type g m.typ) rest d in
      let given = any_given g (functions m) in
      let again = or_second (model_given m.typ g.models) (repeats (functions m) || given) clear.1.1.1.0 in
      let few = leb-false max_models (length g.models) clear.1.1.1.1.0 in
      declared _ clear.0 (record {
        types = v.sig.types;
        preds = v.sig.preds;
        funcs = v.sig.funcs;
        models = queue_push (λ x k. k) max_models g.models m v.sig.models few (record {
          typ = ltb-true m.typ (length g.types) (and_first (is_type g m.typ) rest d);
          mor = ltb-true m.mor (length g.types) (and_first (is_type g m.mor) funcs e);
          funcs = below_if (length g.funcs) (functions m) (and_second (is_type g m.mor) funcs e);
        });
        mor_apps = v.sig.mor_apps;
        once = once_more g m v.sig.once (or_first (repeats (functions m)) given again) (or_second (repeats (functions m)) given again);
      })

  pub mor_app_valid : (m : MorAppM) → NoneApplies (mor_app_causes s.started g m) → Valid (with_mor_app g m) s
  unfolding mor_app_causes with_mor_app with_mor_apps
  mor_app_valid m clear =
      let rest = is_type g m.morphism_type && is_type g m.member_type in
      let d = not-false (is_func g m.func && rest) clear.1.0 in
      let e = and_second (is_func g m.func) rest d in
      let few = leb-false max_mor_apps (length g.mor_apps) clear.1.1.1.1.0 in
      declared _ clear.0 (record {
        types = v.sig.types;
        preds = v.sig.preds;
        funcs = v.sig.funcs;
        models = v.sig.models;
        mor_apps = queue_push (λ x k. k) max_mor_apps g.mor_apps m v.sig.mor_apps few (record {
          func = ltb-true m.func (length g.funcs) (and_first (is_func g m.func) rest d);
          morphism_type = ltb-true m.morphism_type (length g.types) (and_first (is_type g m.morphism_type) (is_type g m.member_type) e);
          member_type = ltb-true m.member_type (length g.types) (and_second (is_type g m.morphism_type) (is_type g m.member_type) e);
        });
        once = v.sig.once;
      })

pub empty_sig : ValidSig signature.empty
unfolding signature.empty functions_in repeats
empty_sig = record {
  types = record { each = tt; most = omega arith };
  preds = record { each = tt; most = omega arith };
  funcs = record { each = tt; most = omega arith };
  models = record { each = tt; most = omega arith };
  mor_apps = record { each = tt; most = omega arith };
  once = refl;
}
