-- No public call asks anything: each function's `requires`, by its name, of any arguments. A `requires` added to one of them would show here.
use mathlib.Core.Bool.{Bool}
use contract.Lifetimes.{Lfts}
use Rattle.ids.specs.declared.ElId.{ElId}
use Rattle.ids.specs.declared.ElIds.{ElIds}
use Rattle.ids.specs.declared.TypeId.{TypeId}
use Rattle.ids.specs.declared.TypeIds.{TypeIds}
use Rattle.signature.specs.declared.Type as code-type
use Rattle.signature.specs.declared.Pred.{Pred}
use Rattle.signature.specs.declared.Func.{Func}
use Rattle.signature.specs.declared.ModelIds.{ModelIds}
use Rattle.signature.specs.declared.MorAppFunc.{MorAppFunc}
use Rattle.signature.specs.declared.Signature.{Signature}
use Rattle.facts.specs.declared.Fact.{Fact}
use Rattle.apps.specs.declared.FuncApp.{FuncApp}
use Rattle.apps.specs.declared.PredApp.{PredApp}
use Rattle.bindings.specs.declared.VarEl.{VarEl}
use Rattle.bindings.specs.declared.AmbientEl.{AmbientEl}
use Rattle.structure.specs.declared.Structure.{Structure}
use Rattle.declaring.proofs.push_type.Reads as push-type-fn
use Rattle.declaring.proofs.push_pred.Reads as push-pred-fn
use Rattle.declaring.proofs.push_func.Reads as push-func-fn
use Rattle.declaring.proofs.push_model.Reads as push-model-fn
use Rattle.declaring.proofs.push_mor_app_func.Reads as push-mor-app-func-fn
use Rattle.structure.proofs.Structure.push_el.Reads as push-el-fn
use Rattle.structure.proofs.Structure.equate.Reads as equate-fn
use Rattle.inserting.proofs.impose_type.Reads as impose-type-fn
use Rattle.inserting.proofs.insert_func_app_or_equate.Reads as insert-func-app-fn
use Rattle.inserting.proofs.insert_pred_app.Reads as insert-pred-app-fn
use Rattle.structure.proofs.Structure.insert_var_el.Reads as insert-var-el-fn
use Rattle.structure.proofs.Structure.insert_ambient_model_el.Reads as insert-ambient-fn
use Rattle.close.proofs.close.Reads as close-fn
use Rattle.conflicts.proofs.type_conflicts.Reads as type-conflicts-fn
use Rattle.settle.proofs.settle.Reads as settle-fn
use Rattle.structure.proofs.Structure.root.Reads as root-fn
use Rattle.structure.proofs.Structure.root_const.Reads as root-const-fn
use Rattle.signature.proofs.Signature.lookup_type.Reads as lookup-type-fn
use Rattle.structure.proofs.Structure.ambient_parents.Reads as ambient-parents-fn
use Rattle.structure.proofs.Structure.is_settled.Reads as is-settled-fn
use Rattle.signature.proofs.Signature.new.Reads as new-signature-fn
use Rattle.structure.proofs.Structure.new.Reads as new-structure-fn
use Rattle.storing.proofs.store.Reads as store-fn
use Rattle.loading.proofs.load.Reads as load_fn
use Rattle.conserved.specs.Acts.{Lent, LentMut}

pub new_signature_asked : new-signature-fn.Asked tt tt
new_signature_asked = tt

pub new_structure_asked : new-structure-fn.Asked tt tt
new_structure_asked = tt

module _ (s : Structure) where
  pub push_el_asked : (mark : Bool) → push-el-fn.Asked tt (s, (mark, tt))
  push_el_asked mark = tt

  pub equate_asked : (a b : ElId) → equate-fn.Asked tt (s, (a, (b, tt)))
  equate_asked a b = tt

  pub insert_var_el_asked : (x : VarEl) → insert-var-el-fn.Asked tt (s, (x, tt))
  insert_var_el_asked x = tt

  pub type_conflicts_asked : type-conflicts-fn.Asked tt (s, tt)
  type_conflicts_asked = tt

  pub is_settled_asked : is-settled-fn.Asked tt (s, tt)
  is_settled_asked = tt

  pub root_asked : (e : ElId) → root-fn.Asked tt (s, (e, tt))
  root_asked e = tt

  pub root_const_asked : (e : ElId) → root-const-fn.Asked tt (s, (e, tt))
  root_const_asked e = tt

  pub store_asked : (κs : Lfts 1) (buffer : LentMut) → store-fn.Asked κs (s, (buffer, tt))
  store_asked κs buffer = tt

module _ (g : Signature) where
  pub load_asked : (κs : Lfts 1) (bytes : Lent) → load_fn.Asked κs (g, (bytes, tt))
  load_asked κs bytes = tt

  pub lookup_type_asked : (t : TypeId) (ps : ElIds) → lookup-type-fn.Asked tt (g, (t, (ps, tt)))
  lookup_type_asked t ps = tt

module _ (s : Structure) (g : Signature) where
  pub push_type_asked : (t : code-type.Type) → push-type-fn.Asked tt (s, (g, (t, tt)))
  push_type_asked t = tt

  pub push_pred_asked : (p : Pred) → push-pred-fn.Asked tt (s, (g, (p, tt)))
  push_pred_asked p = tt

  pub push_func_asked : (f : Func) → push-func-fn.Asked tt (s, (g, (f, tt)))
  push_func_asked f = tt

  pub push_model_asked : (m : ModelIds) → push-model-fn.Asked tt (s, (g, (m, tt)))
  push_model_asked m = tt

  pub push_mor_app_func_asked : (m : MorAppFunc) → push-mor-app-func-fn.Asked tt (s, (g, (m, tt)))
  push_mor_app_func_asked m = tt

  pub impose_type_asked : (f : Fact) → impose-type-fn.Asked tt (s, (g, (f, tt)))
  impose_type_asked f = tt

  pub insert_func_app_or_equate_asked : (x : FuncApp) → insert-func-app-fn.Asked tt (s, (g, (x, tt)))
  insert_func_app_or_equate_asked x = tt

  pub insert_pred_app_asked : (x : PredApp) → insert-pred-app-fn.Asked tt (s, (g, (x, tt)))
  insert_pred_app_asked x = tt

  pub insert_ambient_model_el_asked : (x : AmbientEl) → insert-ambient-fn.Asked tt (s, (g, (x, tt)))
  insert_ambient_model_el_asked x = tt

  pub close_asked : close-fn.Asked tt (s, (g, tt))
  close_asked = tt

  pub settle_asked : settle-fn.Asked tt (s, (g, tt))
  settle_asked = tt

  pub ambient_parents_asked : (ts : TypeIds) → ambient-parents-fn.Asked tt (s, (g, (ts, tt)))
  ambient_parents_asked ts = tt
