-- A list of the code's public calls, by what their contracts say of the values that they take and give.
use Rattle.std.specs.Prelude.{Bool, List, [], ◌∷◌}
use Rattle.ids.specs.declared.ElId.{ElId}
use Rattle.ids.specs.declared.ElIds.{ElIds}
use Rattle.ids.specs.declared.TypeId.{TypeId}
use Rattle.ids.specs.declared.TypeIds.{TypeIds}
use Rattle.ids.specs.Ids.{given_els, given_types}
use Rattle.unification.specs.declared.Finding.{Finding}
use Rattle.signature.specs.declared.Type as code-type
use Rattle.signature.specs.declared.Pred.{Pred}
use Rattle.signature.specs.declared.Func.{Func}
use Rattle.signature.specs.declared.ModelIds.{ModelIds}
use Rattle.signature.specs.declared.MorAppFunc.{MorAppFunc}
use Rattle.signature.specs.declared.Declaring.{Declaring}
use Rattle.signature.specs.declared.TypeLookup.{TypeLookup}
use Rattle.signature.specs.declared.Signature.{Signature}
use Rattle.signature.specs.Model.{given_type, given_pred, given_func, model_of, mor_app_of}
use Rattle.signature.specs.Calls as signing
use Rattle.semantics.specs.Calls as calls
use Rattle.semantics.specs.Calls.{Call, Answer, is_accepted, merges_of, conflicting}
use Rattle.semantics.proofs.Judged.{looked_up}
use Rattle.facts.specs.declared.Fact.{Fact}
use Rattle.apps.specs.declared.FuncApp.{FuncApp}
use Rattle.apps.specs.declared.PredApp.{PredApp}
use Rattle.bindings.specs.declared.VarEl.{VarEl}
use Rattle.bindings.specs.declared.AmbientEl.{AmbientEl}
use Rattle.bindings.specs.View.{var_of, ambient_of}
use Rattle.structure.specs.declared.Structure.{Structure}
use Rattle.structure.specs.declared.Stepped.{Stepped}
use Rattle.structure.specs.declared.Machine.{Machine}
use Rattle.structure.specs.declared.AmbientParents.{AmbientParents}
use Rattle.structure.specs.declared.Rooting.{Rooting}
use Rattle.structure.specs.View.{answer_of, found_of, ambients_looked_of}
use Rattle.facts.specs.View.{given_fact}
use Rattle.inserting.specs.View.{given_func_app, given_pred_app}
use Rattle.declaring.specs.View.{declared_of}
use Rattle.conflicts.specs.declared.Conflicting.{Conflicting}
use Rattle.conflicts.specs.View.{given_conflicts}
use Rattle.declaring.proofs.push_type.Reads as push-type-fn
use Rattle.declaring.proofs.push_pred.Reads as push-pred-fn
use Rattle.declaring.proofs.push_func.Reads as push-func-fn
use Rattle.declaring.proofs.push_model.Reads as push-model-fn
use Rattle.declaring.proofs.push_mor_app_func.Reads as push-mor-app-func-fn
use Rattle.structure.proofs.Structure.push_el.Reads as push-el-fn
use Rattle.structure.proofs.Structure.equate.Reads as equate-fn
use Rattle.inserting.proofs.impose_type.Reads as impose-type-fn
use Rattle.inserting.proofs.insert_func_app_or_equate.Reads as insert-func-app-fn
use Rattle.inserting.proofs.insert_pred_app.Reads as insert-pred-app-fn
use Rattle.structure.proofs.Structure.insert_var_el.Reads as insert-var-el-fn
use Rattle.structure.proofs.Structure.insert_ambient_model_el.Reads as insert-ambient-fn
use Rattle.close.proofs.close.Reads as close-fn
use Rattle.conflicts.proofs.type_conflicts.Reads as type-conflicts-fn
use Rattle.settle.proofs.settle.Reads as settle-fn
use Rattle.structure.proofs.Structure.root.Reads as root-fn
use Rattle.structure.proofs.Structure.root_const.Reads as root-const-fn
use Rattle.signature.proofs.Signature.lookup_type.Reads as lookup-type-fn
use Rattle.structure.proofs.Structure.ambient_parents.Reads as ambient-parents-fn
use Rattle.signature.proofs.Signature.new.Reads as new-signature-fn
use Rattle.structure.proofs.Structure.new.Reads as new-structure-fn
use Rattle.history.specs.Book.{Book, fed}
use Rattle.history.specs.Settled.{Event, event}

abbrev pub with_signature : Signature → Machine → Machine
with_signature g v = record { signature = g; structure = v.structure }

abbrev pub with_structure : Structure → Machine → Machine
with_structure s v = record { signature = v.signature; structure = s }

-- the arguments of a call that takes both values, or the structure alone, and one more
abbrev both : {A : Type 0} → Machine → A → Structure × (Signature × (A × Unit {0}))
both v x = (v.structure, (v.signature, (x, tt)))

abbrev one : {A : Type 0} → Machine → A → Structure × (A × Unit {0})
one v x = (v.structure, (x, tt))

-- A call was made: from which two values, with what answer, and to which. Each case asks what the code's function ensures, by the function's own name (`Learnt`),
-- of the arguments at entry, the result, and the arguments at exit.
pub data Made (v : Machine) : Call → Answer → Machine → Type 0 where
  push_type : (t : code-type.Type) (r : Declaring) → push-type-fn.Learnt tt (both v t) r (both v t)
      → Made v (calls.push_type (given_type t)) (declared_of r.answer) (with_signature r.signature v)
  push_pred : (p : Pred) (r : Declaring) → push-pred-fn.Learnt tt (both v p) r (both v p)
      → Made v (calls.push_pred (given_pred p)) (declared_of r.answer) (with_signature r.signature v)
  push_func : (f : Func) (r : Declaring) → push-func-fn.Learnt tt (both v f) r (both v f)
      → Made v (calls.push_func (given_func f)) (declared_of r.answer) (with_signature r.signature v)
  push_model : (m : ModelIds) (r : Declaring) → push-model-fn.Learnt tt (both v m) r (both v m)
      → Made v (calls.push_model (model_of m)) (declared_of r.answer) (with_signature r.signature v)
  push_mor_app_func : (m : MorAppFunc) (r : Declaring) → push-mor-app-func-fn.Learnt tt (both v m) r (both v m)
      → Made v (calls.push_mor_app (mor_app_of m)) (declared_of r.answer) (with_signature r.signature v)
  push_el : (mark : Bool) (r : Stepped) → push-el-fn.Learnt tt (one v mark) r (one v mark)
      → Made v (calls.push_el mark) (answer_of [] r.answer) (with_structure r.structure v)
  equate : (a b : ElId) (r : Stepped) → equate-fn.Learnt tt (v.structure, (a, (b, tt))) r (v.structure, (a, (b, tt)))
      → Made v (calls.equate_els a.0 b.0) (answer_of [] r.answer) (with_structure r.structure v)
  impose_type : (f : Fact) (r : Stepped) → impose-type-fn.Learnt tt (both v f) r (both v f)
      → Made v (calls.impose_type (given_fact f)) (answer_of [] r.answer) (with_structure r.structure v)
  insert_func_app_or_equate : (x : FuncApp) (r : Stepped) → insert-func-app-fn.Learnt tt (both v x) r (both v x)
      → Made v (calls.apply_func (given_func_app x)) (answer_of [] r.answer) (with_structure r.structure v)
  insert_pred_app : (x : PredApp) (r : Stepped) → insert-pred-app-fn.Learnt tt (both v x) r (both v x)
      → Made v (calls.apply_pred (given_pred_app x)) (answer_of [] r.answer) (with_structure r.structure v)
  insert_var_el : (x : VarEl) (r : Stepped) → insert-var-el-fn.Learnt tt (one v x) r (one v x)
      → Made v (calls.bind_var (var_of x)) (answer_of [] r.answer) (with_structure r.structure v)
  insert_ambient_model_el : (x : AmbientEl) (r : Stepped) → insert-ambient-fn.Learnt tt (both v x) r (both v x)
      → Made v (calls.bind_ambient (ambient_of x)) (answer_of [] r.answer) (with_structure r.structure v)
  close : (r : Stepped) → close-fn.Learnt tt (v.structure, (v.signature, tt)) r (v.structure, (v.signature, tt))
      → Made v calls.close (answer_of [] r.answer) (with_structure r.structure v)
  type_conflicts : (r : Conflicting) → type-conflicts-fn.Learnt tt (v.structure, tt) r (v.structure, tt)
      → Made v calls.type_conflicts (conflicting (given_conflicts r.conflicts) r.finds) (with_structure r.structure v)
  settle : (r : Stepped) → settle-fn.Learnt tt (v.structure, (v.signature, tt)) r (v.structure, (v.signature, tt))
      → Made v calls.settle (answer_of [] r.answer) (with_structure r.structure v)
  root : (e : ElId) (r : Rooting) → root-fn.Learnt tt (one v e) r (one v e)
      → Made v (calls.root e.0) (found_of r.find) (with_structure r.structure v)
  root_const : (e : ElId) (r : Finding) → root-const-fn.Learnt tt (one v e) r (one v e)
      → Made v (calls.root_const e.0) (found_of r) v
  lookup_type : (t : TypeId) (ps : ElIds) (r : TypeLookup) → lookup-type-fn.Learnt tt (v.signature, (t, (ps, tt))) r (v.signature, (t, (ps, tt)))
      → Made v (calls.lookup_type t.0 (given_els ps)) (looked_up (given_els ps) (signing.type_looked_of r)) v
  ambient_parents : (ts : TypeIds) (r : AmbientParents) → ambient-parents-fn.Learnt tt (both v ts) r (both v ts)
      → Made v (calls.ambient_parents (given_types ts)) (ambients_looked_of (given_els r.els) r.answer) v

-- A list of calls was made, each on the values that the one before it handed back, and the book was fed with them.
pub data Run : Machine → Book → List Call → Machine → Book → Type 0 where
  none : {v : Machine} {b : Book} → Run v b [] v b
  more : {v w z : Machine} {b d : Book} {k : Call} {a : Answer} {ks : List Call} → Made v k a w
      → Run w (fed k (is_accepted a) (merges_of a) b) ks z d → Run v b (k ∷ ks) z d

-- the calls of a list with what the code answered, the latest first; those made before it are es
unfoldable pub events_of : {v z : Machine} {b d : Book} {ks : List Call} → Run v b ks z d → List Event → List Event
events_of none es = es
events_of (more {k = k} {a = a} m r) es = events_of r (event k a ∷ es)

-- "A list begins at the empty signature and structure": what `new` ensures of both
pub record Fresh (v : Machine) : Type 0 where
  pub sig : new-signature-fn.Learnt tt tt v.signature tt
  pub str : new-structure-fn.Learnt tt tt v.structure tt
