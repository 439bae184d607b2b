-- What is given to a call, as the definitions speak of it: a list of over four entries is seen as such.
use Rattle.std.specs.Prelude.{ℕ, Bool, ◌&&◌, length, ltb}
use Rattle.ids.specs.Ids.{given_els, all_below}
use Rattle.signature.specs.Model.{Sig}
use Rattle.semantics.specs.Structure as model
use Rattle.semantics.specs.Structure.{func_app, pred_app}
use Rattle.apps.specs.declared.FuncApp.{FuncApp}
use Rattle.apps.specs.declared.PredApp.{PredApp}

abbrev pub given_func_app : FuncApp → model.FuncApp
given_func_app x = func_app x.func.0 (given_els x.parents) (given_els x.args) x.result.0

abbrev pub given_pred_app : PredApp → model.PredApp
given_pred_app x = pred_app x.pred.0 (given_els x.parents) (given_els x.args)

-- what a fact or an application names is there, where there are so many elements, and types, functions or predicates

abbrev pub fact_within : ℕ → ℕ → model.Fact → Bool
fact_within els types f = ltb f.el els && (ltb f.typ types && all_below els f.parents)

abbrev pub app_within : ℕ → ℕ → model.FuncApp → Bool
app_within els funcs x = ltb x.func funcs && (all_below els x.parents && (all_below els x.args && ltb x.result els))

abbrev pub pred_app_within : ℕ → ℕ → model.PredApp → Bool
pred_app_within els preds x = ltb x.pred preds && (all_below els x.parents && all_below els x.args)

abbrev pub fact_declared : Sig → model.Structure → model.Fact → Bool
fact_declared g s f = fact_within (length s.links) (length g.types) f

abbrev pub app_declared : Sig → model.Structure → model.FuncApp → Bool
app_declared g s x = app_within (length s.links) (length g.funcs) x

abbrev pub pred_app_declared : Sig → model.Structure → model.PredApp → Bool
pred_app_declared g s x = pred_app_within (length s.links) (length g.preds) x
