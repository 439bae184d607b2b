-- The tables of applications as the definitions speak of them.
use Rattle.std.specs.Prelude.{ℕ, List, [], map, take}
use Rattle.std.proofs.Math.Option.{Option, none, some}
use Rattle.ids.specs.declared.ElId.{ElId}
use Rattle.ids.specs.declared.ElIds.{ElIds}
use Rattle.ids.specs.declared.FuncId.{FuncId}
use Rattle.ids.specs.declared.PredId.{PredId}
use Rattle.ids.specs.Ids.{els_of}
use Rattle.ids.specs.Table.{Insertion}
use Rattle.semantics.specs.Structure as model
use Rattle.semantics.specs.Structure.{func_app, pred_app}
use Rattle.apps.specs.declared.FuncApp.{FuncApp}
use Rattle.apps.specs.declared.FuncApps.{FuncApps}
use Rattle.apps.specs.declared.InsertedFuncApp.{InsertedFuncApp}
use Rattle.apps.specs.declared.PredApp.{PredApp}
use Rattle.apps.specs.declared.PredApps.{PredApps}
use Rattle.apps.specs.declared.InsertedPredApp.{InsertedPredApp}
use Rattle.apps.specs.declared.Stored.{Stored}
use Rattle.apps.specs.declared.Stored.TheVariants.{Result, Nothing}

-- an application as it is stored
abbrev pub func_app_of : FuncApp → model.FuncApp
func_app_of x = func_app x.func.0 (els_of x.parents) (els_of x.args) x.result.0

abbrev pub pred_app_of : PredApp → model.PredApp
pred_app_of x = pred_app x.pred.0 (els_of x.parents) (els_of x.args)

-- the applications of a table
abbrev pub func_apps_of : FuncApps → List model.FuncApp
func_apps_of t = map func_app_of (take t.len t.items)

abbrev pub pred_apps_of : PredApps → List model.PredApp
pred_apps_of t = map pred_app_of (take t.len t.items)

-- the applications of the code, built
abbrev pub new_func_app : FuncId → ElIds → ElIds → ElId → FuncApp
new_func_app func parents args result = record { func = func; parents = parents; args = args; result = result }

abbrev pub new_pred_app : PredId → ElIds → ElIds → PredApp
new_pred_app pred parents args = record { pred = pred; parents = parents; args = args }

-- what stands for an entry past the end of an array
abbrev pub no_func_app : FuncApp
no_func_app = new_func_app (record { 0 = 0 }) (record { ids = []; len = 0 }) (record { ids = []; len = 0 }) (record { 0 = 0 })

abbrev pub no_pred_app : PredApp
no_pred_app = new_pred_app (record { 0 = 0 }) (record { ids = []; len = 0 }) (record { ids = []; len = 0 })

abbrev pub inserted_func_app : InsertedFuncApp → Insertion model.FuncApp
inserted_func_app r = record { grew = r.grew; full = r.full; items = func_apps_of r.func_apps }

abbrev pub inserted_pred_app : InsertedPredApp → Insertion model.PredApp
inserted_pred_app r = record { grew = r.grew; full = r.full; items = pred_apps_of r.pred_apps }

-- the result that is found
abbrev pub found : Stored → Option ℕ
found (Result e) = some e.0
found Nothing = none
