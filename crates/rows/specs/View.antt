-- The first n rows of a table as the definitions speak of them.
use Rattle.std.specs.Prelude.{ℕ, List, map, take}
use Rattle.semantics.specs.Structure as model
use Rattle.facts.specs.declared.Fact.{Fact}
use Rattle.facts.specs.View.{fact_of}
use Rattle.apps.specs.declared.FuncApp.{FuncApp}
use Rattle.apps.specs.declared.PredApp.{PredApp}
use Rattle.apps.specs.View.{func_app_of, pred_app_of}

abbrev pub facts_in : ℕ → List Fact → List model.Fact
facts_in n rows = map fact_of (take n rows)

abbrev pub func_apps_in : ℕ → List FuncApp → List model.FuncApp
func_apps_in n rows = map func_app_of (take n rows)

abbrev pub pred_apps_in : ℕ → List PredApp → List model.PredApp
pred_apps_in n rows = map pred_app_of (take n rows)
