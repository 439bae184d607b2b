-- What an application leaves, as the definitions speak of it, also where there is no room.
use Rattle.std.specs.Prelude.{ℕ, true, false, List}
use Rattle.unification.specs.Roots.{links_of}
use Rattle.semantics.specs.Structure as model
use Rattle.semantics.specs.Applying as applying
use Rattle.semantics.specs.Applying.{applied}
use Rattle.apps.specs.View.{func_apps_of}
use Rattle.equalities.specs.View.{pairs_of}
use Rattle.applying.specs.declared.Applied.{Applied}

abbrev pub applied_of : Applied → applying.Applied
applied_of r = applied (links_of r.unification) (pairs_of r.pairs) (func_apps_of r.func_apps) r.yes r.full

-- what the definition gives, unless an entry is needed and its table is at its limit: then nothing changes, and `full` says so
unfoldable pub where_room : applying.Applied → List ℕ → List model.Pair → List model.FuncApp → applying.Applied
where_room a ls ps apps = elim a.full [ true ↦ applied ls ps apps false true | false ↦ a ]

-- `insert_func_app_or_equate` where there is room, and with its `full` in any case
unfoldable pub apply_in : model.FuncApp → List ℕ → List model.Pair → List model.FuncApp → applying.Applied
apply_in x ls ps apps = where_room (applying.insert_func_app_or_equate x ls ps apps) ls ps apps
