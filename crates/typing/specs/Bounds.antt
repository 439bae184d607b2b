-- How many merges and additions a typing pass counts at most, for every structure, so that no count overflows.
use Rattle.std.specs.Prelude.{ℕ, ◌+◌, ◌*◌}
use Rattle.ids.specs.Limits.{max_list}
use Rattle.semantics.specs.Structure.{max_func_apps, max_pred_apps}
use Rattle.imposing.specs.Bounds.{one_imposed}

-- the elements of a demand
abbrev pub one_demand : ℕ
one_demand = max_list * one_imposed

-- arguments of function applications, arguments of predicate applications, results
abbrev pub all_funcs : ℕ
all_funcs = max_func_apps * one_demand

abbrev pub all_preds : ℕ
all_preds = max_pred_apps * one_demand

abbrev pub all_demands : ℕ
all_demands = all_funcs + all_preds + all_funcs
