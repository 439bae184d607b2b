-- What `functionality` leaves, as the definitions speak of it.
use Rattle.std.specs.Prelude.{ℕ, ◌≤◌, ◌≡◌, false, List, [], length, ltb}
use Rattle.semantics.specs.Structure.{max_func_apps, max_pairs}
use Rattle.semantics.specs.Close as closing
use Rattle.semantics.specs.Close.{rewriting, enter_all}
use Rattle.apps.specs.declared.FuncApp.{FuncApp}
use Rattle.equalities.specs.declared.Pair.{Pair}
use Rattle.merging.specs.declared.Tally.{Tally}
use Rattle.merging.specs.View.{with_apps_and_pairs_count, pairs_in}
use Rattle.rows.specs.View.{func_apps_in}

-- nothing is rewritten yet
abbrev pub none_rewritten : closing.Rewritten
none_rewritten = rewriting [] [] false

-- The applications are rewritten in place by the links, and the pairs that this queues stand in the queue. Nothing else is altered.
pub record Enters (ls : List ℕ) (c : Tally) (apps apps' : List FuncApp) (pairs' : List Pair) (r : Tally) : Type 0 where
  pub is : rewriting (func_apps_in r.func_apps apps') (pairs_in r.pairs pairs') (ltb 0 r.pairs)
      ≡ enter_all ls (func_apps_in c.func_apps apps) none_rewritten
  pub counts : r ≡ with_apps_and_pairs_count r.func_apps r.pairs c
  pub apps_few : r.func_apps ≤ max_func_apps
  pub apps_long : length apps' ≡ max_func_apps
  pub pairs_few : r.pairs ≤ max_pairs
  pub pairs_long : length pairs' ≡ max_pairs
