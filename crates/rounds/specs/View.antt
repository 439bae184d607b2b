-- What a round and the rounds leave, as the definitions speak of it, and how much they count.
use Rattle.std.specs.Prelude.{ℕ, suc, ◌+◌, ◌*◌, ◌≤◌, ◌≡◌, length, Bool, List}
use Rattle.signature.specs.Model.{Sig}
use Rattle.semantics.specs.Structure.{PredApp, max_func_apps, max_pairs}
use Rattle.semantics.specs.Close as closing
use Rattle.semantics.specs.Close.{fuel}
use Rattle.apps.specs.declared.FuncApp.{FuncApp}
use Rattle.merging.specs.declared.Tally.{Tally}
use Rattle.merging.specs.View.{Lent, core_of, LentHeld, work_of}
use Rattle.typing.specs.Bounds.{all_demands}
use Rattle.rows.specs.View.{func_apps_in}

-- How many merges and additions are counted at most, for every structure, so that no count overflows.

abbrev pub one_round : ℕ
one_round = max_pairs + all_demands

abbrev pub all_rounds : ℕ
all_rounds = suc fuel * one_round

-- the rounds, and the impositions, which count no more than a round
abbrev pub one_close : ℕ
one_close = suc (suc fuel) * one_round

-- there is room for as many applications as 01 allows, and as many are in use as the counts say
abbrev pub AppsUsed : List FuncApp → Tally → Type 0
AppsUsed apps c = (c.func_apps ≤ max_func_apps) × (length apps ≡ max_func_apps)

-- the tables are as they can be lent to another round
pub record LentAgain (now : Lent) (apps : List FuncApp) : Type 0 where
  pub holds : LentHeld now
  pub apps_used : AppsUsed apps now.counts

-- a round from `before` with the applications `apps`, to `now` with `apps'`
pub record RoundIs (g : Sig) (preds : List PredApp) (before : Lent) (apps : List FuncApp) (now : Lent) (apps' : List FuncApp) (worked : Bool) : Type 0 where
  pub is : closing.turn (core_of now) (func_apps_in now.counts.func_apps apps') worked
      ≡ closing.round g preds (func_apps_in before.counts.func_apps apps) (core_of before)
  pub ready : LentAgain now apps'
  pub count_most : work_of now.counts ≤ one_round + work_of before.counts

-- the rounds from `before` with the applications `apps`, to `now` with `apps'`
pub record RoundsAre (g : Sig) (preds : List PredApp) (before : Lent) (apps : List FuncApp) (now : Lent) (apps' : List FuncApp) (ran : ℕ) : Type 0 where
  pub is : closing.rounds_made (core_of now) (func_apps_in now.counts.func_apps apps') ran
      ≡ closing.rounds g preds (func_apps_in before.counts.func_apps apps) (core_of before)
  pub ready : LentAgain now apps'
  pub ran_most : ran ≤ suc fuel
  pub count_most : work_of now.counts ≤ ran * one_round + work_of before.counts
