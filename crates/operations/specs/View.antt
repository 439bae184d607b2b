-- What the pass of identities and composites works on, as the definitions speak of it.
use Rattle.std.specs.Prelude.{ℕ, ◌+◌, ◌≤◌, ◌≡◌, Bool, List, length}
use Rattle.ids.specs.Ids.{els_of}
use Rattle.ids.specs.Sorted.{Sorted}
use Rattle.signature.specs.Model.{Sig}
use Rattle.semantics.specs.Structure.{PredApp, compare_func_app, max_func_apps}
use Rattle.semantics.specs.Types.{first_met}
use Rattle.semantics.specs.Applying.{equating, equate}
use Rattle.semantics.specs.MapLaws as semantics
use Rattle.semantics.specs.MapLaws.{MapLaw, equation}
use Rattle.semantics.specs.Close as closing
use Rattle.semantics.specs.Close.{operation_pass}
use Rattle.el_rows.specs.View.{links_in, marks_in}
use Rattle.std.specs.declared.option.Option as option
use Rattle.facts.specs.declared.Fact as fact
use Rattle.apps.specs.declared.FuncApp as code
use Rattle.equalities.specs.declared.Pair.{Pair}
use Rattle.el_rows.specs.declared.El.{El}
use Rattle.merging.specs.declared.Tally.{Tally}
use Rattle.merging.specs.View.{tally, met_of, lent, core_of, pairs_in, ElsHeld, PairsHeld}
use Rattle.operations.specs.declared.Turn.{Turn}
use Rattle.operations.specs.declared.Side.{Side}
use Rattle.operations.specs.declared.Equation.{Equation}
use Rattle.rows.specs.View.{func_apps_in}

-- what the pass alters of the counts: the function applications, the pairs, and the number met
abbrev pub with_operations_counted : ℕ → ℕ → option.Option ℕ → Tally → Tally
with_operations_counted apps ps m c =
    tally c.facts apps ps c.is_sorted c.is_marked m c.merges c.added

abbrev pub said : Tally → Bool → Turn
said c worked = record { counts = c; worked = worked }

-- the tables that the pass alters, and the turn
pub record Tables : Type 0 where
  pub els : List El
  pub apps : List code.FuncApp
  pub pairs : List Pair
  pub turn : Turn

abbrev pub tables : List El → List code.FuncApp → List Pair → Turn → Tables
tables els apps pairs t = record { els = els; apps = apps; pairs = pairs; turn = t }

-- as a turn, with the facts, which the pass does not see
abbrev pub turn_of : List fact.Fact → Tables → closing.Turn
turn_of facts t =
    closing.turn (core_of (lent t.els facts t.pairs t.turn.counts)) (func_apps_in t.turn.counts.func_apps t.apps) t.turn.worked

-- there is room for as many applications as 01 allows, as many are in use as the counts say, and they are in order
pub record AppsHeld (apps : List code.FuncApp) (c : Tally) : Type 0 where
  pub long : length apps ≡ max_func_apps
  pub few : c.func_apps ≤ max_func_apps
  pub sorted : Sorted compare_func_app (func_apps_in c.func_apps apps)

pub record TablesHeld (t : Tables) : Type 0 where
  pub els_held : ElsHeld t.els t.turn.counts
  pub apps_held : AppsHeld t.apps t.turn.counts
  pub pairs_held : PairsHeld t.pairs t.turn.counts

-- The pass in progress, begun at `before`: it is at `now`, and what remains to do there, `rest`, gives what the whole does.
pub record TurnToward (before now : Tables) (rest whole : closing.Turn → closing.Turn) : Type 0 where
  pub is : (facts : List fact.Fact) → rest (turn_of facts now) ≡ whole (turn_of facts before)
  pub holds : TablesHeld now
  pub counts : now.turn.counts
      ≡ with_operations_counted now.turn.counts.func_apps now.turn.counts.pairs now.turn.counts.met before.turn.counts

-- the tables come to what f makes of the turn
abbrev pub TurnBy : Tables → Tables → (closing.Turn → closing.Turn) → Type 0
TurnBy before after f = TurnToward before after (λ t. t) f

-- the two elements of p equated: k pairs were queued before, and r says whether the roots differ
pub record Equates (k : ℕ) (p : Pair) (els els' : List El) (pairs pairs' : List Pair) (r : Bool) : Type 0 where
  pub is : equating (links_in els') (pairs_in (k + 1) pairs') r ≡ equate (links_in els) (pairs_in k pairs) p.lhs.0 p.rhs.0
  pub marks : marks_in els' ≡ marks_in els
  pub pairs_long : length pairs' ≡ length pairs

-- a number is met: the one met first stays
pub record Meets (n : ℕ) (c r : Tally) : Type 0 where
  pub is : met_of r.met ≡ first_met n (met_of c.met)
  pub counts : r ≡ with_operations_counted c.func_apps c.pairs r.met c

abbrev pub side_of : Side → semantics.Side
side_of x = semantics.side x.func.0 x.el.0

-- what an equation says
abbrev pub law_of : Equation → MapLaw
law_of e = equation (els_of e.parents) (side_of e.left) (side_of e.right)

-- the whole pass, whatever the predicate applications, which it does not read
abbrev pub ObeysLaws : Sig → Tables → Tables → Type 0
ObeysLaws g before after = (preds : List PredApp) → TurnBy before after (operation_pass g preds)
