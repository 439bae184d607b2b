-- An application inserted in a round, on rows, and values given from key to key. Of the application: its key is new, or it has the result that is there, or it queues a pair, or there is no room.
use mathlib.Core.Path.{◌≡◌, refl, sym, ap, subst, ◌∙◌}
use mathlib.Core.Logic.{◌≢◌}
use mathlib.Core.Bool.{Bool, true, not, ◌||◌, or-true, or-false}
use mathlib.Core.List.{List, [], ◌∷◌, map, reverse, reverse-append}
use mathlib.Core.Option.{Option, none, some}
use Prim.Native.Nat.{ℕ, ◌+◌, ◌≤◌, ◌<◌}
use native.Mathlib.Omega.{arith}
use lib.ListN.{length, take, get_or, set, length-set, length-reverse}
use lib.Dec.{eqb}
use borrow.Author.Tests.{le-leb, lt-leb, eq-eqb, ne_eqb}
use Rattle.ids.specs.Answers.{no_room}
use Rattle.ids.specs.declared.Place.TheVariants.{Before, At}
use Rattle.ids.specs.Table.{lookup_of, position_from}
use Rattle.ids.proofs.Sorted.{placed_sorted}
use Rattle.ids.proofs.Tables.{before_none}
use Rattle.ids.proofs.Tests.{chosen, unchosen}
use Rattle.ids.proofs.Views.{length_view, view_pushed}
use Rattle.rows.specs.Table.{RowPlaced, Inserted}
use Rattle.rows.proofs.Positions.{row_found}
use Rattle.rows.proofs.Shifting.{inserted_before}
use Rattle.unification.specs.Roots.{root_of, short_of}
use Rattle.semantics.specs.Structure.{FuncApp, func_app, pair, compare_func_app, canonical_func_app, max_pairs, max_func_apps}
use Rattle.semantics.specs.Types.{core, any_marked}
use Rattle.semantics.specs.Applying.{equating, equate, applied_equal, apply_at, insert_func_app_or_equate}
use Rattle.semantics.specs.MapLaws.{Side, equation}
use Rattle.semantics.specs.Close as closing
use Rattle.semantics.specs.Close.{applied_turn, apply_turn, key_of, give_to, give, equalize, obey}
use Rattle.semantics.proofs.Operations.{inserted_turn, kept_turn, queued_turn, full_turn, rooted_in}
use Rattle.semantics.proofs.Orders.{func_app_ordered}
use Rattle.el_rows.specs.View.{links_in, Shortened}
use Rattle.merging.specs.declared.Tally.{Tally}
use Rattle.merging.specs.View.{pairs_in}
use Rattle.semantics.specs.Structure as model
use Rattle.facts.specs.declared.Fact as fact
use Rattle.apps.specs.declared.FuncApp as code
use Rattle.equalities.specs.declared.Pair.{Pair}
use Rattle.equalities.specs.View.{pair_of}
use Rattle.el_rows.specs.declared.El.{El}
use Rattle.operations.specs.declared.Turn.{Turn}
use Rattle.operations.specs.View.{with_operations_counted, said, Tables, tables, turn_of, TablesHeld, TurnBy, Equates, Meets}
use Rattle.operations.proofs.Turns.{follows_here}
use Rattle.apps.specs.View.{func_app_of}
use Rattle.rows.specs.View.{func_apps_in}

-- The application as roots, z, meets the entry with its key.
module _ (x z : FuncApp) (t : closing.Turn) (is : z ≡ rooted_in t x) where
  meets_entry : {o : Option FuncApp} → lookup_of compare_func_app z t.apps ≡ o
      → applied_turn (apply_at o z t.core.links t.core.pairs t.apps) t ≡ apply_turn x t
  unfolding apply_turn insert_func_app_or_equate
  meets_entry e =
      ap (λ (o : Option FuncApp). applied_turn (apply_at o z t.core.links t.core.pairs t.apps) t) (sym e)
      ∙ ap (λ (w : FuncApp). applied_turn (apply_at (lookup_of compare_func_app w t.apps) w t.core.links t.core.pairs t.apps) t) is

  module _ (e : lookup_of compare_func_app z t.apps ≡ none) where
    pub apply_new : length t.apps < max_func_apps → inserted_turn z t ≡ apply_turn x t
    unfolding applied_turn apply_at
    apply_new h = unchosen (full_turn t) (lt-leb max_func_apps (length t.apps) h) ∙ meets_entry e

    pub apply_no_room : max_func_apps ≤ length t.apps → full_turn t ≡ apply_turn x t
    unfolding applied_turn apply_at
    apply_no_room h = chosen (inserted_turn z t) (le-leb max_func_apps (length t.apps) h) ∙ meets_entry e

  module _ (y : FuncApp) (e : lookup_of compare_func_app z t.apps ≡ some y) where
    pub apply_same : y.result ≡ z.result → kept_turn t ≡ apply_turn x t
    unfolding applied_turn apply_at
    apply_same same =
        ap (λ a. applied_turn a t) (chosen _ (eq-eqb y.result z.result same)) ∙ meets_entry e

    module _ (differ : y.result ≢ z.result) where
      other : applied_turn (applied_equal (equate t.core.links t.core.pairs y.result z.result) t.core.pairs t.apps) t ≡ apply_turn x t
      unfolding apply_at
      other = ap (λ a. applied_turn a t) (unchosen _ (ne_eqb y.result z.result differ)) ∙ meets_entry e

      pub apply_other : length t.core.pairs < max_pairs → queued_turn y.result z.result t ≡ apply_turn x t
      unfolding applied_turn applied_equal
      apply_other h = unchosen (full_turn t) (lt-leb max_pairs (length t.core.pairs) h) ∙ other

      pub apply_unqueued : max_pairs ≤ length t.core.pairs → full_turn t ≡ apply_turn x t
      unfolding applied_turn applied_equal
      apply_unqueued h = chosen (queued_turn y.result z.result t) (le-leb max_pairs (length t.core.pairs) h) ∙ other

-- Two elements equated: both paths are shortened, and the pair is queued.
pub rows_equated : {k : ℕ} {p : Pair} {els first els' : List El} {pairs : List Pair} {x y : ℕ} {r : Bool} → k < length pairs
    → Shortened p.lhs.0 els first x → Shortened p.rhs.0 first els' y → r ≡ not (eqb x y) → Equates k p els els' pairs (set pairs k p) r
unfolding equate
rows_equated {k} {p} {els} {pairs = pairs} room s t e =
    let ls : List ℕ = links_in els in
    let queued : pairs_in (k + 1) (set pairs k p) ≡ pair_of p ∷ pairs_in k pairs =
    ap reverse (view_pushed pair_of k pairs p room) ∙ reverse-append (map pair_of (take k pairs)) (pair_of p ∷ []) in
    let links : links_in _ ≡ short_of (short_of ls p.lhs.0) p.rhs.0 = t.links ∙ ap (λ (l : List ℕ). short_of l p.rhs.0) s.links in
    let root : _ ≡ root_of (short_of ls p.lhs.0) p.rhs.0 = t.is ∙ ap (λ (l : List ℕ). root_of l p.rhs.0) s.links in
    record {
      is = λ i. equating (links i) (queued i) ((e ∙ (λ j. not (eqb (s.is j) (root j)))) i);
      marks = t.marks ∙ s.marks;
      pairs_long = length-set pairs k p;
    }

-- On rows: the tables hold, and z is the application as roots.
module _ {els : List El} {apps : List code.FuncApp} {pairs : List Pair} {t : Turn} (h : TablesHeld (tables els apps pairs t)) (x z : FuncApp)
    (is : z ≡ canonical_func_app (links_in els) x) where
  abbrev c : Tally
  c = t.counts

  abbrev start : Tables
  start = tables els apps pairs t

  -- as many are there as the counts say
  apps_there : length (func_apps_in c.func_apps apps) ≡ c.func_apps
  apps_there = omega (arith, length_view func_app_of c.func_apps apps, h.apps_held.few, h.apps_held.long)

  pairs_there : length (pairs_in c.pairs pairs) ≡ c.pairs
  pairs_there = length-reverse (map pair_of (take c.pairs pairs)) ∙ omega (arith, length_view pair_of c.pairs pairs, h.pairs_held.few, h.pairs_held.long)

  -- number 9 is met
  full : {r : Tally} → Meets no_room c r → ((facts : List fact.Fact) → full_turn (turn_of facts start) ≡ apply_turn x (turn_of facts start))
      → TurnBy start (tables els apps pairs (said r t.worked)) (apply_turn x)
  full {r} m e = record {
    is = λ facts.
        let w = turn_of facts start in
        (λ i. turn_of facts (tables els apps pairs (said (m.counts i) t.worked)))
        ∙ (λ i. closing.turn (core w.core.links w.core.marks w.core.facts w.core.pairs w.core.merges w.core.added (m.is i)) w.apps w.worked)
        ∙ e facts;
    holds =
        subst (λ (n : Tally). TablesHeld (tables els apps pairs (said n t.worked))) (sym m.counts) (record {
          els_held = record { unmarked = h.els_held.unmarked };
          apps_held = record { long = h.apps_held.long; few = h.apps_held.few; sorted = h.apps_held.sorted };
          pairs_held = record { long = h.pairs_held.long; few = h.pairs_held.few };
        });
    counts = m.counts ∙ (λ i. with_operations_counted (sym m.counts i).func_apps (sym m.counts i).pairs r.met c);
  }

  -- its key is new
  module _ (at : ℕ) (e : position_from compare_func_app z 0 (func_apps_in c.func_apps apps) ≡ Before at) where
    absent : lookup_of compare_func_app z (func_apps_in c.func_apps apps) ≡ none
    absent = before_none compare_func_app z z at (func_apps_in c.func_apps apps) e

    pub row_placed : {row : code.FuncApp} {after : List code.FuncApp} → c.func_apps < max_func_apps → func_app_of row ≡ z
        → RowPlaced c.func_apps at row apps after
        → TurnBy start (tables els after pairs (said (with_operations_counted (c.func_apps + 1) c.pairs c.met c) true)) (apply_turn x)
    row_placed {after = after} room row_is p =
        let put : Inserted compare_func_app func_app_of z c.func_apps apps after (c.func_apps + 1) =
        inserted_before compare_func_app func_app_of z c.func_apps apps (omega (arith, h.apps_held.long)) (sym e) refl row_is p in
        record {
          is = λ facts.
              (λ i. closing.turn (turn_of facts start).core (put.is i) (sym (or-true t.worked) i))
              ∙ apply_new x z (turn_of facts start) is absent (omega (arith, apps_there));
          holds = record {
            els_held = record { unmarked = h.els_held.unmarked };
            apps_held = record {
              long = put.long ∙ h.apps_held.long;
              few = omega arith;
              sorted = rw put.is (placed_sorted func_app_ordered z (func_apps_in c.func_apps apps) h.apps_held.sorted);
            };
            pairs_held = record { long = h.pairs_held.long; few = h.pairs_held.few };
          };
          counts = refl;
        }

    pub row_full : {r : Tally} → max_func_apps ≤ c.func_apps → Meets no_room c r → TurnBy start (tables els apps pairs (said r t.worked)) (apply_turn x)
    row_full most m = full m (λ facts. apply_no_room x z (turn_of facts start) is absent (omega (arith, apps_there)))

  -- y has it
  module _ (at : ℕ) (y : FuncApp) (e : position_from compare_func_app z 0 (func_apps_in c.func_apps apps) ≡ At at)
      (d₀ : code.FuncApp) (y-is : y ≡ func_app_of (get_or apps at d₀)) where
    found : lookup_of compare_func_app z (func_apps_in c.func_apps apps) ≡ some y
    found = row_found compare_func_app func_app_of z c.func_apps apps d₀ e y-is

    pub row_same : y.result ≡ z.result → TurnBy start start (apply_turn x)
    row_same same = record {
      is = λ facts. ap (λ (b : Bool). closing.turn (turn_of facts start).core (turn_of facts start).apps b) (sym (or-false t.worked))
          ∙ apply_same x z (turn_of facts start) is y found same;
      holds = h;
      counts = refl;
    }

    module _ (differ : y.result ≢ z.result) where
      pub row_unqueued : {r : Tally} → max_pairs ≤ c.pairs → Meets no_room c r → TurnBy start (tables els apps pairs (said r t.worked)) (apply_turn x)
      row_unqueued most m = full m (λ facts. apply_unqueued x z (turn_of facts start) is y found differ (omega (arith, pairs_there)))

      pub row_queued : {els' : List El} {pairs' : List Pair} {p : Pair} {d b : Bool} → c.pairs < max_pairs
          → pair_of p ≡ pair y.result z.result → Equates c.pairs p els els' pairs pairs' d → b ≡ (t.worked || d)
          → TurnBy start (tables els' apps pairs' (said (with_operations_counted c.func_apps (c.pairs + 1) c.met c) b)) (apply_turn x)
      row_queued {p = p} room says q b-is = record {
        is = λ facts.
            let w = turn_of facts start in
            ap (closing.turn _ _) b-is
            ∙ (λ i. closing.turn (core (q.is i).links (q.marks i) w.core.facts (q.is i).pairs w.core.merges w.core.added w.core.met)
            w.apps (t.worked || (q.is i).differ))
            ∙ ap (λ (r : model.Pair). queued_turn r.lhs r.rhs w) says
            ∙ apply_other x z w is y found differ (omega (arith, pairs_there));
        holds = record {
          els_held = record {
            unmarked = λ none_marked. ap any_marked q.marks ∙ h.els_held.unmarked none_marked;
          };
          apps_held = record { long = h.apps_held.long; few = h.apps_held.few; sorted = h.apps_held.sorted };
          pairs_held = record { long = q.pairs_long ∙ h.pairs_held.long; few = omega arith };
        };
        counts = refl;
      }

-- The value at a key is given to another.

given_none : (x y : FuncApp) (t : closing.Turn) → lookup_of compare_func_app x t.apps ≡ none → t ≡ give x y t
unfolding give give_to
given_none x y t e = ap (λ (o : Option FuncApp). give_to y o t) (sym e)

given_some : (x y : FuncApp) (t : closing.Turn) {z : FuncApp} → lookup_of compare_func_app x t.apps ≡ some z
    → apply_turn (func_app y.func y.parents y.args z.result) t ≡ give x y t
unfolding give give_to
given_some x y t e = ap (λ (o : Option FuncApp). give_to y o t) (sym e)

-- there is none
pub none_given : {t : Tables} (x y : FuncApp) {at : ℕ} → TablesHeld t
    → position_from compare_func_app x 0 (func_apps_in t.turn.counts.func_apps t.apps) ≡ Before at → TurnBy t t (give x y)
none_given {t} x y {at} h e = record {
  is = λ facts. given_none x y (turn_of facts t) (before_none compare_func_app x x at (turn_of facts t).apps e);
  holds = h;
  counts = refl;
}

-- z has it
pub value_given : {before after : Tables} (x y : FuncApp) {z : FuncApp} {at : ℕ}
    → position_from compare_func_app x 0 (func_apps_in before.turn.counts.func_apps before.apps) ≡ At at → (d : code.FuncApp) → z ≡ func_app_of (get_or before.apps at d)
    → TurnBy before after (apply_turn (func_app y.func y.parents y.args z.result)) → TurnBy before after (give x y)
value_given {before} x y e d is p = record {
  is = λ facts. p.is facts
      ∙ given_some x y (turn_of facts before) (row_found compare_func_app func_app_of x before.turn.counts.func_apps before.apps d e is);
  holds = p.holds;
  counts = p.counts;
}

-- there and back
pub agreed : (ps : List ℕ) (l r : Side) {before now after : Tables} {x y : FuncApp}
    → x ≡ key_of (links_in before.els) ps l → y ≡ key_of (links_in before.els) ps r
    → TurnBy before now (give x y) → TurnBy now after (give y x) → TurnBy before after (obey (equation ps l r))
unfolding obey equalize
agreed ps l r {before} x-is y-is p q = follows_here p q (λ facts. λ i. equalize (x-is i) (y-is i) (turn_of facts before))
